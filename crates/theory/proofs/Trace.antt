-- What the argument sees of a run, row by row, and that every run from a clean start with job lengths 1 to C looks so.
use mathlib.Core.Bool.{Bool, true}
use mathlib.Core.List.{List}
use mathlib.Core.Path.{◌≡◌, sym, ap, ◌∙◌}
use Prim.Native.Nat.{ℕ, suc, ◌≤◌, ◌<◌}
use native.Mathlib.Omega.{arith}
use lib.Dec.{eqb}
use lib.ListN.{length}
use Rattle.law.specs.Table.{Task, Ranged, row}
use Rattle.law.specs.Tick.{Core, Row, Outcome, fresh_core, core_at, release, urgent, choose, outcome, advance, release_all}
use Rattle.theory.proofs.Rows.{run_with, run_length, stepped_at, released_at, released_length, choice_high, choice_urgent}

-- the table, the length of the job that a row would release in a tick, the row chosen in a tick, and each row at the start of a tick
pub record Course : Type 0 where
  pub tasks : List Task
  pub work : ℕ → ℕ → ℕ
  pub chosen : ℕ → ℕ
  pub core : ℕ → ℕ → Core

abbrev pub task_in_lem : Course → ℕ → Task
task_in_lem x i = row x.tasks i

-- row i in tick t, once it has released
abbrev pub in_tick : Course → ℕ → ℕ → Core
in_tick x t i = release (x.work t i) (x.core t i)

abbrev pub is_chosen : Course → ℕ → ℕ → Bool
is_chosen x t i = eqb i (x.chosen t)

-- what becomes of row i's live job at the end of tick t
abbrev pub ending : Course → ℕ → ℕ → Outcome
ending x t i = outcome (is_chosen x t i) (in_tick x t i)

-- a course that steps as the ticks do, from a clean start
pub record Trace (x : Course) : Type 0 where
  pub ranged : (i : ℕ) → i < length x.tasks → Ranged (task_in_lem x i)
  pub shortest : (t i : ℕ) → i < length x.tasks → 1 ≤ x.work t i
  pub longest : (t i : ℕ) → i < length x.tasks → x.work t i ≤ (task_in_lem x i).c
  pub start : (i : ℕ) → i < length x.tasks → x.core 0 i ≡ fresh_core (task_in_lem x i)
  pub next : (t i : ℕ) → i < length x.tasks → x.core (suc t) i ≡ advance (is_chosen x t i) (in_tick x t i)
  pub chosen_high : (t i : ℕ) → i < length x.tasks → urgent (in_tick x t i) ≡ true → x.chosen t ≤ i
  pub chosen_urgent : (t i : ℕ) → i < length x.tasks → urgent (in_tick x t i) ≡ true → urgent (in_tick x t (x.chosen t)) ≡ true

-- a clean start of a table: every row waits for its first job, whatever its tally
pub record Clean (tasks : List Task) (rows : List Row) : Type 0 where
  pub as_many : length rows ≡ length tasks
  pub fresh_core_lem : (i : ℕ) → i < length tasks → core_at rows i ≡ fresh_core (row tasks i)

-- lengths from 1 to C, in every tick
pub record AllLengths (tasks : List Task) (work : ℕ → ℕ → ℕ) : Type 0 where
  pub low : (t i : ℕ) → i < length tasks → 1 ≤ work t i
  pub high : (t i : ℕ) → i < length tasks → work t i ≤ (row tasks i).c

-- the rows in tick t of the run with given lengths, once they have released
abbrev pub during_with : (ℕ → ℕ → ℕ) → ℕ → List Row → List Row
during_with work t rows = release_all (work t) (run_with work t rows)

-- that run
abbrev pub course_of : List Task → (ℕ → ℕ → ℕ) → List Row → Course
course_of tasks work rows =
    record {
      tasks = tasks;
      work = work;
      chosen = λ t. choose (during_with work t rows);
      core = λ t. core_at (run_with work t rows);
    }

module _ (tasks : List Task) (work : ℕ → ℕ → ℕ) (rows : List Row) (clean : Clean tasks rows) where
  pub still_row : (t i : ℕ) → i < length tasks → i < length (run_with work t rows)
  still_row t i h = omega (arith, run_length work t rows)

  still_released : (t i : ℕ) → i < length tasks → i < length (during_with work t rows)
  still_released t i h = omega (arith, still_row t i h, released_length (work t) (run_with work t rows))

  pub released_core : (t i : ℕ) → i < length tasks → core_at (during_with work t rows) i ≡ in_tick (course_of tasks work rows) t i
  released_core t i h = ap (λ r. r.core) (released_at (work t) (run_with work t rows) i (still_row t i h))

  module _ (t i : ℕ) (h : i < length tasks) (e : urgent (in_tick (course_of tasks work rows) t i) ≡ true) where
    high : choose (during_with work t rows) ≤ i
    high = choice_high (during_with work t rows) i (still_released t i h) (ap urgent (released_core t i h) ∙ e)

    most_urgent : urgent (in_tick (course_of tasks work rows) t (choose (during_with work t rows))) ≡ true
    most_urgent =
        sym (ap urgent (released_core t (choose (during_with work t rows)) (omega (arith, high))))
        ∙ choice_urgent (during_with work t rows) i (still_released t i h) (ap urgent (released_core t i h) ∙ e)

  pub trace_of : ((i : ℕ) → i < length tasks → Ranged (row tasks i)) → AllLengths tasks work → Trace (course_of tasks work rows)
  unfolding run_with
  trace_of ranged lengths =
      record {
        ranged = ranged;
        shortest = lengths.low;
        longest = lengths.high;
        start = clean.fresh_core_lem;
        next = λ t i h. ap (λ r. r.core) (stepped_at (work t) (run_with work t rows) i (still_row t i h));
        chosen_high = high;
        chosen_urgent = most_urgent;
      }
