-- "a tick is defined on each such state below the clock's end", and keeps it well formed; so does a run; and what any run adds up to.
use mathlib.Core.Bool.{Bool, true}
use mathlib.Core.List.{List, [], ◌∷◌}
use mathlib.Core.Path.{◌≡◌, refl, sym, ap, ◌∙◌, subst}
use Prim.Native.Nat.{ℕ, zero, suc, ◌+◌, ◌≤◌, ◌<◌}
use native.Mathlib.Nat.{add-zero, zero-add, add-suc}
use native.Mathlib.Omega.{arith}
use lib.Dec.{leb, eqb}
use lib.ListN.{length, get_or, length-map, get_or-map}
use borrow.Author.Tests.{leb-true, eqb-true, le-leb, eq-eqb}
use Rattle.law.specs.Sums.{every, map_from}
use Rattle.law.specs.Refusal.{within}
use Rattle.law.specs.Table.{Task, row, WellFormed}
use Rattle.law.specs.Tick.{Row, State, no_row, full_length, release, release_row, release_all, advance, advance_row, advance_all, choose, begin, finish, tick_with, tick, run, clock_end}
use Rattle.law.specs.State.{tasks_of, table_well, row_well, state_well}
use Rattle.law.specs.Sound.{SoundRow, SoundState, Lengths}
use Rattle.law.proofs.Tests.{both_left, both_right, both_true, bit_most}
use Rattle.law.proofs.Question.{within_low, within_high, within_is}
use Rattle.law.proofs.Sums.{map_from_length, map_from_at}
use Rattle.law.proofs.Table.{clean_well_formed, well_formed_clean}
use Rattle.law.proofs.Lists.{every_at}
use Rattle.law.proofs.Sound.{row_facts, row_tests, release_sound, advance_sound}

-- ---- the tests of a whole state are the facts at phase 0

every_is : {A : Type 0} (p : A → Bool) (l : List A) (d : A) → ((i : ℕ) → i < length l → p (get_or l i d) ≡ true) → every p l ≡ true
unfolding every
every_is p [] d h = refl
every_is p (x ∷ l) d h = both_true _ _ (h 0 (omega arith)) (every_is p l d (λ i q. h (suc i) (omega arith)))

pub task_at_lem : (rows : List Row) (i : ℕ) → row (tasks_of rows) i ≡ (get_or rows i no_row).core.task
task_at_lem rows i = get_or-map (λ (r : Row). r.core.task) rows i no_row

pub tasks_length : (rows : List Row) → length (tasks_of rows) ≡ length rows
tasks_length rows = length-map rows (λ r. r.core.task)

table_facts : (tasks : List Task) → table_well tasks ≡ true → WellFormed tasks
unfolding table_well
table_facts tasks e =
    let n = both_left _ _ e in
    clean_well_formed tasks (eqb-true _ _ (both_right (within 1 32 (length tasks)) _ e)) (within_low 1 32 _ n) (within_high 1 32 _ n)

table_tests : (tasks : List Task) → WellFormed tasks → table_well tasks ≡ true
unfolding table_well
table_tests tasks w =
    both_true _ _ (within_is 1 32 _ w.rows_low w.rows_high) (eq-eqb _ _ (well_formed_clean tasks w))

pub state_facts : (s : State) → state_well s ≡ true → SoundState 0 s
unfolding state_well
state_facts s e =
    let t = both_right (table_well (tasks_of s.rows)) _ e in
    let d = both_right (leb s.time clock_end) _ t in
    let w = table_facts (tasks_of s.rows) (both_left _ _ e) in
    record {
      table = w;
      time = omega (arith, leb-true s.time clock_end (both_left _ _ t));
      idle = leb-true s.idle s.time (both_left _ _ d);
      rows = λ i h. row_facts s.time (get_or s.rows i no_row)
          (rw (task_at_lem s.rows i) at (w.ranged i (omega (arith, tasks_length s.rows))))
          (every_at (row_well s.time) s.rows i no_row (both_right (leb s.idle s.time) _ d) h);
    }

pub state_tests : (s : State) → SoundState 0 s → state_well s ≡ true
unfolding state_well
state_tests s f =
    both_true _ _ (table_tests (tasks_of s.rows) f.table)
    (both_true _ _ (le-leb s.time clock_end (omega (arith, f.time)))
    (both_true _ _ (le-leb s.idle s.time f.idle)
    (every_is (row_well s.time) s.rows no_row (λ i h. row_tests s.time _ (f.rows i h)))))

-- ---- one tick

keeps_tasks : (f : ℕ → Row → Row) → ((i : ℕ) (r : Row) → (f i r).core.task ≡ r.core.task) → (i : ℕ) (rows : List Row)
    → tasks_of (map_from f i rows) ≡ tasks_of rows
unfolding map_from
keeps_tasks f h i [] = refl
keeps_tasks f h i (r ∷ rows) = λ j. h i r j ∷ keeps_tasks f h (suc i) rows j

pub begin_tasks : (work : ℕ → ℕ) (rows : List Row) → tasks_of (release_all work rows) ≡ tasks_of rows
unfolding release_all release
begin_tasks work rows = keeps_tasks (λ i. release_row (work i)) (λ i r. refl) 0 rows

pub finish_tasks : (chosen : ℕ) (rows : List Row) → tasks_of (advance_all chosen rows) ≡ tasks_of rows
unfolding advance_all advance
finish_tasks chosen rows = keeps_tasks (λ i. advance_row (eqb i chosen)) (λ i r. refl) 0 rows

-- one row of a tick's two halves
pub begun_length : (work : ℕ → ℕ) (rows : List Row) → length (release_all work rows) ≡ length rows
unfolding release_all
begun_length work rows = map_from_length (λ i. release_row (work i)) 0 rows

pub begun_at : (work : ℕ → ℕ) (rows : List Row) (i : ℕ) → i < length rows
    → get_or (release_all work rows) i no_row ≡ release_row (work i) (get_or rows i no_row)
unfolding release_all
begun_at work rows i h =
    map_from_at (λ i. release_row (work i)) 0 rows i no_row h
    ∙ ap (λ (z : ℕ). release_row (work z) (get_or rows i no_row)) (zero-add i)

pub finished_length : (chosen : ℕ) (rows : List Row) → length (advance_all chosen rows) ≡ length rows
unfolding advance_all
finished_length chosen rows = map_from_length (λ i. advance_row (eqb i chosen)) 0 rows

pub finished_at : (chosen : ℕ) (rows : List Row) (i : ℕ) → i < length rows
    → get_or (advance_all chosen rows) i no_row ≡ advance_row (eqb i chosen) (get_or rows i no_row)
unfolding advance_all
finished_at chosen rows i h =
    map_from_at (λ i. advance_row (eqb i chosen)) 0 rows i no_row h
    ∙ ap (λ (z : ℕ). advance_row (eqb z chosen) (get_or rows i no_row)) (zero-add i)

pub begin_sound : (work : ℕ → ℕ) (s : State) → SoundState 0 s → s.time < clock_end → Lengths work s.rows → SoundState 1 (begin work s)
unfolding begin
begin_sound work s f h g =
    record {
      table = subst WellFormed (sym (begin_tasks work s.rows)) f.table;
      time = omega arith;
      idle = f.idle;
      rows = λ i q. one i (omega (arith, begun_length work s.rows));
    }
  where
    one : (i : ℕ) → i < length s.rows → SoundRow 1 s.time (get_or (release_all work s.rows) i no_row)
    one i q =
        rw (begun_at work s.rows i q)
        (release_sound s.time (work i) (get_or s.rows i no_row) (f.rows i q) (g.low i q) (g.high i q))

pub finish_sound : (s : State) → SoundState 1 s → SoundState 0 (finish s)
unfolding finish
finish_sound s f =
    record {
      table = subst WellFormed (sym (finish_tasks (choose s.rows) s.rows)) f.table;
      time = omega (arith, f.time);
      idle = omega (arith, f.idle, bit_most (eqb (choose s.rows) (length s.rows)));
      rows = λ i q. one i (omega (arith, finished_length (choose s.rows) s.rows));
    }
  where
    one : (i : ℕ) → i < length s.rows → SoundRow 0 (s.time + 1) (get_or (advance_all (choose s.rows) s.rows) i no_row)
    one i q =
        rw (finished_at (choose s.rows) s.rows i q)
        (advance_sound s.time (eqb i (choose s.rows)) (get_or s.rows i no_row) (f.rows i q))

-- jobs of full length
pub full_lengths_lem : (s : State) → SoundState 0 s → Lengths (full_length s.rows) s.rows
full_lengths_lem s f = record { low = λ i h e. (f.rows i h).core.ranged.c_low; high = λ i h e. omega arith }

-- a tick, whatever the work of the jobs that it releases
module _ (work : ℕ → ℕ) (s : State) where
  pub tick_with_sound : SoundState 0 s → s.time < clock_end → Lengths work s.rows → SoundState 0 (tick_with work s)
  tick_with_sound f h g = finish_sound (begin work s) (begin_sound work s f h g)

  pub tick_with_time : (tick_with work s).time ≡ s.time + 1
  unfolding finish begin
  tick_with_time = refl

  pub tick_with_length : length (tick_with work s).rows ≡ length s.rows
  unfolding finish begin
  tick_with_length = finished_length _ (release_all work s.rows) ∙ begun_length work s.rows

  pub tick_with_tasks : tasks_of (tick_with work s).rows ≡ tasks_of s.rows
  unfolding finish begin
  tick_with_tasks = finish_tasks _ (release_all work s.rows) ∙ begin_tasks work s.rows

-- .. C among them
pub tick_sound : (s : State) → SoundState 0 s → s.time < clock_end → SoundState 0 (tick s)
unfolding tick
tick_sound s f h = tick_with_sound (full_length s.rows) s f h (full_lengths_lem s f)

pub tick_time : (s : State) → (tick s).time ≡ s.time + 1
unfolding tick
tick_time s = tick_with_time (full_length s.rows) s

pub tick_length : (s : State) → length (tick s).rows ≡ length s.rows
unfolding tick
tick_length s = tick_with_length (full_length s.rows) s

pub tick_tasks : (s : State) → tasks_of (tick s).rows ≡ tasks_of s.rows
unfolding tick
tick_tasks s = tick_with_tasks (full_length s.rows) s

-- ---- a run

pub run_time : (n : ℕ) (s : State) → (run n s).time ≡ s.time + n
unfolding run
run_time zero s = sym (add-zero s.time)
run_time (suc n) s = tick_time (run n s) ∙ omega (arith, run_time n s)

pub run_length : (n : ℕ) (s : State) → length (run n s).rows ≡ length s.rows
unfolding run
run_length zero s = refl
run_length (suc n) s = tick_length (run n s) ∙ run_length n s

pub run_tasks : (n : ℕ) (s : State) → tasks_of (run n s).rows ≡ tasks_of s.rows
unfolding run
run_tasks zero s = refl
run_tasks (suc n) s = tick_tasks (run n s) ∙ run_tasks n s

pub run_sound : (n : ℕ) (s : State) → SoundState 0 s → s.time + n ≤ clock_end → SoundState 0 (run n s)
unfolding run
run_sound zero s f h = f
run_sound (suc n) s f h = tick_sound (run n s) (run_sound n s f (omega arith)) (omega (arith, run_time n s))

-- a run of a + b is a run of b after a run of a
pub run_add : (a b : ℕ) (s : State) → run (a + b) s ≡ run b (run a s)
unfolding run
run_add a zero s = ap (λ (z : ℕ). run z s) (add-zero a)
run_add a (suc b) s = ap (λ (z : ℕ). run z s) (add-suc a b) ∙ ap tick (run_add a b s)

-- "a tick .. on each such state" and a run keep a state well formed
pub run_well : (n : ℕ) (s : State) → state_well s ≡ true → s.time + n ≤ clock_end → state_well (run n s) ≡ true
run_well n s e h = state_tests (run n s) (run_sound n s (state_facts s e) h)
