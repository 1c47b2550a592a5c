-- Document 01, "One tick": the state, the four steps in their order, a run.
use Rattle.std.specs.Prelude.{Bool, true, false, List, map, ℕ, zero, suc, ◌+◌, ◌-◌, ◌*◌, ◌%◌, ◌/◌, ◌^◌, leb, ltb, eqb, length, get_or}
use Rattle.law.specs.Sums.{bit, both, pick, sum, first, largest, map_from, among}
use Rattle.law.specs.Table.{Task, no_task, kind_of}

-- "ticks until its next release (wait), the next job's place in its pattern, the live job's work left, ticks left to its deadline and kind"
pub record Core : Type 0 where
  pub task : Task
  pub wait : ℕ
  pub place : ℕ
  pub work : ℕ
  pub left : ℕ
  pub kind : ℕ

-- "a window, and counts": "released jobs, mandatory met and missed, optional met and missed, and broken windows"; and the number of met marks that
-- the window holds (document 02, 2/14: "Store it in each row's tally")
pub record Tally : Type 0 where
  pub window : ℕ
  pub released : ℕ
  pub mm : ℕ
  pub mx : ℕ
  pub om : ℕ
  pub ox : ℕ
  pub broken : ℕ
  pub held : ℕ

pub record Row : Type 0 where
  pub core : Core
  pub tally : Tally

-- "A state at time t holds the table, the time, the idle count and for each row" the above; the table goes with the rows
pub record State : Type 0 where
  pub time : ℕ
  pub idle : ℕ
  pub rows : List Row

-- "Fresh: time 0, idle 0, wait 0, place 0, nothing live, counts 0, window of k met marks standing for jobs before the first"; so its
-- number of met marks is k
abbrev pub fresh_core : Task → Core
fresh_core r = record { task = r; wait = 0; place = 0; work = 0; left = 0; kind = 0 }

abbrev pub fresh_tally : Task → Tally
fresh_tally r = record { window = 2 ^ r.k - 1; released = 0; mm = 0; mx = 0; om = 0; ox = 0; broken = 0; held = r.k }

abbrev pub fresh_row : Task → Row
fresh_row r = record { core = fresh_core r; tally = fresh_tally r }

unfoldable pub fresh : List Task → State
fresh tasks = record { time = 0; idle = 0; rows = map fresh_row tasks }

-- what stands where there is no row
abbrev pub no_core : Core
no_core = record { task = no_task; wait = 0; place = 0; work = 0; left = 0; kind = 0 }

abbrev pub no_row : Row
no_row = record { core = no_core; tally = record { window = 0; released = 0; mm = 0; mx = 0; om = 0; ox = 0; broken = 0; held = 0 } }

abbrev pub core_at : List Row → ℕ → Core
core_at rows i = (get_or rows i no_row).core

-- 1. "Every row with wait 0 releases its next job"
abbrev pub due : Core → Bool
due c = eqb c.wait 0

-- "from k - 1 to 0"
unfoldable pub next_place : Task → ℕ → ℕ
next_place r place = pick (eqb (place + 1) r.k) 0 (place + 1)

-- "with C work, D ticks to its deadline, and its kind from the pattern at its place. Its wait becomes T and its place goes up by one".
-- The work is an argument: C in a tick, a number of the log in a replay (chapter Replay).
unfoldable pub release : ℕ → Core → Core
release work c =
    record {
      task = c.task;
      wait = pick (due c) c.task.t c.wait;
      place = pick (due c) (next_place c.task c.place) c.place;
      work = pick (due c) work c.work;
      left = pick (due c) c.task.d c.left;
      kind = pick (due c) (bit (kind_of c.task c.place)) c.kind;
    }

-- 2. "Among live jobs the mandatory one of the highest row is chosen; if there is none, the optional one of the highest row; if none, the
-- tick is idle": the row, or the number of rows for idle
abbrev pub live : Core → Bool
live c = ltb 0 c.work

abbrev pub urgent : Core → Bool
urgent c = both (live c) (eqb c.kind 1)

unfoldable pub choose : List Row → ℕ
choose rows =
    pick (ltb (first (λ i. urgent (core_at rows i)) (length rows)) (length rows)) (first (λ i. urgent (core_at rows i)) (length rows))
    (first (λ i. live (core_at rows i)) (length rows))

-- 3. "The chosen job loses one unit of work": what is left of the work of a row that is chosen or not
abbrev pub work_after : Bool → Core → ℕ
work_after chosen c = c.work - bit chosen

-- 4. what becomes of a row's live job at t + 1
pub data Outcome : Type 0 where
  nothing : Outcome
  met : Outcome
  missed : Outcome

abbrev pub settles : Bool → Bool → Bool → Outcome
settles false done over = nothing
settles true true over = met
settles true false true = missed
settles true false false = nothing

-- "a job with no work left is met. A job with work left whose deadline is t + 1 is missed and dropped"
unfoldable pub outcome : Bool → Core → Outcome
outcome chosen c = settles (live c) (eqb (work_after chosen c) 0) (eqb (c.left - 1) 0)

-- "So for both kinds; work, deadline and kind become 0"
abbrev pub unless_settled : Outcome → ℕ → ℕ
unless_settled nothing x = x
unless_settled met x = 0
unless_settled missed x = 0

-- 3. "every wait, and the ticks left of every live job, fall by one" (the ticks left of a row without a live job are 0 and stay so), and 4
unfoldable pub advance : Bool → Core → Core
advance chosen c =
    record {
      task = c.task;
      wait = c.wait - 1;
      place = c.place;
      work = unless_settled (outcome chosen c) (work_after chosen c);
      left = unless_settled (outcome chosen c) (c.left - 1);
      kind = unless_settled (outcome chosen c) c.kind;
    }

-- "A settled job shifts its row's window: the newest mark is bit 0, 1 for met, older marks move up, the mark that reaches bit k is cut"
unfoldable pub shifted : ℕ → ℕ → ℕ → ℕ
shifted k window mark = (2 * window + mark) % 2 ^ k

-- the number of met marks in a window
unfoldable pub marks : ℕ → ℕ → ℕ
marks k window = among (λ b. eqb (window / 2 ^ b % 2) 1) 0 k

-- Document 02, 1/14: "the newest k - n marks still hold at least m". The newest mark is bit 0, so they are the marks of the first k - n bits
abbrev pub still_hold : ℕ → ℕ → ℕ → ℕ → Bool
still_hold m k window n = leb m (marks (k - n) window)

-- "Spare becomes the largest n for which" they do; "if the whole window holds fewer than m it is 0"
unfoldable pub spare : ℕ → ℕ → ℕ → ℕ
spare m k window = largest (still_hold m k window) k

-- "mandatory met and missed, optional met and missed, and broken windows (settlings after which the window held fewer than m met marks)".
-- The number of met marks is that of the shifted window (document 02, 2/14: "Each tick, run and fresh state keeps it true")
unfoldable pub settled : ℕ → ℕ → ℕ → ℕ → Tally → Tally
settled m k kind mark y =
    record {
      window = shifted k y.window mark;
      released = y.released;
      mm = y.mm + bit (both (eqb kind 1) (eqb mark 1));
      mx = y.mx + bit (both (eqb kind 1) (eqb mark 0));
      om = y.om + bit (both (eqb kind 0) (eqb mark 1));
      ox = y.ox + bit (both (eqb kind 0) (eqb mark 0));
      broken = y.broken + bit (ltb (marks k (shifted k y.window mark)) m);
      held = marks k (shifted k y.window mark);
    }

-- the tally amended by what became of the live job
abbrev pub amended : Outcome → Task → ℕ → Tally → Tally
amended nothing r kind y = y
amended met r kind y = settled r.m r.k kind 1 y
amended missed r kind y = settled r.m r.k kind 0 y

abbrev pub counted_release : Bool → Tally → Tally
counted_release now y =
    record {
      window = y.window;
      released = y.released + bit now;
      mm = y.mm;
      mx = y.mx;
      om = y.om;
      ox = y.ox;
      broken = y.broken;
      held = y.held;
    }

-- a whole row in steps 1 and 3 to 4: the core, which reads no tally, and then the tally
abbrev pub release_row : ℕ → Row → Row
release_row work r = record { core = release work r.core; tally = counted_release (due r.core) r.tally }

abbrev pub advance_row : Bool → Row → Row
advance_row chosen r =
    record {
      core = advance chosen r.core;
      tally = amended (outcome chosen r.core) r.core.task r.core.kind r.tally;
    }

-- the work of the jobs that a tick releases, by row: "with C work"
abbrev pub full_length : List Row → ℕ → ℕ
full_length rows i = (core_at rows i).task.c

-- steps 1 and 2: the rows after the releases; the choice is `choose` of them
unfoldable pub release_all : (ℕ → ℕ) → List Row → List Row
release_all work rows = map_from (λ i. release_row (work i)) 0 rows

-- steps 3 and 4, with the row that was chosen
unfoldable pub advance_all : ℕ → List Row → List Row
advance_all chosen rows = map_from (λ i. advance_row (eqb i chosen)) 0 rows

-- the second half of a tick: "Time becomes t + 1", an idle tick is counted
unfoldable pub finish : State → State
finish s =
    record {
      time = s.time + 1;
      idle = s.idle + bit (eqb (choose s.rows) (length s.rows));
      rows = advance_all (choose s.rows) s.rows;
    }

-- the first half
unfoldable pub begin : (ℕ → ℕ) → State → State
begin work s = record { time = s.time; idle = s.idle; rows = release_all work s.rows }

-- "Order within tick t": 1 to 4, with the work of the job that each row would release as an argument
abbrev pub tick_with : (ℕ → ℕ) → State → State
tick_with work s = finish (begin work s)

-- .. which is C
unfoldable pub tick : State → State
tick s = tick_with (full_length s.rows) s

-- "A run of n ticks is n such ticks"
unfoldable pub run : ℕ → State → State
run zero s = s
run (suc n) s = tick (run n s)

-- the units of work taken from jobs in the tick that begins in a state and releases jobs with the work given; and in a run
unfoldable pub units_with : (ℕ → ℕ) → State → ℕ
units_with work s =
    sum (λ i. (core_at (begin work s).rows i).work - work_after (eqb i (choose (begin work s).rows)) (core_at (begin work s).rows i)) (length s.rows)

unfoldable pub units : ℕ → State → ℕ
units zero s = 0
units (suc n) s = units n s + units_with (full_length (run n s).rows) (run n s)

-- "The clock ends at 4,294,967,295"
abbrev pub clock_end : ℕ
clock_end = 4294967295
