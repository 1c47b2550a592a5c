-- How a struct `Row` is read as the law's, and what the routines on one row and on all words ask.
use Rattle.std.specs.Prelude.{Bool, List, ◌≡◌, ℕ, ◌+◌, ◌≤◌, ◌<◌, length, get_or}
use Rattle.law.specs.Sums.{bit}
use Rattle.law.specs.Table.{word_of}
use Rattle.law.specs.Tick as law
use Rattle.law.specs.Tick.{clock_end, settled, core_at, advance_all}
use Rattle.law.specs.State.{state_of, laid}
use Rattle.law.specs.Sound.{SoundRow, SoundState}
use Rattle.table.specs.Said.{task_said}
use Rattle.tally.specs.Said.{tally_said}
use Rattle.rows.specs.declared.Row.{Row}

abbrev pub row_said : Row → law.Row
row_said r =
    record {
      core =
          record {
            task = task_said r.task;
            wait = r.wait;
            place = r.place;
            work = r.work;
            left = r.left;
            kind = r.kind;
          };
      tally = tally_said r.tally;
    }

-- a row of a well-formed state at some time below the clock's end
pub record Timed (phase : ℕ) (r : law.Row) : Type 0 where
  pub time : ℕ
  pub early : time + phase ≤ clock_end
  pub sound : SoundRow phase time r

-- a row whose job is settled with a mark: "work, deadline and kind become 0", and the tally
abbrev pub closed_row : ℕ → law.Row → law.Row
closed_row mark r =
    record {
      core = record { task = r.core.task; wait = r.core.wait; place = r.core.place; work = 0; left = 0; kind = 0 };
      tally = settled r.core.task.m r.core.task.k r.core.kind mark r.tally;
    }

-- words of the right number, with their number of rows, at most 32
pub record Sized (words : List ℕ) (rows : ℕ) : Type 0 where
  pub long : length words ≡ 643
  pub total : rows ≡ length (state_of words).rows
  pub few : rows ≤ 32

-- words that are the words of a state with at most 32 rows
pub record Laid (words : List ℕ) : Type 0 where
  pub is : words ≡ laid (state_of words)
  pub few : length (state_of words).rows ≤ 32

-- the same of a well-formed state, between ticks or inside one
pub record Held (phase : ℕ) (words : List ℕ) : Type 0 where
  pub laid : Laid words
  pub sound : SoundState phase (state_of words)

-- the word of each row's own pattern, fetched once for a run
pub record Fetched (rows : List law.Row) (patterns : List ℕ) : Type 0 where
  pub enough : length rows ≤ length patterns
  pub at : (i : ℕ) → i < length rows → get_or patterns i 0 ≡ word_of (core_at rows i).task

-- a state whose rows have had steps 3 and 4, before its time and idle count are written
abbrev pub advanced_state : ℕ → law.State → law.State
advanced_state chosen s = record { time = s.time; idle = s.idle; rows = advance_all chosen s.rows }

-- a state one tick later, idle or not
abbrev pub counted_tick : Bool → law.State → law.State
counted_tick idle s = record { time = s.time + 1; idle = s.idle + bit idle; rows = s.rows }
