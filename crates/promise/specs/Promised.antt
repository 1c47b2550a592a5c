-- Demand 3 over the answers of the public functions: the verdict's answer and room, the fresh state that was laid, the words that runs hand back.
-- Each is named by the definition that the function's contract cites, so neither side can change alone.
use Rattle.std.specs.Prelude.{true, List, [], ◌≡◌, ℕ, ◌+◌, ◌-◌, ◌*◌, ◌≤◌, ◌<◌, leb, length, get_or, replicate}
use Rattle.law.specs.Sums.{among}
use Rattle.law.specs.Refusal.{accepted}
use Rattle.law.specs.Table.{Task, table_of, row, kind_of}
use Rattle.law.specs.Verdict.{verdict_room}
use Rattle.law.specs.Tick.{State, no_row, missed, marks, clock_end}
use Rattle.law.specs.State.{state_of, fresh_words, run_answer, run_words}
use Rattle.law.specs.Promise.{settling, took_in}

-- what `dispatch::start::fresh_words` lays into a room of zeros
unfoldable pub begun : List ℕ → List ℕ
begun table = fresh_words table (replicate 643 0)

-- what `dispatch::run::run_words` hands back after t ticks of it, as a state
unfoldable pub seen_at : List ℕ → ℕ → State
seen_at table t = state_of (run_words (begun table) t)

-- the response time that `verdict::judge` wrote into the room for row i
abbrev pub reported : List ℕ → List ℕ → ℕ → ℕ
reported table room i = get_or (verdict_room table room) i 0

-- the rows of a table of words, and row i of it
abbrev pub rows_in : List ℕ → ℕ
rows_in table = length (table_of table)

abbrev pub row_in : List ℕ → ℕ → Task
row_in table i = row (table_of table) i

-- the ticks that job a of row i took in these runs, D + 1 where it did not finish by its deadline
abbrev pub took_ticks : List ℕ → ℕ → ℕ → ℕ
took_ticks table i a = took_in (seen_at table) (row_in table i) i a

-- the tick at which the deadline of job a of row i comes
abbrev pub deadline_of : List ℕ → ℕ → ℕ → ℕ
deadline_of table i a = a * (row_in table i).t + (row_in table i).d

-- "any run from fresh, up to the clock's end": every such run is made, and one made in pieces, tick by tick at the least, hands back the same words.
-- "every mandatory job whose deadline has come finished by it, none took longer than its row's reported response time" (`meets` with `soon`);
-- "any k consecutive jobs of a task whose deadlines have all come include at least m finished in time" (`windows`);
-- the first job takes just the response time; and in every state that a user sees no mandatory job was missed, no window broke, and each
-- window holds at least m met marks.
pub record Promised (table room : List ℕ) : Type 0 where
  pub ran : (t : ℕ) → t ≤ clock_end → run_answer (begun table) t ≡ accepted []
  pub pieces : (t u : ℕ) → t + u ≤ clock_end → run_words (run_words (begun table) t) u ≡ run_words (begun table) (t + u)
  pub soon : (i : ℕ) → i < rows_in table → reported table room i ≤ (row_in table i).d
  pub meets : (i a : ℕ) → i < rows_in table → kind_of (row_in table i) a ≡ true → deadline_of table i a ≤ clock_end
      → took_ticks table i a ≤ reported table room i
  pub first : (i : ℕ) → i < rows_in table → took_ticks table i 0 ≡ reported table room i
  pub windows : (i a : ℕ) → i < rows_in table → deadline_of table i (a + ((row_in table i).k - 1)) ≤ clock_end
      → (row_in table i).m ≤ among (λ a. leb (took_ticks table i a) (row_in table i).d) a (row_in table i).k
  pub no_miss : (i t : ℕ) → i < rows_in table → t ≤ clock_end → (get_or (seen_at table t).rows i no_row).tally.mx ≡ 0
  pub no_break : (i t : ℕ) → i < rows_in table → t ≤ clock_end → (get_or (seen_at table t).rows i no_row).tally.broken ≡ 0
  pub enough : (i t : ℕ) → i < rows_in table → t ≤ clock_end
      → (row_in table i).m ≤ marks (row_in table i).k (get_or (seen_at table t).rows i no_row).tally.window

-- "i is the first row from the top whose first job misses its deadline in that same dispatcher"; after D ticks a user sees the miss in row i's counts
pub record TurnedDown (table : List ℕ) (i : ℕ) : Type 0 where
  pub is_row : i < rows_in table
  pub ran : (t : ℕ) → t ≤ clock_end → run_answer (begun table) t ≡ accepted []
  pub above : (j : ℕ) → j < i → took_ticks table j 0 ≤ (row_in table j).d
  pub late : (row_in table i).d < took_ticks table i 0
  pub miss : settling (seen_at table ((row_in table i).d - 1)) i ≡ missed
  pub counted : (get_or (seen_at table (row_in table i).d).rows i no_row).tally.mx ≡ 1
