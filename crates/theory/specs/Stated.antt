-- Demand 3 over the definitions, all that this crate proves of a table whose rows are in their ranges; the words are those of the law's chapter Promise.
use Rattle.std.specs.Prelude.{true, false, List, ◌≡◌, ℕ, ◌+◌, ◌-◌, ◌≤◌, ◌<◌, leb, length, get_or}
use Rattle.law.specs.Sums.{bit, among}
use Rattle.law.specs.Table.{Task, row, kind_of}
use Rattle.law.specs.Verdict.{response, admitted, misfit}
use Rattle.law.specs.Tick.{Row, Tally, Outcome, nothing, met, missed, no_row, core_at, live, fresh, marks}
use Rattle.law.specs.Replay.{Replay, released_rows, replayed}
use Rattle.law.specs.Promise.{settling_in, release_tick, took_by, Kept, MissedFirst, Named, Marked, Seen}

pub record Stated (tasks : List Task) : Type 0 where
  -- "any table the verdict admits": mandatory jobs, response times and windows; and nothing else is ever seen in the counts
  pub kept : admitted tasks ≡ true → Kept tasks
  pub seen : admitted tasks ≡ true → (i t : ℕ) → i < length tasks → Seen tasks i t
  -- "called unschedulable at row i": the first row from the top whose first job misses
  pub turned_down : admitted tasks ≡ false → MissedFirst tasks (misfit tasks)
  -- any table: which job is settled when, and what a window shows
  pub named : (i a : ℕ) → i < length tasks → Named tasks i a
  pub marked : (i t : ℕ) → i < length tasks → Marked tasks i t

-- Document 02, 5/14: a replay from fresh after t ticks
abbrev pub replay_after : List Task → List ℕ → ℕ → Replay
replay_after tasks log t = replayed log t (fresh tasks)

-- the rows in its tick t, once they have released
abbrev pub replay_during : List Task → List ℕ → ℕ → List Row
replay_during tasks log t = released_rows log (replay_after tasks log t)

-- what becomes of row i's live job at the end of its tick t
abbrev pub replay_settling : List Task → List ℕ → ℕ → ℕ → Outcome
replay_settling tasks log i t = settling_in (replay_during tasks log t) i

-- the ticks that job a of row i took
abbrev pub replay_took : List Task → List ℕ → ℕ → ℕ → ℕ
replay_took tasks log i a = took_by (replay_settling tasks log i) (row tasks i) a

-- what a user sees: row i after t ticks
abbrev pub replay_tally : List Task → List ℕ → ℕ → ℕ → Tally
replay_tally tasks log i t = (get_or (replay_after tasks log t).state.rows i no_row).tally

-- "For an admitted table demand 3 holds here too, response time as an upper bound": of a replay from fresh that did n ticks
pub record ReplayKept (tasks : List Task) (log : List ℕ) (n : ℕ) : Type 0 where
  pub meets : (i a : ℕ) → i < length tasks → kind_of (row tasks i) a ≡ true → release_tick tasks i a + (row tasks i).d ≤ n
      → replay_took tasks log i a ≤ (row tasks i).d
  pub bound : (i a : ℕ) → i < length tasks → kind_of (row tasks i) a ≡ true → release_tick tasks i a + (row tasks i).d ≤ n
      → replay_took tasks log i a ≤ response tasks i
  pub windows : (i a : ℕ) → i < length tasks → release_tick tasks i (a + ((row tasks i).k - 1)) + (row tasks i).d ≤ n
      → (row tasks i).m ≤ among (λ a. leb (replay_took tasks log i a) (row tasks i).d) a (row tasks i).k
  pub no_miss : (i t : ℕ) → i < length tasks → t ≤ n → (replay_tally tasks log i t).mx ≡ 0
  pub no_break : (i t : ℕ) → i < length tasks → t ≤ n → (replay_tally tasks log i t).broken ≡ 0
  pub enough : (i t : ℕ) → i < length tasks → t ≤ n → (row tasks i).m ≤ marks (row tasks i).k (replay_tally tasks log i t).window

-- Any table: which job is settled when in a replay from fresh that did n ticks. In those ticks from job a's release to the next one that are done row i
-- has released a + 1 jobs, so whatever is settled there is job a; it is settled at most once, as met after the ticks that it took, and as missed at its
-- deadline where it took more.
pub record ReplayNamed (tasks : List Task) (log : List ℕ) (n i a : ℕ) : Type 0 where
  pub released : (p : ℕ) → p < (row tasks i).t → release_tick tasks i a + p < n
      → (get_or (replay_during tasks log (release_tick tasks i a + p)) i no_row).tally.released ≡ a + 1
  pub kind : (p : ℕ) → p < (row tasks i).t → release_tick tasks i a + p < n
      → live (core_at (replay_during tasks log (release_tick tasks i a + p)) i) ≡ true
      → (core_at (replay_during tasks log (release_tick tasks i a + p)) i).kind ≡ bit (kind_of (row tasks i) a)
  pub once : (p q : ℕ) → p < (row tasks i).t → q < (row tasks i).t → release_tick tasks i a + p < n → release_tick tasks i a + q < n
      → (replay_settling tasks log i (release_tick tasks i a + p) ≡ nothing → ⊥)
      → (replay_settling tasks log i (release_tick tasks i a + q) ≡ nothing → ⊥) → p ≡ q
  pub met_at : release_tick tasks i a + replay_took tasks log i a ≤ n → replay_took tasks log i a ≤ (row tasks i).d
      → replay_settling tasks log i (release_tick tasks i a + replay_took tasks log i a - 1) ≡ met
  pub missed_at : release_tick tasks i a + (row tasks i).d ≤ n → (row tasks i).d < replay_took tasks log i a
      → replay_settling tasks log i (release_tick tasks i a + (row tasks i).d - 1) ≡ missed
