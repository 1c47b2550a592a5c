-- Demand 3, in words that can be held against it: what a run from fresh does to each job of each row. And what a row's spare promises.
use Rattle.std.specs.Prelude.{Bool, true, false, List, ◌≡◌, ℕ, zero, suc, ◌+◌, ◌-◌, ◌*◌, ◌/◌, ◌%◌, ◌^◌, ◌≤◌, ◌<◌, leb, ltb, eqb, length, get_or}
use Rattle.law.specs.Sums.{bit, pick, first_from, among}
use Rattle.law.specs.Table.{Task, row, kind_of}
use Rattle.law.specs.Verdict.{response}
use Rattle.law.specs.Tick.{Row, Tally, State, Outcome, nothing, met, missed, core_at, no_row, live, outcome, choose, full_length, release_all, fresh, run, marks, amended}

-- the state after t ticks from fresh
unfoldable pub state_after : List Task → ℕ → State
state_after tasks t = run t (fresh tasks)

-- the rows in the tick that begins in a state, once it has released
unfoldable pub during : State → List Row
during s = release_all (full_length s.rows) s.rows

-- what becomes of row i's live job at the end of a tick, by the rows once it has released: the settling at time + 1
abbrev pub settling_in : List Row → ℕ → Outcome
settling_in rows i = outcome (eqb i (choose rows)) (core_at rows i)

unfoldable pub settling : State → ℕ → Outcome
settling s i = settling_in (during s) i

abbrev pub is_met : Outcome → Bool
is_met nothing = false
is_met met = true
is_met missed = false

-- "job a of a task is released at tick a x T"
abbrev pub release_tick : List Task → ℕ → ℕ → ℕ
release_tick tasks i a = a * (row tasks i).t

-- the ticks that job a of a row with task r took, by the row's settlings tick by tick: the first n from 1 to D for which the settling at its release
-- + n is met; D + 1 where there is none
abbrev pub took_by : (ℕ → Outcome) → Task → ℕ → ℕ
took_by settlings r a = first_from (λ n. is_met (settlings (a * r.t + n - 1))) 1 r.d

-- those of job a of row i in a course of states
abbrev pub took_in : (ℕ → State) → Task → ℕ → ℕ → ℕ
took_in states r i a = took_by (λ t. settling (states t) i) r a

-- the same in the run from fresh
unfoldable pub took : List Task → ℕ → ℕ → ℕ
took tasks i a = took_in (state_after tasks) (row tasks i) i a

-- job a of row i finished by its deadline
unfoldable pub in_time : List Task → ℕ → ℕ → Bool
in_time tasks i a = leb (took tasks i a) (row tasks i).d

-- "every mandatory job .. finished by" its deadline, "none took longer than its row's reported response time", "any k consecutive jobs of a
-- task .. include at least m finished in time"; and the first job takes just the response time
pub record Kept (tasks : List Task) : Type 0 where
  pub meets : (i a : ℕ) → i < length tasks → kind_of (row tasks i) a ≡ true → in_time tasks i a ≡ true
  pub bound : (i a : ℕ) → i < length tasks → kind_of (row tasks i) a ≡ true → took tasks i a ≤ response tasks i
  pub first : (i : ℕ) → i < length tasks → took tasks i 0 ≡ response tasks i
  pub windows : (i a : ℕ) → i < length tasks → (row tasks i).m ≤ among (in_time tasks i) a (row tasks i).k

-- "i is the first row from the top whose first job misses its deadline in that same dispatcher"
pub record MissedFirst (tasks : List Task) (i : ℕ) : Type 0 where
  pub is_row : i < length tasks
  pub above : (j : ℕ) → j < i → in_time tasks j 0 ≡ true
  pub late : in_time tasks i 0 ≡ false
  pub miss : settling (state_after tasks ((row tasks i).d - 1)) i ≡ missed

-- What a reader has to know of the naming: in the ticks from job a's release to the next one row i has released a + 1 jobs, so whatever is
-- settled there is job a; it is settled once, by its deadline, and as met exactly when it is in time.
pub record Named (tasks : List Task) (i a : ℕ) : Type 0 where
  pub released : (n : ℕ) → n < (row tasks i).t → (get_or (during (state_after tasks (release_tick tasks i a + n))) i no_row).tally.released ≡ a + 1
  pub kind : (n : ℕ) → n < (row tasks i).t → live (core_at (during (state_after tasks (release_tick tasks i a + n))) i) ≡ true
      → (core_at (during (state_after tasks (release_tick tasks i a + n))) i).kind ≡ bit (kind_of (row tasks i) a)
  pub once : (n p : ℕ) → n < (row tasks i).t → p < (row tasks i).t
      → (settling (state_after tasks (release_tick tasks i a + n)) i ≡ nothing → ⊥)
      → (settling (state_after tasks (release_tick tasks i a + p)) i ≡ nothing → ⊥) → n ≡ p
  pub met_at : in_time tasks i a ≡ true → settling (state_after tasks (release_tick tasks i a + took tasks i a - 1)) i ≡ met
  pub missed_at : in_time tasks i a ≡ false → settling (state_after tasks (release_tick tasks i a + (row tasks i).d - 1)) i ≡ missed

-- what a user sees: row i of the state after t ticks
abbrev pub tally_after : List Task → ℕ → ℕ → Tally
tally_after tasks i t = (get_or (state_after tasks t).rows i no_row).tally

-- the number of row i's jobs that are settled after t ticks
unfoldable pub settled_jobs : List Task → ℕ → ℕ → ℕ
settled_jobs tasks i t = (tally_after tasks i t).released - bit (live (core_at (state_after tasks t).rows i))

-- the mark of the b-th newest settled job: whether it was in time; a met mark stands for each job before the first
unfoldable pub mark_of : List Task → ℕ → ℕ → ℕ → ℕ
mark_of tasks i t b = pick (ltb b (settled_jobs tasks i t)) (bit (in_time tasks i (settled_jobs tasks i t - 1 - b))) 1

-- any table: bit b of row i's window is the mark of the b-th newest settled job
pub record Marked (tasks : List Task) (i t : ℕ) : Type 0 where
  pub mark : (b : ℕ) → b < (row tasks i).k → (tally_after tasks i t).window / 2 ^ b % 2 ≡ mark_of tasks i t b

-- an admitted table: nothing mandatory missed, no window broken, every window holds at least m met marks
pub record Seen (tasks : List Task) (i t : ℕ) : Type 0 where
  pub no_miss : (tally_after tasks i t).mx ≡ 0
  pub no_break : (tally_after tasks i t).broken ≡ 0
  pub enough : (row tasks i).m ≤ marks (row tasks i).k (tally_after tasks i t).window

-- a tally after j further misses in a row, settled one by one, of jobs of any kinds
unfoldable pub after_misses : Task → (ℕ → ℕ) → ℕ → Tally → Tally
after_misses r kinds zero y = y
after_misses r kinds (suc j) y = amended missed r (kinds j) (after_misses r kinds j y)

-- Document 02, 1/14: what n says as "misses left" of a tally whose window holds m met marks. After each of up to n further misses in a row the
-- window still holds m and none is counted as broken; after one more it does not, and one is.
pub record MissesLeft (r : Task) (y : Tally) (n : ℕ) : Type 0 where
  pub harmless : (kinds : ℕ → ℕ) (j : ℕ) → j ≤ n → r.m ≤ marks r.k (after_misses r kinds j y).window
  pub unbroken : (kinds : ℕ → ℕ) (j : ℕ) → j ≤ n → (after_misses r kinds j y).broken ≡ y.broken
  pub no_more : (kinds : ℕ → ℕ) → marks r.k (after_misses r kinds (suc n) y).window < r.m
  pub breaks : (kinds : ℕ → ℕ) → (after_misses r kinds (suc n) y).broken ≡ y.broken + 1
