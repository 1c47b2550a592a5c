-- What holds of every row of a well-formed state, as facts: between ticks (phase 0), and after the releases of a tick (phase 1), when wait is
-- one higher and a row may have released one job more than ticks have passed. The tests of chapter State are these facts at phase 0.
use Rattle.std.specs.Prelude.{List, ◌⊎◌, ◌≡◌, ℕ, ◌+◌, ◌^◌, ◌≤◌, ◌<◌, length, get_or}
use Rattle.law.specs.Sums.{bit}
use Rattle.law.specs.Table.{Ranged, WellFormed}
use Rattle.law.specs.Tick.{Core, Tally, Row, State, no_row, core_at, live, marks, clock_end}
use Rattle.law.specs.State.{settled_counts, tasks_of}

-- "a row without one has deadline and kind 0"
pub record Resting (c : Core) : Type 0 where
  pub work : c.work ≡ 0
  pub left : c.left ≡ 0
  pub kind : c.kind ≡ 0

-- "a live job .. has 1 to wait ticks left to its deadline and kind 1 if mandatory, 0 if optional"
pub record Running (c : Core) : Type 0 where
  pub work : 1 ≤ c.work
  pub left_low : 1 ≤ c.left
  pub left_high : c.left ≤ c.wait
  pub kind : c.kind ≤ 1

pub record SoundCore (phase : ℕ) (c : Core) : Type 0 where
  pub ranged : Ranged c.task
  pub wait_low : phase ≤ c.wait
  pub wait_high : c.wait < phase + c.task.t
  pub place : c.place < c.task.k
  pub work : c.work ≤ c.task.c
  pub job : Resting c ⊎ Running c

pub record SoundTally (phase time : ℕ) (c : Core) (y : Tally) : Type 0 where
  pub released : y.released ≤ time + phase
  pub balance : y.released ≡ settled_counts y + bit (live c)
  pub broken : y.broken ≤ settled_counts y
  pub window : y.window < 2 ^ c.task.k
  pub held : y.held ≡ marks c.task.k y.window

pub record SoundRow (phase time : ℕ) (r : Row) : Type 0 where
  pub core : SoundCore phase r.core
  pub tally : SoundTally phase time r.core r.tally

pub record SoundState (phase : ℕ) (s : State) : Type 0 where
  pub table : WellFormed (tasks_of s.rows)
  pub time : s.time + phase ≤ clock_end
  pub idle : s.idle ≤ s.time
  pub rows : (i : ℕ) → i < length s.rows → SoundRow phase s.time (get_or s.rows i no_row)

-- work for the jobs that rows release in a tick, each 1 to C
pub record Lengths (work : ℕ → ℕ) (rows : List Row) : Type 0 where
  pub low : (i : ℕ) → i < length rows → (core_at rows i).wait ≡ 0 → 1 ≤ work i
  pub high : (i : ℕ) → i < length rows → (core_at rows i).wait ≡ 0 → work i ≤ (core_at rows i).task.c
