-- `replay::step::release_logged` meets its contract: the rows passed have released, each with the next number, and none of these is out of range.
use mathlib.Core.List.{List}
use mathlib.Core.Path.{◌≡◌}
use Prim.Native.Nat.{ℕ, ◌≤◌}
use lib.ListN.{length}
use Rattle.law.specs.Tick.{release_row}
use Rattle.law.specs.State.{state_of}
use Rattle.law.specs.Replay.{Replay, place_of, logged, used_then, out_of_range}
use Rattle.law.specs.Sound.{SoundState}
use Rattle.law.proofs.First.{Searched}
use Rattle.rows.specs.Said.{Fetched}
use Rattle.tick.proofs.Loops.{Mapped}
use Rattle.replay.specs.Shown.{under}
use Rattle.replay.proofs.step.release_logged.Given as goal

pub record Going (log patterns : List ℕ) (x : Replay) (words : List ℕ) (rows next i : ℕ) : Type 0 where
  pub mapped : Mapped (λ i. release_row (logged log x i)) x.state words rows i
  pub sound : SoundState 0 x.state
  pub fetched : Fetched x.state.rows patterns
  pub enough : used_then x ≤ length log
  pub so : next ≡ place_of x i
  pub searched : Searched (out_of_range log x) rows i

abbrev pub invariant-loop-i : goal.invariant-loop-i
invariant-loop-i l = Going l.log l.patterns (under (state_of l.initial.words) l.used) l.words (length (state_of l.initial.words).rows) l.next l.i
