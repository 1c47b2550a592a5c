-- `replay::step::due_rows` meets its contract: of the rows passed, those with wait 0 are counted.
use mathlib.Core.List.{List}
use mathlib.Core.Path.{◌≡◌}
use Prim.Native.Nat.{ℕ, ◌≤◌}
use lib.ListN.{length}
use Rattle.law.specs.Replay.{releases}
use Rattle.law.specs.State.{state_of}
use Rattle.rows.specs.Said.{Laid}
use Rattle.replay.proofs.step.due_rows.Given as goal

pub record Counted (words : List ℕ) (rows due i : ℕ) : Type 0 where
  pub laid : Laid words
  pub total : rows ≡ length (state_of words).rows
  pub reached : i ≤ rows
  pub is : due ≡ releases (state_of words).rows i

abbrev pub invariant-loop-i : goal.invariant-loop-i
invariant-loop-i l = Counted l.words (length (state_of l.words).rows) l.due l.i
