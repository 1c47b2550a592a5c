-- `dispatch::well::is_clear` meets its contract: all are 0 where those put together so far are, and those from i on.
use mathlib.Core.Bool.{Bool}
use mathlib.Core.Path.{◌≡◌}
use Prim.Native.Nat.{ℕ}
use lib.Dec.{eqb}
use lib.ListN.{drop}
use Rattle.law.specs.Sums.{both, every}
use Rattle.dispatch.proofs.well.is_clear.Given as goal

unfoldable pub clear : ℕ → Bool
clear w = eqb w 0

abbrev pub invariant-loop-word : goal.invariant-loop-word
invariant-loop-word l = every clear l.words ≡ both (clear l.any) (every clear (drop l.word-index l.words))
