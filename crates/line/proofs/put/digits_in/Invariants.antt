-- `line::put::digits_in` meets its contract: one digit is counted for each tenth taken, and the last one.
use mathlib.Core.List.{List}
use mathlib.Core.Path.{◌≡◌}
use Prim.Native.Nat.{ℕ, suc}
use lib.ListN.{length}
use Rattle.law.proofs.TextWrite.{Left}
use Rattle.line.proofs.put.digits_in.Given as goal

abbrev pub invariant-loop-rest : goal.invariant-loop-rest
invariant-loop-rest l = (digits : List ℕ) × (l.n ≡ suc (length digits)) × Left l.v l.rest digits

abbrev pub decreases-loop-rest : goal.decreases-loop-rest
decreases-loop-rest l = l.rest
