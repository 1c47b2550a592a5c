-- `tick::choose` meets its contract: no row passed is urgent, and `optional` is the first live one among them, if any.
use mathlib.Core.Bool.{Bool}
use mathlib.Core.List.{List}
use Rattle.std.proofs.Common.{Option, None, Some}
use mathlib.Core.Path.{◌≡◌}
use Prim.Native.Nat.{ℕ, ◌<◌}
use lib.ListN.{length}
use Rattle.law.specs.Sums.{first}
use Rattle.law.specs.Tick.{core_at, live, urgent}
use Rattle.law.specs.State.{state_of}
use Rattle.law.proofs.First.{Searched}
use Rattle.rows.specs.Said.{Laid}
use Rattle.tick.proofs.choose.Given as goal

unfoldable pub urgents : List ℕ → ℕ → Bool
urgents words i = urgent (core_at (state_of words).rows i)

unfoldable pub lives : List ℕ → ℕ → Bool
lives words i = live (core_at (state_of words).rows i)

-- the first live row found so far, if any
pub record Best (p : ℕ → Bool) (n i : ℕ) (best : Option ℕ) : Type 0 where
  pub found : (r : ℕ) → best ≡ Some r → (r < n) × (first p n ≡ r)
  pub still : best ≡ None → Searched p n i

pub record Choosing (words : List ℕ) (n i : ℕ) (best : Option ℕ) : Type 0 where
  pub laid : Laid words
  pub total : n ≡ length (state_of words).rows
  pub searched : Searched (urgents words) n i
  pub best-live : Best (lives words) n i best

abbrev pub invariant-loop-i : goal.invariant-loop-i
invariant-loop-i l = Choosing l.words (length (state_of l.words).rows) l.i l.optional
