-- Numbers that are printed: each of 32 bits, and no refusal's is 0.
use mathlib.Core.List.{List, [], ◌∷◌}
use Prim.Native.Nat.{ℕ, zero, suc, ◌≤◌}
use native.Mathlib.Omega.{arith}
use lib.Dec.{leb}
use lib.ListN.{get_or}
use borrow.Author.Tests.{leb-true}
use Rattle.law.specs.Sums.{every}
use Rattle.law.proofs.Tests.{both_left, both_right}
use Rattle.refusal.specs.declared.Refusal.{Refusal}
use Rattle.refusal.specs.declared.Refusal.TheVariants.{NotWholeRows, NoRows, ManyRows, Id, T, D, C, K, M, Repeated, Unschedulable, Text, Room, State, Clock, P, NotOld, Log}
use Rattle.refusal.specs.Shown.{number_of}
use Rattle.report.specs.Said.{Small}

-- numbers of 32 bits, one by one
pub small_at : (values : List ℕ) (j : ℕ) → Small values → get_or values j 0 ≤ 4294967295
unfolding every
small_at [] j e = omega arith
small_at (v ∷ values) zero e = leb-true v 4294967295 (both_left _ _ e)
small_at (v ∷ values) (suc j) e = small_at values j (both_right (leb v 4294967295) _ e)

pub number_some : (r : Refusal) → 1 ≤ number_of r
number_some NotWholeRows = omega arith
number_some NoRows = omega arith
number_some ManyRows = omega arith
number_some (Id row) = omega arith
number_some (T row) = omega arith
number_some (D row) = omega arith
number_some (C row) = omega arith
number_some (K row) = omega arith
number_some (M row) = omega arith
number_some (Repeated row) = omega arith
number_some (Unschedulable row) = omega arith
number_some (Text place) = omega arith
number_some Room = omega arith
number_some State = omega arith
number_some Clock = omega arith
number_some (P row) = omega arith
number_some (NotOld row) = omega arith
number_some (Log place) = omega arith
