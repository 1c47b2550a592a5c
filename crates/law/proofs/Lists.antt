-- Parts of lists and tests of every element: what the chapters on text ask of any list.
use mathlib.Core.Bool.{Bool, true}
use mathlib.Core.List.{List, [], ◌∷◌, ◌++◌}
use mathlib.Core.Path.{◌≡◌, refl}
use Prim.Native.Nat.{ℕ, zero, suc, ◌+◌, ◌<◌}
use native.Mathlib.Nat.{zero-add, suc-add}
use native.Mathlib.Omega.{arith}
use lib.ListN.{length, get_or, take, drop}
use Rattle.law.specs.Sums.{every}
use Rattle.law.proofs.Tests.{both_left, both_right, both_true}

module _ {A : Type 0} where
  -- inside a list it does not matter what stands past its end
  pub get_d_inside : (l : List A) (i : ℕ) (d e : A) → i < length l → get_or l i d ≡ get_or l i e
  get_d_inside [] i d e h = absurd (omega arith)
  get_d_inside (x ∷ xs) zero d e h = refl
  get_d_inside (x ∷ xs) (suc i) d e h = get_d_inside xs i d e (omega arith)

  -- a part in the middle, cut from either end first
  pub take_drop : (n m : ℕ) (l : List A) → take m (drop n l) ≡ drop n (take (n + m) l)
  take_drop zero m l = rw zero-add
  take_drop (suc n) zero [] = rw suc-add
  take_drop (suc n) (suc m) [] = rw suc-add
  take_drop (suc n) m (x ∷ xs) = rw suc-add (take_drop n m xs)

  module _ (p : A → Bool) where
    pub every_at : (l : List A) (i : ℕ) (d : A) → every p l ≡ true → i < length l → p (get_or l i d) ≡ true
    unfolding every
    every_at [] i d e h = absurd (omega arith)
    every_at (x ∷ xs) zero d e h = both_left _ _ e
    every_at (x ∷ xs) (suc i) d e h = every_at xs i d (both_right (p x) _ e) (omega arith)

    pub every_all : (l : List A) (d : A) → ((i : ℕ) → i < length l → p (get_or l i d) ≡ true) → every p l ≡ true
    unfolding every
    every_all [] d h = refl
    every_all (x ∷ xs) d h = both_true _ _ (h 0 (omega arith)) (every_all xs d (λ i l. h (suc i) (omega arith)))

    pub every_append : (a b : List A) → every p a ≡ true → every p b ≡ true → every p (a ++ b) ≡ true
    unfolding every
    every_append [] b e f = f
    every_append (x ∷ xs) b e f = both_true (p x) _ (both_left (p x) _ e) (every_append xs b (both_right (p x) _ e) f)
