-- A lent run that is filled from its start: what is written so far, and the rest as it was.
use mathlib.Core.List.{List, [], ◌∷◌, ◌++◌, append_assoc}
use mathlib.Core.Path.{◌≡◌, refl, sym, ap, ◌∙◌}
use Prim.Native.Nat.{ℕ, suc, ◌<◌}
use native.Mathlib.Omega.{arith}
use lib.ListN.{length, get_or, set, take, drop, length-append}
use lib.Seq.{set_at, take_at, drop-cons}

module _ {A : Type 0} where
  pub filled : List A → List A → List A
  filled written old = written ++ drop (length written) old

  pub filled_none : (old : List A) → filled [] old ≡ old
  unfolding filled
  filled_none old = refl

  pub filled_is : (written old : List A) (n : ℕ) → length written ≡ n → filled written old ≡ written ++ drop n old
  unfolding filled
  filled_is written old n e = ap (λ (k : ℕ). written ++ drop k old) e

  pub filled_front : (written old : List A) (n : ℕ) → length written ≡ n → take n (filled written old) ≡ written
  unfolding filled
  filled_front written old n e = take_at written (drop (length written) old) n e

  -- the next element goes behind what is written
  pub filled_next : (written old : List A) (n : ℕ) (v d : A) → length written ≡ n → n < length old
      → set (filled written old) n v ≡ filled (written ++ (v ∷ [])) old
  unfolding filled
  filled_next written old n v d e h =
      let l : length (written ++ (v ∷ [])) ≡ suc n = length-append written (v ∷ []) ∙ omega (arith, e) in
      ap (λ (rest : List A). set (written ++ rest) n v) (ap (λ (k : ℕ). drop k old) e ∙ drop-cons old n d h)
      ∙ set_at written (get_or old n d) (drop (suc n) old) v n e
      ∙ sym (append_assoc written (v ∷ []) (drop (suc n) old)) ∙ ap (λ (k : ℕ). (written ++ (v ∷ [])) ++ drop k old) (sym l)
