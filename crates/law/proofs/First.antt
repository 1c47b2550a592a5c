-- Searching and building, a number at a time: what a loop has found so far, and what a list built from a function holds.
use mathlib.Core.Bool.{Bool, true, false}
use mathlib.Core.List.{[], ◌∷◌}
use mathlib.Core.Path.{◌≡◌, refl, sym, ap, ◌∙◌}
use Prim.Native.Nat.{ℕ, zero, suc, ◌+◌, ◌-◌, ◌≤◌, ◌<◌}
use native.Mathlib.Decide.{dec_lt}
use native.Mathlib.Nat.{sub-zero}
use native.Mathlib.Numerals.{add-one}
use native.Mathlib.Omega.{arith}
use lib.ListN.{length, get_or, length-append, get_or-append}
use lib.Seq.{get_or_at}
use Rattle.law.specs.Sums.{pick, first_from, first, largest, build}
use Rattle.law.proofs.Tests.{passes, fails, known, never_both}

-- what a loop that has come to i has found of the first number below n that passes: it is still to come, from i on
pub record Searched (p : ℕ → Bool) (n i : ℕ) : Type 0 where
  pub reached : i ≤ n
  pub rest : first_from p i (n - i) ≡ first p n

module _ {p : ℕ → Bool} {n i : ℕ} where
  pub searched_hit : Searched p n i → i < n → p i ≡ true → first p n ≡ i
  unfolding first_from
  searched_hit s h e =
      let l : n - i ≡ suc (n - suc i) = omega arith in
      sym s.rest ∙ rw (l, e)

  pub searched_next : Searched p n i → i < n → p i ≡ false → Searched p n (i + 1)
  unfolding first_from
  searched_next s h e =
      record {
        reached = omega arith;
        rest = let l : n - i ≡ suc (n - suc i) = omega arith in rw (add-one, ← s.rest, l, e);
      }

  pub searched_end : Searched p n i → n ≤ i → first p n ≡ n
  unfolding first_from
  searched_end s h =
      let l : n - i ≡ zero = omega arith in
      let e : i ≡ n = omega (arith, s.reached) in
      sym s.rest ∙ rw l e

pub searched_start : (p : ℕ → Bool) (n : ℕ) → Searched p n 0
searched_start p n = record { reached = omega arith; rest = ap (λ (z : ℕ). first_from p 0 z) (sub-zero n) }

-- the first hit, by the test at the place where the search begins
module _ (p : ℕ → Bool) where
  first_now : (i n : ℕ) → p i ≡ true → first_from p i (suc n) ≡ i
  unfolding first_from
  first_now i n e = rw e

  first_later : (i n : ℕ) → p i ≡ false → first_from p i (suc n) ≡ first_from p (suc i) n
  unfolding first_from
  first_later i n e = rw e

  first_end : (i : ℕ) → first_from p i 0 ≡ i
  unfolding first_from
  first_end i = refl

  pub first_low : (i n : ℕ) → i ≤ first_from p i n
  first_low i zero = omega (arith, first_end i)
  first_low i (suc n) =
      elim (known (p i)) [
        | passes e ↦ omega (arith, first_now i n e)
        | fails e ↦ omega (arith, first_later i n e, first_low (suc i) n)
      ]

  pub first_high : (i n : ℕ) → first_from p i n ≤ i + n
  first_high i zero = omega (arith, first_end i)
  first_high i (suc n) =
      elim (known (p i)) [
        | passes e ↦ omega (arith, first_now i n e)
        | fails e ↦ omega (arith, first_later i n e, first_high (suc i) n)
      ]

  pub first_found_lem : (i n : ℕ) → first_from p i n < i + n → p (first_from p i n) ≡ true
  first_found_lem i zero h = absurd (omega (arith, first_end i))
  first_found_lem i (suc n) h =
      elim (known (p i)) [
        | passes e ↦ ap p (first_now i n e) ∙ e
        | fails e ↦ ap p (first_later i n e) ∙ first_found_lem (suc i) n (omega (arith, first_later i n e))
      ]

  pub first_before : (i n j : ℕ) → i ≤ j → j < first_from p i n → p j ≡ false
  first_before i zero j l h = absurd (omega (arith, first_end i))
  first_before i (suc n) j l h =
      elim (known (p i)) [
        | passes e ↦ absurd (omega (arith, first_now i n e))
        | fails e ↦ elim (dec_lt i j) [
          | yes k ↦ first_before (suc i) n j k (omega (arith, first_later i n e))
          | no k ↦ let same : j ≡ i = omega arith in ap p same ∙ e
        ]
      ]

  pub first_least : (i n j : ℕ) → i ≤ j → p j ≡ true → first_from p i n ≤ j
  first_least i n j l e =
      elim (dec_lt j (first_from p i n)) [
        | yes h ↦ absurd (never_both (p j) e (first_before i n j l h))
        | no h ↦ omega arith
      ]

  -- and no other number is so
  pub first_is : (i n x : ℕ) → i ≤ x → x ≤ i + n → (x < i + n → p x ≡ true) → ((j : ℕ) → i ≤ j → j < x → p j ≡ false)
      → first_from p i n ≡ x
  first_is i n x l h found before =
      elim (dec_lt (first_from p i n) x) [
        | yes k ↦ absurd
            (never_both _ (first_found_lem i n (omega arith)) (before (first_from p i n) (first_low i n) k))
        | no k ↦ elim (dec_lt x (first_from p i n)) [
          | yes q ↦ absurd
              (never_both _ (found (omega (arith, first_high i n))) (first_before i n x l q))
          | no q ↦ omega arith
        ]
      ]

pub first_cong : (p q : ℕ → Bool) (i n : ℕ) → ((j : ℕ) → p j ≡ q j) → first_from p i n ≡ first_from q i n
unfolding first_from
first_cong p q i zero e = refl
first_cong p q i (suc n) e = rw (e i, first_cong p q (suc i) n e)

-- what a loop that comes down from n to i has found of the largest number up to n that passes: it is still to come, from i down
pub record SearchedDown (p : ℕ → Bool) (n i : ℕ) : Type 0 where
  pub reached : i ≤ n
  pub rest : largest p i ≡ largest p n

module _ (p : ℕ → Bool) where
  largest_now : (n : ℕ) → p n ≡ true → largest p n ≡ n
  unfolding largest
  largest_now zero e = refl
  largest_now (suc n) e = rw e

  largest_later : (n : ℕ) → p (suc n) ≡ false → largest p (suc n) ≡ largest p n
  unfolding largest
  largest_later n e = rw e

  largest_end : largest p 0 ≡ 0
  unfolding largest
  largest_end = refl

  pub largest_high : (n : ℕ) → largest p n ≤ n
  largest_high zero = omega (arith, largest_end)
  largest_high (suc n) =
      elim (known (p (suc n))) [
        | passes e ↦ omega (arith, largest_now (suc n) e)
        | fails e ↦ omega (arith, largest_later n e, largest_high n)
      ]

  pub largest_found : (n : ℕ) → 0 < largest p n → p (largest p n) ≡ true
  largest_found zero h = absurd (omega (arith, largest_end))
  largest_found (suc n) h =
      elim (known (p (suc n))) [
        | passes e ↦ ap p (largest_now (suc n) e) ∙ e
        | fails e ↦ ap p (largest_later n e) ∙ largest_found n (omega (arith, largest_later n e))
      ]

  -- where a number passes, the largest passes and is no smaller
  pub largest_passes : (n j : ℕ) → j ≤ n → p j ≡ true → (p (largest p n) ≡ true) × (j ≤ largest p n)
  largest_passes zero j h e = let none : j ≡ 0 = omega arith in (ap p (largest_end ∙ sym none) ∙ e, omega arith)
  largest_passes (suc n) j h e =
      elim (known (p (suc n))) [
        | passes f ↦ (ap p (largest_now (suc n) f) ∙ f, omega (arith, largest_now (suc n) f))
        | fails f ↦ elim (dec_lt n j) [
          | yes l ↦ let last : j ≡ suc n = omega arith in absurd (never_both (p (suc n)) (ap p (sym last) ∙ e) f)
          | no l ↦ let found = largest_passes n j (omega arith) e in
              (ap p (largest_later n f) ∙ found.0, omega (arith, found.1, largest_later n f))
        ]
      ]

module _ {p : ℕ → Bool} {n i : ℕ} (s : SearchedDown p n i) where
  pub down_hit : p i ≡ true → largest p n ≡ i
  down_hit e = sym s.rest ∙ largest_now p i e

  pub down_end : i ≡ 0 → largest p n ≡ 0
  down_end e = sym s.rest ∙ ap (largest p) e ∙ largest_end p

  pub down_next : (j : ℕ) → i ≡ suc j → p i ≡ false → SearchedDown p n j
  down_next j e f =
      record {
        reached = omega (arith, s.reached);
        rest = sym (largest_later p j (ap p (sym e) ∙ f)) ∙ ap (largest p) (sym e) ∙ s.rest;
      }

pub down_start : (p : ℕ → Bool) (n : ℕ) → SearchedDown p n n
down_start p n = record { reached = omega arith; rest = refl }

pub build_length : {A : Type 0} (f : ℕ → A) (n : ℕ) → length (build f n) ≡ n
unfolding build
build_length f zero = refl
build_length f (suc n) = length-append (build f n) (f n ∷ []) ∙ omega (arith, build_length f n)

pub build_at : {A : Type 0} (f : ℕ → A) (n i : ℕ) (d : A) → i < n → get_or (build f n) i d ≡ f i
unfolding build
build_at f zero i d h = absurd (omega arith)
build_at f (suc n) i d h =
    elim (dec_lt i n) [
      | yes l ↦ get_or-append (build f n) (f n ∷ []) d i (omega (arith, build_length f n)) ∙ build_at f n i d l
      | no l ↦ let e : n ≡ i = omega arith in get_or_at (build f n) (f n) [] d i (build_length f n ∙ e) ∙ ap f e
    ]

-- tests that agree in a range find the same there
pub first_same : (p q : ℕ → Bool) (i n : ℕ) → ((j : ℕ) → i ≤ j → j < i + n → p j ≡ q j) → first_from p i n ≡ first_from q i n
unfolding first_from
first_same p q i zero e = refl
first_same p q i (suc n) e =
    ap (λ (b : Bool). pick b i (first_from p (suc i) n)) (e i (omega arith) (omega arith))
    ∙ ap (λ (z : ℕ). pick (q i) i z) (first_same p q (suc i) n (λ j l h. e j (omega arith) (omega arith)))
