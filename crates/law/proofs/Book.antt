-- The book's rule: the word of each pair stands at its place. Shelf by shelf, for the words of k fill the places from k(k-1)/2 on.
use mathlib.Core.List.{[], ◌∷◌}
use mathlib.Core.Path.{◌≡◌, refl, ap, ◌∙◌}
use Prim.Native.Nat.{ℕ, zero, suc, ◌+◌, ◌-◌, ◌*◌, ◌/◌, ◌≤◌, ◌<◌}
use native.Mathlib.Decide.{dec_lt}
use native.Mathlib.Nat.{mul-div_cancel, suc-mul, mul-suc, add-suc, add-zero}
use native.Mathlib.Omega.{arith}
use lib.ListN.{length, get_or, length-append, get_or-append}
use lib.Seq.{get_or-append-add, get_or_at}
use Rattle.law.specs.Pattern.{word, shelf, book_to, the_book, place_of}

shelf_length : (k m : ℕ) → length (shelf k m) ≡ m
unfolding shelf
shelf_length k zero = refl
shelf_length k (suc m) = length-append (shelf k m) (word (suc m) k ∷ []) ∙ omega (arith, shelf_length k m)

shelf_at : (k n m : ℕ) → m < n → get_or (shelf k n) m 0 ≡ word (suc m) k
unfolding shelf
shelf_at k zero m h = absurd (omega arith)
shelf_at k (suc n) m h =
    elim (dec_lt m n) [
      | yes l ↦ get_or-append (shelf k n) (word (suc n) k ∷ []) 0 m (omega (arith, shelf_length k n))
          ∙ shelf_at k n m l
      | no l ↦ let e : n ≡ m = omega arith in get_or_at (shelf k n) (word (suc n) k) [] 0 m (shelf_length k n ∙ e)
          ∙ ap (λ (z : ℕ). word (suc z) k) e
    ]

-- the shelves up to k take k(k+1)/2 places
book_length : (k : ℕ) → length (book_to k) * 2 ≡ suc k * k
unfolding book_to
book_length zero = refl
book_length (suc k) =
    ap (λ (z : ℕ). z * 2) (length-append (book_to k) (shelf (suc k) (suc k)))
    ∙ omega (arith, book_length k, shelf_length (suc k) (suc k), suc-mul (suc k) (suc k), mul-suc (suc k) k)

place_is : (m k : ℕ) → place_of (suc m) (suc k) ≡ length (book_to k) + m
unfolding place_of
place_is m k =
    omega (arith, ap (λ (z : ℕ). suc k * z / 2) (pred_is k), ap (λ (z : ℕ). z / 2) (book_length k), mul-div_cancel (length (book_to k)) two)
  where
    pred_is : (k : ℕ) → suc k - 1 ≡ k
    pred_is k = omega arith

    two : zero < 2
    two = omega arith

place_low : (m k : ℕ) → m < suc k → place_of (suc m) (suc k) < length (book_to (suc k))
unfolding book_to
place_low m k h = omega (arith, place_is m k, length-append (book_to k) (shelf (suc k) (suc k)), shelf_length (suc k) (suc k))

grown : (n d : ℕ) → length (book_to n) ≤ length (book_to (n + d))
unfolding book_to
grown n zero = rw add-zero (omega arith)
grown n (suc d) = rw add-suc (omega (arith, grown n d, length-append (book_to (n + d)) (shelf (suc (n + d)) (suc (n + d)))))

found : (m k d : ℕ) → m < suc k → get_or (book_to (suc k + d)) (place_of (suc m) (suc k)) 0 ≡ word (suc m) (suc k)
unfolding book_to
found m k zero h =
    rw (add-zero, place_is m k)
    (get_or-append-add (book_to k) (shelf (suc k) (suc k)) m 0 ∙ shelf_at (suc k) (suc k) m h)
found m k (suc d) h =
    rw add-suc
    (get_or-append (book_to (suc k + d)) (shelf (suc (suc k + d)) (suc (suc k + d))) 0 (place_of (suc m) (suc k)) (omega (arith, place_low m k h, grown (suc k) d))
    ∙ found m k d h)

-- "the pair's word at place k(k-1)/2 + m - 1"
pub book_at : (m k : ℕ) → zero < m → m ≤ k → k ≤ 64 → get_or the_book (place_of m k) 0 ≡ word m k
unfolding the_book
book_at zero k h₁ h₂ h₃ = absurd (omega arith)
book_at (suc m) zero h₁ h₂ h₃ = absurd (omega arith)
book_at (suc m) (suc k) h₁ h₂ h₃ =
    let e : suc k + (64 - suc k) ≡ 64 = omega arith in
    rw (← e) (found m k (64 - suc k) h₂)

pub place_in_book : (m k : ℕ) → zero < m → m ≤ k → k ≤ 64 → place_of m k < 2080
place_in_book zero k h₁ h₂ h₃ = absurd (omega arith)
place_in_book (suc m) zero h₁ h₂ h₃ = absurd (omega arith)
place_in_book (suc m) (suc k) h₁ h₂ h₃ =
    omega (arith, place_low m k h₂, grown (suc k) (64 - suc k), book_length 64, ap (λ (z : ℕ). length (book_to z)) (whole k h₃))
  where
    whole : (k : ℕ) → suc k ≤ 64 → suc k + (64 - suc k) ≡ 64
    whole k h = omega arith
