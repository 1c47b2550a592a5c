-- Sums over rows, counts and lists by index: each law by induction on how many there are.
use mathlib.Core.Bool.{Bool, true, false}
use mathlib.Core.List.{List, [], ◌∷◌}
use mathlib.Core.Path.{◌≡◌, refl, sym, ap, ◌∙◌}
use Prim.Native.Nat.{ℕ, zero, suc, ◌+◌, ◌≤◌, ◌<◌}
use native.Mathlib.Decide.{dec_lt, ℕ_discrete}
use native.Mathlib.Nat.{add-zero}
use native.Mathlib.Numerals.{add-one}
use native.Mathlib.Omega.{arith}
use lib.Dec.{eqb, ltb}
use lib.ListN.{length, get_or, set, drop, drop_of_length-le}
use lib.Seq.{drop-cons}
use borrow.Author.Tests.{lt-ltb, le-ltb, eq-eqb, ne_eqb}
use Rattle.law.specs.Sums.{bit, both, sum, among, map_from, every}
use Rattle.law.proofs.Tests.{bit_mono, bit_most}

-- sums
pub sum_mono : (f h : ℕ → ℕ) (n : ℕ) → ((j : ℕ) → j < n → f j ≤ h j) → sum f n ≤ sum h n
unfolding sum
sum_mono f h zero le = omega arith
sum_mono f h (suc n) le = omega (arith, sum_mono f h n (λ j l. le j (omega arith)), le n (omega arith))

pub sum_add : (f h : ℕ → ℕ) (n : ℕ) → sum (λ j. f j + h j) n ≡ sum f n + sum h n
unfolding sum
sum_add f h zero = refl
sum_add f h (suc n) = omega (arith, sum_add f h n)

pub sum_cong : (f h : ℕ → ℕ) (n : ℕ) → ((j : ℕ) → j < n → f j ≡ h j) → sum f n ≡ sum h n
unfolding sum
sum_cong f h zero e = refl
sum_cong f h (suc n) e = omega (arith, sum_cong f h n (λ j l. e j (omega arith)), e n (omega arith))

pub sum_none : (f : ℕ → ℕ) (n : ℕ) → ((j : ℕ) → j < n → f j ≡ 0) → sum f n ≡ 0
unfolding sum
sum_none f zero e = refl
sum_none f (suc n) e = omega (arith, sum_none f n (λ j l. e j (omega arith)), e n (omega arith))

-- the sum in which only place c may count, with 1
module _ (c : ℕ) (u : ℕ → Bool) where
  only_here : (j : ℕ) → j ≡ c → bit (both (eqb j c) (u j)) ≡ bit (u c)
  only_here j e = rw (eq-eqb j c e) (ap (λ (z : ℕ). bit (u z)) e)

  only_else : (j : ℕ) → (j ≡ c → ⊥) → bit (both (eqb j c) (u j)) ≡ 0
  only_else j e = rw (ne_eqb j c e)

  counted_in : (n : ℕ) → c < n → bit (both (ltb c n) (u c)) ≡ bit (u c)
  counted_in n l = rw (lt-ltb c n l)

  counted_out : (n : ℕ) → n ≤ c → bit (both (ltb c n) (u c)) ≡ 0
  counted_out n l = rw (le-ltb c n l)

  pub sum_only : (n : ℕ) → sum (λ j. bit (both (eqb j c) (u j))) n ≡ bit (both (ltb c n) (u c))
  unfolding sum
  sum_only zero = sym (counted_out 0 (omega arith))
  sum_only (suc n) =
      elim (ℕ_discrete n c) [
        | yes e ↦ omega (arith, sum_only n, counted_out n (omega arith), only_here n e, counted_in (suc n) (omega arith))
        | no e ↦ elim (dec_lt c n) [
          | yes l ↦ omega (arith, sum_only n, counted_in n l, only_else n e, counted_in (suc n) (omega arith))
          | no l ↦ omega (arith, sum_only n, counted_out n (omega arith), only_else n e, counted_out (suc n) (omega arith))
        ]
      ]

pub among_size : (p : ℕ → Bool) (a q : ℕ) → among p a q ≤ q
unfolding among
among_size p a zero = omega arith
among_size p a (suc q) = omega (arith, among_size p a q, bit_most (p (a + q)))

pub among_mono : (p q : ℕ → Bool) (a n : ℕ) → ((j : ℕ) → p j ≡ true → q j ≡ true) → among p a n ≤ among q a n
unfolding among
among_mono p q a zero h = omega arith
among_mono p q a (suc n) h = omega (arith, among_mono p q a n h, bit_mono (p (a + n)) (q (a + n)) (h (a + n)))

-- a list changed place by place
module _ {A : Type 0} (f : ℕ → A → A) where
  pub map_from_length : (i : ℕ) (l : List A) → length (map_from f i l) ≡ length l
  unfolding map_from
  map_from_length i [] = refl
  map_from_length i (x ∷ l) = ap suc (map_from_length (suc i) l)

  pub map_from_at : (i : ℕ) (l : List A) (j : ℕ) (d : A) → j < length l → get_or (map_from f i l) j d ≡ f (i + j) (get_or l j d)
  unfolding map_from
  map_from_at i [] j d h = absurd (omega arith)
  map_from_at i (x ∷ l) zero d h = ap (λ (z : ℕ). f z x) (sym (add-zero i))
  map_from_at i (x ∷ l) (suc j) d h =
      map_from_at (suc i) l j d (omega arith) ∙ ap (λ (z : ℕ). f z (get_or l j d)) (omega arith)

  -- what f leaves alone stays, also past the end
  pub map_from_keeps : {B : Type 0} (g : A → B) → ((i : ℕ) (x : A) → g (f i x) ≡ g x) → (i : ℕ) (l : List A) (j : ℕ) (d : A)
      → g (get_or (map_from f i l) j d) ≡ g (get_or l j d)
  unfolding map_from
  map_from_keeps g e i [] j d = refl
  map_from_keeps g e i (x ∷ l) zero d = e i x
  map_from_keeps g e i (x ∷ l) (suc j) d = map_from_keeps g e (suc i) l j d

-- a list of which the first n elements, counted from i, are mapped: what a loop has done to it so far
unfoldable pub map_to : {A : Type 0} → (ℕ → A → A) → ℕ → ℕ → List A → List A
map_to f i zero l = l
map_to f i (suc n) [] = []
map_to f i (suc n) (x ∷ l) = f i x ∷ map_to f (suc i) n l

module _ {A : Type 0} (f : ℕ → A → A) where
  pub map_to_none : (i : ℕ) (l : List A) → map_to f i 0 l ≡ l
  unfolding map_to
  map_to_none i l = refl

  pub map_to_length : (i n : ℕ) (l : List A) → length (map_to f i n l) ≡ length l
  unfolding map_to
  map_to_length i zero l = refl
  map_to_length i (suc n) [] = refl
  map_to_length i (suc n) (x ∷ l) = ap suc (map_to_length (suc i) n l)

  -- the next element is still as it was
  pub map_to_next : (i n : ℕ) (l : List A) (d : A) → get_or (map_to f i n l) n d ≡ get_or l n d
  unfolding map_to
  map_to_next i zero l d = refl
  map_to_next i (suc n) [] d = refl
  map_to_next i (suc n) (x ∷ l) d = map_to_next (suc i) n l d

  pub map_to_step : (i n : ℕ) (l : List A) (d : A) → n < length l → set (map_to f i n l) n (f (i + n) (get_or l n d)) ≡ map_to f i (suc n) l
  unfolding map_to
  map_to_step i n [] d h = absurd (omega arith)
  map_to_step i zero (x ∷ l) d h = ap (λ (z : ℕ). f z x ∷ l) (add-zero i)
  map_to_step i (suc n) (x ∷ l) d h =
      let e : i + suc n ≡ suc i + n = omega arith in
      ap (λ (z : ℕ). f i x ∷ set (map_to f (suc i) n l) n (f z (get_or l n d))) e
      ∙ ap (λ (z : List A). f i x ∷ z) (map_to_step (suc i) n l d (omega arith))

  pub map_to_all : (i n : ℕ) (l : List A) → length l ≤ n → map_to f i n l ≡ map_from f i l
  unfolding map_to map_from
  map_to_all i zero [] h = refl
  map_to_all i (suc n) [] h = refl
  map_to_all i zero (x ∷ l) h = absurd (omega arith)
  map_to_all i (suc n) (x ∷ l) h = ap (λ (z : List A). f i x ∷ z) (map_to_all (suc i) n l (omega arith))

-- a test of every element, one element after the other
module _ {A : Type 0} (p : A → Bool) (l : List A) (d : A) where
  pub every_pass : (i : ℕ) → i < length l → p (get_or l i d) ≡ true → every p (drop i l) ≡ every p (drop (i + 1) l)
  unfolding every
  every_pass i h e = rw (drop-cons l i d h, e, add-one)

  pub every_fail : (i : ℕ) → i < length l → p (get_or l i d) ≡ false → every p (drop i l) ≡ false
  unfolding every
  every_fail i h e = rw (drop-cons l i d h, e)

  pub every_next : (i : ℕ) → i < length l → every p (drop i l) ≡ both (p (get_or l i d)) (every p (drop (i + 1) l))
  unfolding every
  every_next i h = rw (drop-cons l i d h, add-one)

  pub every_end : (i : ℕ) → length l ≤ i → every p (drop i l) ≡ true
  unfolding every
  every_end i h = rw (drop_of_length-le l h)

pub among_same : (p q : ℕ → Bool) (a n : ℕ) → ((j : ℕ) → a ≤ j → j < a + n → p j ≡ q j) → among p a n ≡ among q a n
unfolding among
among_same p q a zero e = refl
among_same p q a (suc n) e =
    omega (arith, among_same p q a n (λ j l h. e j l (omega arith)), ap bit (e (a + n) (omega arith) (omega arith)))
