-- The question about one job: each answer by the tests that lead to it, and the word of a pair tells every job.
use mathlib.Core.Bool.{Bool, true, false}
use mathlib.Core.List.{List, [], ◌∷◌}
use mathlib.Core.Path.{◌≡◌, refl, sym, ap, ◌∙◌}
use Prim.Native.Nat.{ℕ, ◌/◌, ◌%◌, ◌^◌, ◌≤◌, ◌<◌}
use native.Mathlib.Nat.{mod-lt}
use native.Mathlib.Omega.{arith}
use lib.Dec.{eqb, leb}
use borrow.Author.Tests.{leb-true, le-leb}
use Rattle.law.specs.Sums.{bit, bits_to}
use Rattle.law.specs.Refusal.{Answer, accepted, refused, within}
use Rattle.law.specs.Pattern.{InRange, mandatory, word, pair_checked}
use Rattle.law.proofs.Bits.{bits_at}
use Rattle.law.proofs.Pattern.{even, kind_place}
use Rattle.law.proofs.Tests.{both_left, both_right}

pub within_low : (low high x : ℕ) → within low high x ≡ true → low ≤ x
unfolding within
within_low low high x e = leb-true low x (both_left _ _ e)

pub within_high : (low high x : ℕ) → within low high x ≡ true → x ≤ high
unfolding within
within_high low high x e = leb-true x high (both_right (leb low x) _ e)

pub in_range : (m k : ℕ) → within 1 64 k ≡ true → within 1 k m ≡ true → InRange m k
in_range m k hk hm =
    record { m_low = within_low 1 k m hm; m_high = within_high 1 k m hm; k_high = within_high 1 64 k hk }

pub within_is : (low high x : ℕ) → low ≤ x → x ≤ high → within low high x ≡ true
unfolding within
within_is low high x l h = rw (le-leb low x l, le-leb x high h)

bit_read : (b : Bool) → eqb (bit b) 1 ≡ b
bit_read true = refl
bit_read false = refl

-- the bit of a place is what the test says of it
pub bits_tell : (p : ℕ → Bool) (n a : ℕ) → a < n → eqb (bits_to p n / 2 ^ a % 2) 1 ≡ p a
bits_tell p n a h = ap (λ (z : ℕ). eqb z 1) (bits_at p n a h) ∙ bit_read (p a)

-- the bit of job a's place is its kind
pub word_tells : (m k a : ℕ) → InRange m k → eqb (word m k / 2 ^ (a % k) % 2) 1 ≡ mandatory m k a
unfolding word
word_tells m k a h =
    bits_tell (mandatory m k) k (a % k) (mod-lt a (omega arith)) ∙ kind_place (even m k h.m_low h.m_high) a

-- the two tests, each by what it leads to
pub pair_k : (m k : ℕ) (next : Answer) → within 1 64 k ≡ false → pair_checked m k next ≡ refused 8 (0 ∷ [])
unfolding pair_checked
pair_k m k next e = rw e

pub pair_m : (m k : ℕ) (next : Answer) → within 1 64 k ≡ true → within 1 k m ≡ false → pair_checked m k next ≡ refused 9 (0 ∷ [])
unfolding pair_checked
pair_m m k next e f = rw (e, f)

pub pair_good : (m k : ℕ) (next : Answer) → within 1 64 k ≡ true → within 1 k m ≡ true → pair_checked m k next ≡ next
unfolding pair_checked
pair_good m k next e f = rw (e, f)

accepted_not_refused : (vs also : List ℕ) (n : ℕ) → accepted vs ≡ refused n also → ⊥
accepted_not_refused vs also n e = let z : ◌≡◌ {A = ℕ} 0 1 = cc in omega arith

-- a pair that is refused once is refused whatever is asked of it; one that is not is in range
pub pair_refused : (m k n : ℕ) (vs also : List ℕ) (next : Answer) → pair_checked m k (accepted vs) ≡ refused n also
    → pair_checked m k next ≡ refused n also
pair_refused m k n vs also next e = by_k (within 1 64 k) refl
  where
    by_m : (b : Bool) → within 1 64 k ≡ true → within 1 k m ≡ b → pair_checked m k next ≡ refused n also
    by_m true hk hm = absurd (accepted_not_refused vs also n (sym (pair_good m k (accepted vs) hk hm) ∙ e))
    by_m false hk hm = pair_m m k next hk hm ∙ sym (pair_m m k (accepted vs) hk hm) ∙ e

    by_k : (b : Bool) → within 1 64 k ≡ b → pair_checked m k next ≡ refused n also
    by_k true hk = by_m (within 1 k m) hk refl
    by_k false hk = pair_k m k next hk ∙ sym (pair_k m k (accepted vs) hk) ∙ e

pub pair_accepted : (m k : ℕ) (next : Answer) (vs : List ℕ) → pair_checked m k next ≡ accepted vs → (InRange m k) × (next ≡ accepted vs)
pair_accepted m k next vs e = by_k (within 1 64 k) refl
  where
    by_m : (b : Bool) → within 1 64 k ≡ true → within 1 k m ≡ b → (InRange m k) × (next ≡ accepted vs)
    by_m true hk hm = (in_range m k hk hm, sym (pair_good m k next hk hm) ∙ e)
    by_m false hk hm = absurd (accepted_not_refused vs (0 ∷ []) 9 (sym e ∙ pair_m m k next hk hm))

    by_k : (b : Bool) → within 1 64 k ≡ b → (InRange m k) × (next ≡ accepted vs)
    by_k true hk = by_m (within 1 k m) hk refl
    by_k false hk = absurd (accepted_not_refused vs (0 ∷ []) 8 (sym e ∙ pair_k m k next hk))

pub pair_is : (m k : ℕ) (next : Answer) → InRange m k → pair_checked m k next ≡ next
pair_is m k next h =
    pair_good m k next (within_is 1 64 k (omega arith) h.k_high) (within_is 1 k m h.m_low h.m_high)
