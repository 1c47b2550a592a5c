-- How far a loop has come along the bytes of a key, or along digits.
use mathlib.Core.Bool.{Bool, not, true, false}
use mathlib.Core.List.{List}
use mathlib.Core.Path.{◌≡◌, refl, sym, ap, ◌∙◌}
use Prim.Native.Nat.{ℕ, zero, suc, ◌+◌, ◌-◌, ◌*◌, ◌^◌, ◌≤◌, ◌<◌}
use native.Mathlib.Nat.{pow-le-pow_right}
use native.Mathlib.Numerals.{add-one}
use native.Mathlib.Omega.{arith}
use lib.Dec.{eqb}
use lib.ListN.{length, get_or, take}
use lib.Seq.{take-suc}
use mir.Syntax.{w8}
use mir.Val.{Fits}
use borrow.Author.Tests.{eq-eqb, ne_eqb}
use Rattle.law.specs.Sums.{every}
use Rattle.law.specs.Refusal.{within}
use Rattle.law.specs.Text.{is_digit, is_value, number_from, number_of}
use Rattle.law.specs.Reading.{byte_at, key_length, digits_length, value_length}
use Rattle.law.proofs.First.{Searched, searched_start, searched_hit, searched_next, searched_end}
use Rattle.law.proofs.Lists.{every_at}
use Rattle.law.proofs.Question.{within_is}
use Rattle.law.proofs.Tests.{both_true}
use Rattle.law.proofs.TextDecimal.{Value, nought, leading, value_says, digit_low, digit_high, number_last}
use Rattle.law.proofs.TextLine.{inside}
use Rattle.law.proofs.TextSteps.{digit_inside}

abbrev pub off_key : List ℕ → ℕ → List ℕ → ℕ → Bool
off_key text at key i = not (eqb (byte_at text (at + i)) (get_or key i 0))

-- the first i bytes of the key stand in the text
pub record KeySo (text : List ℕ) (at : ℕ) (key : List ℕ) (i : ℕ) : Type 0 where
  pub searched : Searched (off_key text at key) (length key) i
  pub inside : at + i ≤ length text

module _ (text : List ℕ) (at : ℕ) (key : List ℕ) where
  pub key_start : at ≤ length text → KeySo text at key 0
  key_start h = record { searched = searched_start _ _; inside = omega arith }

  pub key_cut : (i : ℕ) → KeySo text at key i → i < length key → (byte_at text (at + i) ≡ get_or key i 0 → ⊥) → key_length text at key ≡ i
  unfolding key_length
  key_cut i s h e = searched_hit s.searched h (ap not (ne_eqb _ _ e))

  pub key_further : (i b : ℕ) → KeySo text at key i → i < length key → b ≡ byte_at text (at + i) → b ≡ get_or key i 0 → Fits w8 (get_or key i 0)
      → KeySo text at key (i + 1)
  key_further i b s h e f l =
      record {
        searched = searched_next s.searched h (ap not (eq-eqb _ _ (sym e ∙ f)));
        inside = omega (arith, inside text (at + i) (omega arith));
      }

  pub key_end : (i : ℕ) → KeySo text at key i → length key ≤ i → key_length text at key ≡ length key
  unfolding key_length
  key_end i s h = searched_end s.searched h

abbrev pub no_digit : List ℕ → ℕ → ℕ → Bool
no_digit text at i = not (is_digit (byte_at text (at + i)))

-- the first n bytes are digits
pub record DigitsSo (text : List ℕ) (at n : ℕ) : Type 0 where
  pub searched : Searched (no_digit text at) 4 n
  pub inside : at + n ≤ length text

module _ (text : List ℕ) (at : ℕ) where
  pub digits_start : at ≤ length text → DigitsSo text at 0
  digits_start h = record { searched = searched_start _ _; inside = omega arith }

  pub digits_cut : (n : ℕ) → DigitsSo text at n → n < 4 → is_digit (byte_at text (at + n)) ≡ false → digits_length text at ≡ n
  unfolding digits_length
  digits_cut n s h e = searched_hit s.searched h (ap not e)

  pub digits_further : (n v : ℕ) (d : Bool) → DigitsSo text at n → n < 4 → v ≡ byte_at text (at + n) → d ≡ is_digit v → d ≡ true
      → DigitsSo text at (n + 1)
  digits_further n v d s h f e g =
      let here : is_digit (byte_at text (at + n)) ≡ true = ap is_digit (sym f) ∙ sym e ∙ g in
      record { searched = searched_next s.searched h (ap not here); inside = omega (arith, digit_inside text (at + n) here) }

  pub digits_end : (n : ℕ) → DigitsSo text at n → 4 ≤ n → digits_length text at ≡ 4
  unfolding digits_length
  digits_end n s h = searched_end s.searched h

  -- the length of a value, by the byte b that it begins with, and whether that is a digit
  module _ (b : ℕ) (first : b ≡ byte_at text at) where
    pub length_naught : b ≡ 48 → value_length text at ≡ 1
    unfolding value_length
    length_naught h = rw (eq-eqb _ 48 (sym first ∙ h))

    module _ (h : b ≡ 48 → ⊥) (d : Bool) (e : d ≡ is_digit b) where
      pub length_none : d ≡ false → value_length text at ≡ 0
      unfolding value_length
      length_none f = rw (ne_eqb _ 48 (λ n. h (first ∙ n)), ap is_digit (sym first) ∙ sym e ∙ f)

      pub length_more : d ≡ true → value_length text at ≡ 1 + digits_length text (at + 1)
      unfolding value_length
      length_more f =
          rw (ne_eqb _ 48 (λ n. h (first ∙ n)), ap is_digit (sym first) ∙ sym e ∙ f)
          (omega (arith, ap (digits_length text) (add-one at)))

      pub length_inside : d ≡ true → at + 1 ≤ length text
      length_inside f = omega (arith, digit_inside text at (ap is_digit (sym first) ∙ sym e ∙ f))

-- a value: digits, five at most
value_digits : (digits : List ℕ) → Value digits → (every is_digit digits ≡ true) × (length digits ≤ 5)
unfolding is_digit within every
value_digits digits nought = (refl, omega arith)
value_digits digits (leading b more low high rest few) = (both_true (is_digit b) _ (within_is 48 57 b (omega arith) high) rest, omega arith)

-- and the number of the first i of them
module _ (digits : List ℕ) where
  module _ (good : is_value digits ≡ true) where
    digit_at : (i : ℕ) → i < length digits → (48 ≤ get_or digits i 0) × (get_or digits i 0 ≤ 57)
    digit_at i h =
        let e = every_at is_digit digits i 0 (value_digits digits (value_says digits good)).0 h in
        (digit_low _ e, digit_high _ e)

    number_next : (i : ℕ) → i < length digits → number_of (take (i + 1) digits) ≡ number_of (take i digits) * 10 + (get_or digits i 0 - 48)
    number_next i h =
        rw (add-one, take-suc digits i 0 h) (number_last 0 (take i digits) (get_or digits i 0))

    powers : (i : ℕ) → i ≤ length digits → number_of (take i digits) < 10 ^ i
    unfolding number_from
    powers zero h = omega arith
    powers (suc i) h =
        let d = digit_at i (omega arith) in
        omega (arith, powers i (omega arith), number_next i (omega arith), d.1, ap (λ (z : ℕ). number_of (take z digits)) (add-one i))

    number_small : (i : ℕ) → i ≤ length digits → number_of (take i digits) ≤ 99999
    number_small i h =
        let five : i ≤ 5 = omega (arith, (value_digits digits (value_says digits good)).1) in
        omega (arith, powers i h, pow-le-pow_right {n = 10} (omega arith) five)

-- the number of the first i digits of a value
pub record Summed (digits : List ℕ) (i v : ℕ) : Type 0 where
  pub good : is_value digits ≡ true
  pub reached : i ≤ length digits
  pub so_far : v ≡ number_of (take i digits)
  pub small : v ≤ 99999

pub summed_start : (digits : List ℕ) → is_value digits ≡ true → Summed digits 0 0
unfolding number_from
summed_start digits h = record { good = h; reached = omega arith; so_far = refl; small = omega arith }

module _ {digits : List ℕ} {i v : ℕ} (s : Summed digits i v) (h : i < length digits) where
  pub digit_least : 48 ≤ get_or digits i 0
  digit_least = (digit_at digits s.good i h).0

  pub summed_next : (d : ℕ) → d ≡ get_or digits i 0 - 48 → Summed digits (i + 1) (v * 10 + d)
  summed_next d e =
      let so : v * 10 + d ≡ number_of (take (i + 1) digits) = omega (arith, s.so_far, number_next digits s.good i h) in
      record {
        good = s.good;
        reached = omega arith;
        so_far = so;
        small = omega (arith, number_small digits s.good (i + 1) (omega arith));
      }
