-- Reading a task text as a loop does it: the digits of a value one after the other, the ways out of a line, and the lines read so far before those to come.
use mathlib.Core.Bool.{true}
use mathlib.Core.List.{List, [], ◌∷◌, ◌++◌, append_assoc, append-nil}
use mathlib.Core.Path.{◌≡◌, refl, sym, ap, ◌∙◌}
use Prim.Native.Nat.{ℕ, zero, suc, ◌+◌, ◌-◌, ◌*◌, ◌^◌, ◌≤◌, ◌<◌}
use native.Mathlib.Nat.{add-zero, pow-le-pow_right}
use native.Mathlib.Omega.{arith}
use lib.Dec.{ltb}
use lib.ListN.{length, get_or, take, drop, length-drop}
use lib.Seq.{take-suc, get_or-drop}
use borrow.Author.Tests.{eqb-true, lt-ltb, le-ltb, eq-eqb, ne_eqb}
use Rattle.law.specs.Refusal.{head, within}
use Rattle.law.specs.Text.{keys_of, is_digit, number_from, number_of}
use Rattle.law.specs.Reading.{Found, found, fault, byte_at, value_length, value_of_length, value_at, line_at, behind, onward, lines_at}
use Rattle.law.proofs.Tests.{both_true, both_fail}
use Rattle.law.proofs.TextDecimal.{digit_high, number_last, number_most}
use Rattle.law.proofs.TextLine.{inside, digits_high, digits_are, naught, digit, neither, start, value_inside, line_sound}
use Rattle.law.proofs.TextLines.{came, fell, outcome, lines_on, lines_off, lines_none, lines_sound}

-- ---- a value, digit by digit

pub digit_inside : (text : List ℕ) (i : ℕ) → is_digit (byte_at text i) ≡ true → i < length text
digit_inside text i e = inside text i (omega (arith, digit_high (byte_at text i) e))

nought_digit : (b : ℕ) → b ≡ 48 → is_digit b ≡ true
unfolding is_digit within
nought_digit b e = rw e

module _ (text : List ℕ) (at : ℕ) where
  digit_here : (i j : ℕ) → i ≡ j → is_digit (byte_at text j) ≡ true → is_digit (byte_at text i) ≡ true
  digit_here i j e d = ap (λ (z : ℕ). is_digit (byte_at text z)) e ∙ d

  pub value_most : value_length text at ≤ 5
  value_most =
      elim (start text at) [
        | naught e n ↦ omega arith
        | digit e f n ↦ omega (arith, digits_high text (suc at))
        | neither e f n ↦ omega arith
      ]

  -- all the bytes of a value are digits
  pub value_digit : (i : ℕ) → i < value_length text at → is_digit (byte_at text (at + i)) ≡ true
  value_digit zero h =
      elim (start text at) [
        | naught e n ↦ digit_here (at + 0) at (add-zero at) (nought_digit _ (eqb-true _ 48 e))
        | digit e f n ↦ digit_here (at + 0) at (add-zero at) f
        | neither e f n ↦ absurd (omega arith)
      ]
  value_digit (suc i) h =
      elim (start text at) [
        | naught e n ↦ absurd (omega arith)
        | digit e f n ↦ digit_here (at + suc i) (suc at + i) (omega arith) (digits_are text (suc at) i (omega arith))
        | neither e f n ↦ absurd (omega arith)
      ]

  -- it ends in the text
  pub value_within : at ≤ length text → at + value_length text at ≤ length text
  value_within h = by (value_length text at) refl
    where
      by : (n : ℕ) → value_length text at ≡ n → at + value_length text at ≤ length text
      by zero e = omega arith
      by (suc n) e = value_inside text at (omega arith)

  pub number_next : (i : ℕ) → at + i < length text
      → number_of (take (suc i) (drop at text)) ≡ number_of (take i (drop at text)) * 10 + (byte_at text (at + i) - 48)
  number_next i h =
      ap (number_from 0) (take-suc (drop at text) i 256 (omega (arith, length-drop at text)))
      ∙ number_last 0 (take i (drop at text)) (get_or (drop at text) i 256)
      ∙ ap (λ (z : ℕ). number_of (take i (drop at text)) * 10 + (z - 48)) (get_or-drop at text i 256)

  number_powers : (i : ℕ) → i ≤ value_length text at → number_of (take i (drop at text)) < 10 ^ i
  unfolding number_from
  number_powers zero h = omega arith
  number_powers (suc i) h =
      let d = value_digit i (omega arith) in
      omega (arith, number_powers i (omega arith), number_next i (digit_inside text (at + i) d), digit_high (byte_at text (at + i)) d)

  -- the number of its digits so far, five at most, is below 100000
  pub number_small : (i : ℕ) → i ≤ value_length text at → number_of (take i (drop at text)) ≤ 99999
  number_small i h =
      let five : i ≤ 5 = omega (arith, value_most) in
      omega (arith, number_powers i h, pow-le-pow_right {n = 10} (omega arith) five)

-- a value by its ways out, n being its length
module _ (text : List ℕ) (at n : ℕ) (long : n ≡ value_length text at) where
  pub value_empty : n ≡ 0 → value_at text at ≡ fault (at + n)
  unfolding value_at value_of_length
  value_empty e = rw (← long, le-ltb 0 n (omega arith))

  pub value_unended : (byte_at text (at + n) ≡ 10 → ⊥) → value_at text at ≡ fault (at + n)
  unfolding value_at value_of_length
  value_unended h = rw (← long, both_fail (ltb 0 n) _ (ne_eqb (byte_at text (at + n)) 10 h))

  pub value_ended : (n ≡ 0 → ⊥) → byte_at text (at + n) ≡ 10
      → value_at text at ≡ found (number_of (take n (drop at text)) ∷ []) (suc (at + n))
  unfolding value_at value_of_length
  value_ended some h = rw (← long, both_true (ltb 0 n) _ (lt-ltb 0 n (omega arith)) (eq-eqb (byte_at text (at + n)) 10 h))

-- ---- lines behind lines

behind_behind : (a b : List ℕ) (f : Found) → behind a (behind b f) ≡ behind (a ++ b) f
behind_behind a b (found values next) = ap (λ (l : List ℕ). found l next) (sym (append_assoc a b values))
behind_behind a b (fault j) = refl

behind_none : (f : Found) → behind [] f ≡ f
behind_none (found values next) = refl
behind_none (fault j) = refl

-- the lines of some keys, and behind them those of others
module _ (text : List ℕ) (others : List (List ℕ)) where
  abbrev then_others : List ℕ → ℕ → Found
  then_others values next = behind values (lines_at text next others)

  behind_onward : (before : List ℕ) (f : Found) → behind before (onward f then_others) ≡ onward (behind before f) then_others
  behind_onward before (found values next) = behind_behind before values (lines_at text next others)
  behind_onward before (fault j) = refl

  lines_append : (at : ℕ) (keys : List (List ℕ)) → lines_at text at (keys ++ others) ≡ onward (lines_at text at keys) then_others
  lines_append at [] =
      sym (behind_none (lines_at text at others)) ∙ ap (λ (f : Found). onward f then_others) (sym (lines_none text at))
  lines_append at (key ∷ keys) =
      elim (outcome (line_at text at key)) [
        | came values next e ↦ lines_on text at key (keys ++ others) values next e
            ∙ ap (behind values) (lines_append next keys)
            ∙ behind_onward values (lines_at text next keys)
            ∙ ap (λ (f : Found). onward f then_others) (sym (lines_on text at key keys values next e))
        | fell j e ↦ lines_off text at key (keys ++ others) j e
            ∙ ap (λ (f : Found). onward f then_others) (sym (lines_off text at key keys j e))
      ]

-- what a loop over keys has read: these values, and the lines of the keys that are left come behind them
pub record ReadSo (text : List ℕ) (from : ℕ) (keys : List (List ℕ)) (values : List ℕ) (left : List (List ℕ)) (at : ℕ) : Type 0 where
  pub so_far : lines_at text from keys ≡ behind values (lines_at text at left)
  pub inside : at ≤ length text

pub so_start : {text : List ℕ} {from : ℕ} {keys : List (List ℕ)} → from ≤ length text → ReadSo text from keys [] keys from
so_start {text} {from} {keys} h = record { so_far = sym (behind_none (lines_at text from keys)); inside = h }

module _ {text : List ℕ} {from : ℕ} {keys : List (List ℕ)} {values : List ℕ} {at : ℕ} where
  -- some more keys, as far as others are left
  module _ (some left : List (List ℕ)) (s : ReadSo text from keys values (some ++ left) at) where
    pub so_more : {more : List ℕ} {next : ℕ} → lines_at text at some ≡ found more next → ReadSo text from keys (values ++ more) left next
    so_more {more} {next} e =
        record {
          so_far = s.so_far
              ∙ ap (behind values) (lines_append text left at some ∙ ap (λ (f : Found). onward f (then_others text left)) e)
              ∙ behind_behind values more (lines_at text next left);
          inside = (lines_sound text at some more next s.inside e).fits;
        }

    pub so_broken : {j : ℕ} → lines_at text at some ≡ fault j → lines_at text from keys ≡ fault j
    so_broken {j} e =
        s.so_far ∙ ap (behind values) (lines_append text left at some ∙ ap (λ (f : Found). onward f (then_others text left)) e)

  -- one more key
  module _ {key : List ℕ} {left : List (List ℕ)} (s : ReadSo text from keys values (key ∷ left) at) where
    pub so_next : {v next : ℕ} → line_at text at key ≡ found (v ∷ []) next → ReadSo text from keys (values ++ (v ∷ [])) left next
    so_next {v} {next} e =
        record {
          so_far = s.so_far ∙ ap (behind values) (lines_on text at key left (v ∷ []) next e)
              ∙ behind_behind values (v ∷ []) (lines_at text next left);
          inside = (line_sound text at key (v ∷ []) next e).fits;
        }

    pub so_fault : {j : ℕ} → line_at text at key ≡ fault j → lines_at text from keys ≡ fault j
    so_fault {j} e = s.so_far ∙ ap (behind values) (lines_off text at key left j e)

  pub so_all : ReadSo text from keys values [] at → lines_at text from keys ≡ found values at
  so_all s = s.so_far ∙ ap (behind values) (lines_none text at) ∙ ap (λ (l : List ℕ). found l at) (append-nil values)

-- a line that is read has a value of five digits at most
pub line_small : (text : List ℕ) (at : ℕ) (key : List ℕ) {v next : ℕ} → line_at text at key ≡ found (v ∷ []) next → v ≤ 99999
line_small text at key {v} {next} e =
    let l = line_sound text at key (v ∷ []) next e in
    omega (arith, number_most l.digits l.good, ap head l.word)

-- the keys of one row more
pub keys_more : (keys : List (List ℕ)) (n i : ℕ) → i < n → keys_of keys (n - i) ≡ keys ++ keys_of keys (n - suc i)
unfolding keys_of
keys_more keys n i h = let e : n - i ≡ suc (n - suc i) = omega arith in rw e
