-- One line of a text: reading finds exactly the lines of its key, a fault stands where the good part can still be made a line, and nothing past the
-- place that was reached plays a part.
use mathlib.Core.Bool.{Bool, true, false, not}
use mathlib.Core.List.{List, [], ◌∷◌, ◌++◌, append_assoc}
use mathlib.Core.Path.{◌≡◌, refl, sym, ap, ◌∙◌, subst}
use Prim.Native.Nat.{ℕ, zero, suc, ◌+◌, ◌≤◌, ◌<◌}
use native.Mathlib.Decide.{dec_lt}
use native.Mathlib.Nat.{add-zero}
use native.Mathlib.Numerals.{add-one}
use native.Mathlib.Omega.{arith}
use lib.Dec.{leb, ltb, eqb}
use lib.ListN.{length, get_or, take, drop, length-take, length-drop, take-append-drop, get_or-append, get_or-eq_default}
use lib.Seq.{take-length, drop-append_seam, take-append_seam, get_or-append_seam, get_or-drop, get_or-take, take-add, take-take, drop-drop, drop-cons, ext_get_or, length-take-le}
use borrow.Author.Tests.{ltb-true, leb-true, eqb-true, lt-ltb, le-leb, eq-eqb, ne_eqb, not-false}
use Rattle.law.specs.Sums.{both, first, every}
use Rattle.law.specs.Refusal.{within}
use Rattle.law.specs.Text.{is_digit, is_value, number_of}
use Rattle.law.specs.Reading.{Found, found, fault, byte_at, key_length, digits_length, value_length, value_of_length, value_at, line_at}
use Rattle.law.proofs.Tests.{both_left, both_right, both_true, never_both, known, passes, fails}
use Rattle.law.proofs.Question.{within_high}
use Rattle.law.proofs.First.{first_before, first_found_lem, first_high, first_is}
use Rattle.law.proofs.Lists.{get_d_inside, take_drop, every_at, every_all}

-- the bytes of a key are bytes
abbrev pub is_key : List ℕ → Bool
is_key key = every (λ b. ltb b 256) key

-- the place behind all that a reading has looked at
abbrev pub reached : Found → ℕ
reached (found values next) = next
reached (fault j) = suc j

-- a byte stands inside the text
pub inside : (text : List ℕ) (i : ℕ) → byte_at text i < 256 → i < length text
inside text i h =
    elim (dec_lt i (length text)) [
      | yes l ↦ l
      | no l ↦ absurd (omega (arith, get_or-eq_default text 256 {n = i} (omega arith)))
    ]

byte_ahead : (text rest : List ℕ) (at i : ℕ) → drop at text ≡ rest → byte_at text (at + i) ≡ byte_at rest i
byte_ahead text rest at i e = sym (get_or-drop at text i 256) ∙ ap (λ (l : List ℕ). byte_at l i) e

byte_here : (text rest : List ℕ) (at : ℕ) → drop at text ≡ rest → byte_at text at ≡ byte_at rest 0
byte_here text rest at e = ap (λ (i : ℕ). byte_at text i) (sym (add-zero at)) ∙ byte_ahead text rest at 0 e

-- texts with the same beginning have the same bytes there
byte_same : (text other : List ℕ) (reach i : ℕ) → take reach other ≡ take reach text → i < reach → byte_at other i ≡ byte_at text i
byte_same text other reach i e h =
    sym (get_or-take reach other i 256 h) ∙ ap (λ (l : List ℕ). byte_at l i) e ∙ get_or-take reach text i 256 h

part_same : (text other : List ℕ) (reach at n : ℕ) → take reach other ≡ take reach text → at + n ≤ reach
    → take n (drop at other) ≡ take n (drop at text)
part_same text other reach at n e h =
    take_drop at n other
    ∙ ap (drop at) (sym (take-take (at + n) reach other h) ∙ ap (take (at + n)) e ∙ take-take (at + n) reach text h)
    ∙ sym (take_drop at n text)

-- a search whose tests agree as far as it went ends at the same place
first_local : (p q : ℕ → Bool) (n : ℕ) → ((j : ℕ) → j ≤ first p n → q j ≡ p j) → first q n ≡ first p n
first_local p q n e =
    first_is q 0 n (first p n) (omega arith) (first_high p 0 n)
    (λ h. e (first p n) (omega arith) ∙ first_found_lem p 0 n h) (λ j l h. e j (omega arith) ∙ first_before p 0 n j l h)

-- the key
module _ (text : List ℕ) (at : ℕ) (key : List ℕ) where
  pub key_high : key_length text at key ≤ length key
  unfolding key_length
  key_high = omega (arith, first_high (λ i. not (eqb (byte_at text (at + i)) (get_or key i 0))) 0 (length key))

  key_same : (i : ℕ) → i < key_length text at key → byte_at text (at + i) ≡ get_or key i 0
  unfolding key_length
  key_same i h =
      eqb-true _ _
      (not-false _ (first_before (λ i. not (eqb (byte_at text (at + i)) (get_or key i 0))) 0 (length key) i (omega arith) h))

  key_whole : (rest : List ℕ) → drop at text ≡ key ++ rest → key_length text at key ≡ length key
  unfolding key_length
  key_whole rest e =
      first_is (λ i. not (eqb (byte_at text (at + i)) (get_or key i 0))) 0 (length key) (length key) (omega arith) (omega arith)
      (λ h. absurd (omega arith))
      (λ i l h. ap not
      (eq-eqb _ _ (byte_ahead text (key ++ rest) at i e ∙ get_or-append key rest 256 i h ∙ get_d_inside key i 256 0 h)))

  key_part : (k : ℕ) → k ≤ key_length text at key → at + k ≤ length text → take k (drop at text) ≡ take k key
  key_part k l h =
      ext_get_or 256 _ _ (len_text ∙ sym len_key) (λ i b. get_or-take k (drop at text) i 256 (omega (arith, len_text))
      ∙ get_or-drop at text i 256
      ∙ key_same i (omega (arith, len_text))
      ∙ get_d_inside key i 0 256 (omega (arith, len_text, key_high))
      ∙ sym (get_or-take k key i 256 (omega (arith, len_text))))
    where
      len_text : length (take k (drop at text)) ≡ k
      len_text = length-take-le k (drop at text) (omega (arith, length-drop at text))

      len_key : length (take k key) ≡ k
      len_key = length-take-le k key (omega (arith, key_high))

  key_inside : is_key key ≡ true → at ≤ length text → at + key_length text at key ≤ length text
  key_inside bytes h = go (key_length text at key) refl
    where
      go : (k : ℕ) → key_length text at key ≡ k → at + k ≤ length text
      go zero e = omega arith
      go (suc k) e =
          let b : get_or key k 0 < 256 = ltb-true _ 256 (every_at (λ b. ltb b 256) key k 0 bytes (omega (arith, key_high))) in
          omega (arith, inside text (at + k) (omega (arith, key_same k (omega arith))))

-- the digits
digit_byte : (b : ℕ) → is_digit b ≡ true → b < 256
unfolding is_digit
digit_byte b e = omega (arith, within_high 48 57 b e)

module _ (text : List ℕ) (at : ℕ) where
  pub digits_high : digits_length text at ≤ 4
  unfolding digits_length
  digits_high = omega (arith, first_high (λ i. not (is_digit (byte_at text (at + i)))) 0 4)

  pub digits_are : (i : ℕ) → i < digits_length text at → is_digit (byte_at text (at + i)) ≡ true
  unfolding digits_length
  digits_are i h = not-false _ (first_before (λ i. not (is_digit (byte_at text (at + i)))) 0 4 i (omega arith) h)

  digits_inside : at ≤ length text → at + digits_length text at ≤ length text
  digits_inside h = go (digits_length text at) refl
    where
      go : (n : ℕ) → digits_length text at ≡ n → at + n ≤ length text
      go zero e = omega arith
      go (suc n) e = omega (arith, inside text (at + n) (digit_byte _ (digits_are n (omega arith))))

  digits_whole : (more rest : List ℕ) → drop at text ≡ more ++ (10 ∷ rest) → every is_digit more ≡ true → length more ≤ 4
      → digits_length text at ≡ length more
  unfolding digits_length is_digit within
  digits_whole more rest e all few =
      first_is (λ i. not (is_digit (byte_at text (at + i)))) 0 4 (length more) (omega arith) few
      (λ h. ap (λ (b : ℕ). not (is_digit b)) (byte_ahead text _ at (length more) e ∙ get_or-append_seam more 10 rest 256))
      (λ i l h. ap not
      (ap is_digit (byte_ahead text _ at i e ∙ get_or-append more (10 ∷ rest) 256 i h) ∙ every_at is_digit more i 256 all h))

  digits_value : every is_digit (take (digits_length text at) (drop at text)) ≡ true
  digits_value =
      every_all is_digit _ 256
      (λ i h. let l : i < digits_length text at = omega (arith, length-take (digits_length text at) (drop at text)) in
      ap is_digit (get_or-take (digits_length text at) (drop at text) i 256 l ∙ get_or-drop at text i 256) ∙ digits_are i l)

-- the three ways in which a value can begin
pub data Start (text : List ℕ) (at : ℕ) : Type 0 where
  naught : eqb (byte_at text at) 48 ≡ true → value_length text at ≡ 1 → Start text at
  digit : eqb (byte_at text at) 48 ≡ false → is_digit (byte_at text at) ≡ true → value_length text at ≡ suc (digits_length text (suc at))
      → Start text at
  neither : eqb (byte_at text at) 48 ≡ false → is_digit (byte_at text at) ≡ false → value_length text at ≡ 0 → Start text at

pub start : (text : List ℕ) (at : ℕ) → Start text at
unfolding value_length
start text at =
    elim (known (eqb (byte_at text at) 48)) [
      | passes e ↦ naught e (rw e)
      | fails e ↦ elim (known (is_digit (byte_at text at))) [
        | passes f ↦ digit e f (rw (e, f))
        | fails f ↦ neither e f (rw (e, f))
      ]
    ]

-- what a value says of its digits
value_naught : (b : ℕ) (more : List ℕ) → is_value (b ∷ more) ≡ true → eqb b 48 ≡ true → length more ≡ 0
unfolding is_value
value_naught b more good e = eqb-true _ 0 (rw e at good)

value_digits : (b : ℕ) (more : List ℕ) → is_value (b ∷ more) ≡ true → eqb b 48 ≡ false
    → both (is_digit b) (both (every is_digit more) (leb (length more) 4)) ≡ true
unfolding is_value
value_digits b more good e = rw e at good

value_some : (v : List ℕ) → is_value v ≡ true → 0 < length v
unfolding is_value
value_some [] good = absurd (never_both _ good refl)
value_some (b ∷ more) good = omega arith

pub zero_good : is_value (48 ∷ []) ≡ true
unfolding is_value
zero_good = refl

-- the bytes of a value, where there are some
module _ (text : List ℕ) (at : ℕ) where
  pub value_inside : 0 < value_length text at → at + value_length text at ≤ length text
  value_inside h =
      elim (start text at) [
        | naught e n ↦ omega (arith, inside text at (omega (arith, eqb-true (byte_at text at) 48 e)))
        | digit e f n ↦ omega (arith, digits_inside text (suc at) (inside text at (digit_byte _ f)))
        | neither e f n ↦ absurd (omega arith)
      ]

  pub value_good : 0 < value_length text at → is_value (take (value_length text at) (drop at text)) ≡ true
  unfolding is_value
  value_good h =
      elim (start text at) [
        | naught e n ↦ rw (n, cut, e)
        | digit e f n ↦ rw (n, cut, e, f) (both_true _ _ (digits_value text (suc at)) few)
        | neither e f n ↦ absurd (omega arith)
      ]
    where
      cut : drop at text ≡ byte_at text at ∷ drop (suc at) text
      cut = drop-cons text at 256 (omega (arith, value_inside h))

      few : leb (length (take (digits_length text (suc at)) (drop (suc at) text))) 4 ≡ true
      few =
          le-leb (length (take (digits_length text (suc at)) (drop (suc at) text))) 4
          (omega (arith, length-take (digits_length text (suc at)) (drop (suc at) text), digits_high text (suc at)))

  value_length_lem : (v rest : List ℕ) → drop at text ≡ v ++ (10 ∷ rest) → is_value v ≡ true → value_length text at ≡ length v
  value_length_lem [] rest e good = absurd (omega (arith, value_some [] good))
  value_length_lem (b ∷ more) rest e good =
      elim (start text at) [
        | naught h n ↦ n ∙ sym (ap suc (value_naught b more good (same h)))
        | digit h f n ↦ n ∙ ap suc (digits_whole text (suc at) more rest ahead (both_left _ _ (after h)) (few h))
        | neither h f n ↦ absurd
            (never_both (is_digit b) (both_left _ _ (value_digits b more good (same h))) (sym (ap is_digit here) ∙ f))
      ]
    where
      here : byte_at text at ≡ b
      here = byte_here text _ at e

      same : {t : Bool} → eqb (byte_at text at) 48 ≡ t → eqb b 48 ≡ t
      same h = ap (λ (z : ℕ). eqb z 48) (sym here) ∙ h

      ahead : drop (suc at) text ≡ more ++ (10 ∷ rest)
      ahead = ap (λ (z : ℕ). drop z text) (sym (add-one at)) ∙ sym (drop-drop 1 at text) ∙ ap (drop 1) e

      after : eqb (byte_at text at) 48 ≡ false → both (every is_digit more) (leb (length more) 4) ≡ true
      after h = both_right (is_digit b) _ (value_digits b more good (same h))

      few : eqb (byte_at text at) 48 ≡ false → length more ≤ 4
      few h = leb-true (length more) 4 (both_right (every is_digit more) _ (after h))

  pub value_whole : (v rest : List ℕ) → drop at text ≡ v ++ (10 ∷ rest) → is_value v ≡ true
      → value_at text at ≡ found (number_of v ∷ []) (suc (at + length v))
  unfolding value_at value_of_length
  value_whole v rest e good =
      rw (
        value_length_lem v rest e good,
        lt-ltb 0 (length v) (value_some v good),
        byte_ahead text _ at (length v) e,
        get_or-append_seam v 10 rest 256,
        e,
        take-append_seam v (10 ∷ rest),
      )

  -- the last byte that was looked at is the one behind the value
  pub value_reached : reached (value_at text at) ≡ suc (at + value_length text at)
  unfolding value_at value_of_length
  value_reached =
      elim (known (both (ltb 0 (value_length text at)) (eqb (byte_at text (at + value_length text at)) 10))) [
        | passes e ↦ rw e
        | fails e ↦ rw e
      ]

-- a value that was found
record Value (text : List ℕ) (at : ℕ) (values : List ℕ) (next : ℕ) : Type 0 where
  some : 0 < value_length text at
  ends : byte_at text (at + value_length text at) ≡ 10
  word : values ≡ number_of (take (value_length text at) (drop at text)) ∷ []
  after : next ≡ suc (at + value_length text at)

module _ (text : List ℕ) (at : ℕ) where
  value_sound : (values : List ℕ) (next : ℕ) → value_at text at ≡ found values next → Value text at values next
  unfolding value_at value_of_length
  value_sound values next e =
      elim (known (both (ltb 0 (value_length text at)) (eqb (byte_at text (at + value_length text at)) 10))) [
        | passes h ↦ record {
          some = ltb-true 0 _ (both_left _ _ h);
          ends = eqb-true _ 10 (both_right (ltb 0 (value_length text at)) _ h);
          word = cc (rw h at e);
          after = omega (arith, value_reached text at, ap reached e);
        }
        | fails h ↦ absurd (let f = rw h at e in let z : ◌≡◌ {A = ℕ} 0 1 = cc f in omega arith)
      ]

-- readings of texts with the same beginning
module _ (text other : List ℕ) (reach : ℕ) (same : take reach other ≡ take reach text) where
  key_local : (at : ℕ) (key : List ℕ) → at + key_length text at key < reach → key_length other at key ≡ key_length text at key
  unfolding key_length
  key_local at key h =
      first_local (λ i. not (eqb (byte_at text (at + i)) (get_or key i 0))) (λ i. not (eqb (byte_at other (at + i)) (get_or key i 0)))
      (length key) (λ i l. ap (λ (b : ℕ). not (eqb b (get_or key i 0))) (byte_same text other reach (at + i) same (omega arith)))

  digits_local : (at : ℕ) → at + digits_length text at < reach → digits_length other at ≡ digits_length text at
  unfolding digits_length
  digits_local at h =
      first_local (λ i. not (is_digit (byte_at text (at + i)))) (λ i. not (is_digit (byte_at other (at + i)))) 4
      (λ i l. ap (λ (b : ℕ). not (is_digit b)) (byte_same text other reach (at + i) same (omega arith)))

  length_local : (at : ℕ) → at + value_length text at < reach → value_length other at ≡ value_length text at
  unfolding value_length
  length_local at h =
      elim (start text at) [
        | naught e n ↦ rw (here, e)
        | digit e f n ↦ rw (here, e, f) (ap suc (digits_local (suc at) (omega arith)))
        | neither e f n ↦ rw (here, e, f)
      ]
    where
      here : byte_at other at ≡ byte_at text at
      here = byte_same text other reach at same (omega arith)

  value_local : (at : ℕ) → at + value_length text at < reach → value_at other at ≡ value_at text at
  unfolding value_at value_of_length
  value_local at h =
      rw (
        length_local at h,
        byte_same text other reach (at + value_length text at) same h,
        part_same text other reach at (value_length text at) same (omega arith),
      )

-- the line: its key is cut short, or it stands whole and the value follows
pub line_cut : (text : List ℕ) (at : ℕ) (key : List ℕ) (k : ℕ) → key_length text at key ≡ k → k < length key → line_at text at key ≡ fault (at + k)
unfolding line_at
line_cut text at key k e h = rw (e, ne_eqb k (length key) (λ q. omega arith))

pub line_on : (text : List ℕ) (at : ℕ) (key : List ℕ) → key_length text at key ≡ length key → line_at text at key ≡ value_at text (at + length key)
unfolding line_at
line_on text at key e = rw (e, eq-eqb (length key) (length key) refl)

value_there : (text : List ℕ) (at n next : ℕ) → at + n < length text → byte_at text (at + n) ≡ 10 → next ≡ suc (at + n)
    → drop at text ≡ take n (drop at text) ++ (10 ∷ drop next text)
value_there text at n next h e after =
    sym (take-append-drop n (drop at text))
    ∙ ap (λ (l : List ℕ). take n (drop at text) ++ l) (drop-drop n at text ∙ drop-cons text (at + n) 256 h ∙ rw (e, after))

-- a line that was found, from its key to the place after its LF
pub record Line (text : List ℕ) (at : ℕ) (key values : List ℕ) (next : ℕ) : Type 0 where
  pub digits : List ℕ
  pub good : is_value digits ≡ true
  pub word : values ≡ number_of digits ∷ []
  pub there : drop at text ≡ key ++ (digits ++ (10 ∷ drop next text))
  pub after : next ≡ at + (length key + suc (length digits))
  pub fits : next ≤ length text

-- the good part before a fault, and what makes it a line
pub record Stuck (text : List ℕ) (at : ℕ) (key : List ℕ) (j : ℕ) : Type 0 where
  pub low : at ≤ j
  pub high : j ≤ length text
  pub digits : List ℕ
  pub good : is_value digits ≡ true
  pub rest : List ℕ
  pub whole : take j text ++ rest ≡ take at text ++ (key ++ (digits ++ (10 ∷ [])))

pub line_whole : (text : List ℕ) (at : ℕ) (key v rest : List ℕ) → is_value v ≡ true → drop at text ≡ key ++ (v ++ (10 ∷ rest))
    → line_at text at key ≡ found (number_of v ∷ []) (at + (length key + suc (length v)))
line_whole text at key v rest good e =
    line_on text at key (key_whole text at key (v ++ (10 ∷ rest)) e)
    ∙ value_whole text (at + length key) v rest ahead good
    ∙ ap (λ (z : ℕ). found (number_of v ∷ []) z) (omega arith)
  where
    ahead : drop (at + length key) text ≡ v ++ (10 ∷ rest)
    ahead = sym (drop-drop (length key) at text) ∙ ap (drop (length key)) e ∙ drop-append_seam key (v ++ (10 ∷ rest))

module _ (text : List ℕ) (at : ℕ) (key : List ℕ) where
  -- a key that stands whole
  key_there : key_length text at key ≡ length key → at + length key ≤ length text → drop at text ≡ key ++ drop (at + length key) text
  key_there e h =
      sym (take-append-drop (length key) (drop at text))
      ∙ ap (λ (l : List ℕ). l ++ drop (length key) (drop at text))
      (key_part text at key (length key) (omega (arith, e)) h ∙ take-length key)
      ∙ ap (λ (l : List ℕ). key ++ l) (drop-drop (length key) at text)

  pub line_sound : (values : List ℕ) (next : ℕ) → line_at text at key ≡ found values next → Line text at key values next
  line_sound values next e =
      elim (dec_lt (key_length text at key) (length key)) [
        | yes h ↦ absurd (let f = line_cut text at key _ refl h in let z : ◌≡◌ {A = ℕ} 0 1 = cc in omega arith)
        | no h ↦ read (omega (arith, key_high text at key))
      ]
    where
      read : key_length text at key ≡ length key → Line text at key values next
      read k =
          let from = at + length key in
          let n = value_length text from in
          let v = value_sound text from values next (sym (line_on text at key k) ∙ e) in
          let h : from + n < length text = inside text (from + n) (omega (arith, v.ends)) in
          record {
            digits = take n (drop from text);
            good = value_good text from v.some;
            word = v.word;
            there = key_there k (omega arith) ∙ ap (λ (l : List ℕ). key ++ l) (value_there text from n next h v.ends v.after);
            after = omega (arith, v.after, length-take-le n (drop from text) (omega (arith, length-drop from text)));
            fits = omega (arith, v.after);
          }

  -- the good part of a key, and what is left of it
  key_front : (k : ℕ) → k ≤ key_length text at key → at + k ≤ length text → take (at + k) text ≡ take at text ++ take k key
  key_front k l h = take-add at k text ∙ ap (λ (l : List ℕ). take at text ++ l) (key_part text at key k l h)

  module _ (bytes : is_key key ≡ true) (starts : at ≤ length text) where
    cut_stuck : key_length text at key < length key → Stuck text at key (at + key_length text at key)
    cut_stuck h =
        let k = key_length text at key in
        let in-text = key_inside text at key bytes starts in
        record {
          low = omega arith;
          high = in-text;
          digits = 48 ∷ [];
          good = zero_good;
          rest = drop k key ++ (48 ∷ 10 ∷ []);
          whole = ap (λ (l : List ℕ). l ++ (drop k key ++ (48 ∷ 10 ∷ []))) (key_front k (omega arith) in-text)
              ∙ append_assoc (take at text) (take k key) (drop k key ++ (48 ∷ 10 ∷ []))
              ∙ ap (λ (l : List ℕ). take at text ++ l)
              (sym (append_assoc (take k key) (drop k key) (48 ∷ 10 ∷ []))
              ∙ ap (λ (l : List ℕ). l ++ (48 ∷ 10 ∷ [])) (take-append-drop k key));
        }

    -- behind a key that stands whole
    module _ (stands : key_length text at key ≡ length key) where
      key_end : at + length key ≤ length text
      key_end = omega (arith, stands, key_inside text at key bytes starts)

      key_all : take (at + length key) text ≡ take at text ++ key
      key_all =
          key_front (length key) (omega (arith, stands)) key_end ∙ ap (λ (l : List ℕ). take at text ++ l) (take-length key)

      none_stuck : Stuck text at key (at + length key)
      none_stuck =
          record {
            low = omega arith;
            high = key_end;
            digits = 48 ∷ [];
            good = zero_good;
            rest = 48 ∷ 10 ∷ [];
            whole = ap (λ (l : List ℕ). l ++ (48 ∷ 10 ∷ [])) key_all ∙ append_assoc (take at text) key (48 ∷ 10 ∷ []);
          }

      some_stuck : 0 < value_length text (at + length key) → Stuck text at key (at + length key + value_length text (at + length key))
      some_stuck h =
          let from = at + length key in
          let n = value_length text from in
          record {
            low = omega arith;
            high = value_inside text from h;
            digits = take n (drop from text);
            good = value_good text from h;
            rest = 10 ∷ [];
            whole = ap (λ (l : List ℕ). l ++ (10 ∷ []))
                (take-add from n text ∙ ap (λ (l : List ℕ). l ++ take n (drop from text)) key_all)
                ∙ append_assoc (take at text ++ key) (take n (drop from text)) (10 ∷ [])
                ∙ append_assoc (take at text) key (take n (drop from text) ++ (10 ∷ []));
          }

      value_stuck : Stuck text at key (at + length key + value_length text (at + length key))
      value_stuck =
          elim (dec_lt 0 (value_length text (at + length key))) [
            | yes h ↦ some_stuck h
            | no h ↦
                let e : at + length key ≡ at + length key + value_length text (at + length key) = omega arith in
                subst (λ (j : ℕ). Stuck text at key j) e none_stuck
          ]

    pub line_stuck : (j : ℕ) → line_at text at key ≡ fault j → Stuck text at key j
    line_stuck j e =
        elim (dec_lt (key_length text at key) (length key)) [
          | yes h ↦
              let same : at + key_length text at key ≡ j = omega (arith, ap reached (sym (line_cut text at key _ refl h) ∙ e)) in
              subst (λ (j : ℕ). Stuck text at key j) same (cut_stuck h)
          | no h ↦
              let stands : key_length text at key ≡ length key = omega (arith, key_high text at key) in
              let same : at + length key + value_length text (at + length key) ≡ j =
              omega (arith, value_reached text (at + length key), ap reached (sym (line_on text at key stands) ∙ e)) in
              subst (λ (j : ℕ). Stuck text at key j) same (value_stuck stands)
        ]

  -- a reading looks at the place where it begins
  pub line_low : at < reached (line_at text at key)
  line_low =
      elim (dec_lt (key_length text at key) (length key)) [
        | yes h ↦ omega (arith, ap reached (line_cut text at key _ refl h))
        | no h ↦ omega
            (arith, value_reached text (at + length key), ap reached (line_on text at key (omega (arith, key_high text at key))))
      ]

  pub line_local : (other : List ℕ) (reach : ℕ) → take reach other ≡ take reach text → reached (line_at text at key) ≤ reach
      → line_at other at key ≡ line_at text at key
  line_local other reach same h =
      elim (dec_lt (key_length text at key) (length key)) [
        | yes l ↦
            let cut = line_cut text at key _ refl l in
            line_cut other at key _ (key_local text other reach same at key (omega (arith, ap reached cut))) l ∙ sym cut
        | no l ↦ behind (omega (arith, key_high text at key))
      ]
    where
      behind : key_length text at key ≡ length key → line_at other at key ≡ line_at text at key
      behind e =
          let on = line_on text at key e in
          let past : at + length key + value_length text (at + length key) < reach =
          omega (arith, value_reached text (at + length key), ap reached on) in
          line_on other at key (key_local text other reach same at key (omega arith) ∙ e)
          ∙ value_local text other reach same (at + length key) past ∙ sym on
