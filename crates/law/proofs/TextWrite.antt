-- Writing a task text: a number's digits from the last to the first, and the lines one after the other.
use mathlib.Core.List.{List, [], ◌∷◌, ◌++◌, map, append_assoc, append-nil}
use mathlib.Core.Path.{◌≡◌, refl, sym, ap, ◌∙◌}
use Prim.Native.Nat.{ℕ, zero, suc, ◌+◌, ◌-◌, ◌*◌, ◌/◌, ◌%◌, ◌^◌, ◌≤◌, ◌<◌}
use native.Mathlib.Decide.{dec_lt}
use native.Mathlib.Nat.{suc-mul, mod-eq_of_lt, mod-eq-sub-mod, div-eq_of_eq-mul_left}
use native.Mathlib.Omega.{arith}
use lib.ListN.{length, get_or, take, drop, length-append, length-map, take-append-drop, get_or-append, get_or-map}
use lib.Seq.{take-suc, take_all, length-take-le, get_or-append-add}
use Rattle.law.specs.Text.{rows_key, keys_of, lines}
use Rattle.law.specs.Reading.{decimal_of, decimal, text_of}
use Rattle.law.proofs.TextDecimal.{decimal_one, decimal_more, digits_shortest}

-- What is left of a number whose last digits are known: as many digits of `rest` as may still come make it whole.
pub record Left (v rest : ℕ) (digits : List ℕ) : Type 0 where
  pub more : ℕ
  pub small : rest < 10 ^ suc more
  pub same : decimal_of (suc more) rest ++ digits ≡ decimal v

pub left_start : (v : ℕ) → v ≤ 4294967295 → Left v v []
unfolding decimal
left_start v h = record { more = 9; small = omega arith; same = append-nil (decimal_of 10 v) }

pub left_next : (v rest : ℕ) (digits : List ℕ) → Left v rest digits → 10 ≤ rest → Left v (rest / 10) ((48 + rest % 10) ∷ digits)
left_next v rest digits l h = by l.more l.small l.same
  where
    by : (more : ℕ) → rest < 10 ^ suc more → decimal_of (suc more) rest ++ digits ≡ decimal v
        → Left v (rest / 10) ((48 + rest % 10) ∷ digits)
    by zero s e = absurd (omega arith)
    by (suc more) s e =
        record {
          more = more;
          small = omega arith;
          same = sym (append_assoc (decimal_of (suc more) (rest / 10)) ((48 + rest % 10) ∷ []) digits)
              ∙ ap (λ (z : List ℕ). z ++ digits) (sym (decimal_more (suc more) rest h)) ∙ e;
        }

pub left_last : (v rest : ℕ) (digits : List ℕ) → Left v rest digits → rest < 10 → (48 + rest) ∷ digits ≡ decimal v
left_last v rest digits l h =
    ap (λ (z : List ℕ). z ++ digits) (sym (decimal_one l.more rest h)) ∙ l.same

-- at least one digit is still to come
pub left_fits : (v rest : ℕ) (digits : List ℕ) → Left v rest digits → length digits < length (decimal v)
left_fits v rest digits l =
    omega (arith, ap length l.same, length-append (decimal_of (suc l.more) rest) digits, digits_shortest l.more rest)

-- lines: those of two runs of keys and values are the one's behind the other's
pub lines_append : (keys values keys' values' : List (List ℕ)) → length keys ≡ length values
    → lines (keys ++ keys') (values ++ values') ≡ lines keys values ++ lines keys' values'
unfolding lines
lines_append [] [] keys' values' e = refl
lines_append [] (v ∷ values) keys' values' e = absurd (omega arith)
lines_append (k ∷ keys) [] keys' values' e = absurd (omega arith)
lines_append (k ∷ keys) (v ∷ values) keys' values' e = rw (lines_append keys values keys' values' (omega arith)) (simp append_assoc)

module _ (keys values : List (List ℕ)) where
  -- the first n lines
  pub lines_to : ℕ → List ℕ
  lines_to n = lines (take n keys) (take n values)

  pub lines_next : (n : ℕ) (d : List ℕ) → n < length keys → n < length values
      → lines_to (suc n) ≡ lines_to n ++ (get_or keys n [] ++ (get_or values n d ++ (10 ∷ [])))
  unfolding lines_to lines
  lines_next n d h l =
      ap (λ (z : List (List ℕ)). lines z (take (suc n) values)) (take-suc keys n [] h)
      ∙ ap (λ (z : List (List ℕ)). lines (take n keys ++ (get_or keys n [] ∷ [])) z) (take-suc values n d l)
      ∙ lines_append (take n keys) (take n values) (get_or keys n [] ∷ []) (get_or values n d ∷ [])
      (length-take-le n keys (omega arith) ∙ sym (length-take-le n values (omega arith)))

  pub lines_most : (n : ℕ) → n ≤ length keys → n ≤ length values → length (lines_to n) ≤ length (lines keys values)
  unfolding lines_to
  lines_most n h l =
      let rest : List ℕ = lines (drop n keys) (drop n values) in
      let e : lines keys values ≡ lines (take n keys) (take n values) ++ rest =
      ap (λ (z : List (List ℕ)). lines z values) (sym (take-append-drop n keys))
      ∙ ap (λ (z : List (List ℕ)). lines (take n keys ++ drop n keys) z) (sym (take-append-drop n values))
      ∙ lines_append (take n keys) (take n values) (drop n keys) (drop n values) (length-take-le n keys h ∙ sym (length-take-le n values l)) in
      omega (arith, ap length e, length-append (lines (take n keys) (take n values)) rest)

  pub lines_all : (n : ℕ) → length keys ≤ n → length values ≤ n → lines_to n ≡ lines keys values
  unfolding lines_to
  lines_all n h l = rw (take_all n keys h, take_all n values l)

-- the keys of rows: one for each word, the same in each row
pub keys_length : (keys : List (List ℕ)) (n : ℕ) → length (keys_of keys n) ≡ n * length keys
unfolding keys_of
keys_length keys zero = omega arith
keys_length keys (suc n) = length-append keys (keys_of keys n) ∙ omega (arith, keys_length keys n)

pub keys_at : (keys : List (List ℕ)) (n l : ℕ) → l < n * length keys → get_or (keys_of keys n) l [] ≡ get_or keys (l % length keys) []
unfolding keys_of
keys_at keys zero l h = absurd (omega arith)
keys_at keys (suc n) l h =
    elim (dec_lt l (length keys)) [
      | yes k ↦ get_or-append keys (keys_of keys n) [] l k ∙ ap (λ (z : ℕ). get_or keys z []) (sym (mod-eq_of_lt k))
      | no k ↦
          let r = l - length keys in
          let e : l ≡ length keys + r = omega arith in
          ap (λ (z : ℕ). get_or (keys ++ keys_of keys n) z []) e ∙ get_or-append-add keys (keys_of keys n) r []
          ∙ keys_at keys n r (omega (arith, suc-mul n (length keys)))
          ∙ ap (λ (z : ℕ). get_or keys z []) (sym (mod-eq-sub-mod {n = l} {m = length keys} (omega arith)))
    ]

-- the text of words in whole rows: its first line, and a line for each word
module _ (keys : List (List ℕ)) (words : List ℕ) (n : ℕ) where
  -- the lines of the first l words
  pub row_lines : ℕ → List ℕ
  row_lines l = lines_to (keys_of keys n) (map decimal words) l

  pub rows_none : row_lines 0 ≡ []
  unfolding row_lines lines_to lines
  rows_none = refl

  module _ (whole : length words ≡ n * length keys) where
    pub rows_next : (l : ℕ) → l < length words
        → row_lines (suc l) ≡ row_lines l ++ (get_or keys (l % length keys) [] ++ (decimal (get_or words l 0) ++ (10 ∷ [])))
    unfolding row_lines
    rows_next l h =
        lines_next (keys_of keys n) (map decimal words) l (decimal 0) (omega (arith, keys_length keys n)) (omega (arith, length-map words decimal))
        ∙ rw (keys_at keys n l (omega arith), get_or-map decimal words l 0)

    pub rows_most : (l : ℕ) → l ≤ length words → length (row_lines l) ≤ length (row_lines (length words))
    unfolding row_lines
    rows_most l h =
        let k = keys_length keys n in
        let v = length-map words decimal in
        omega (
          arith,
          ap length (lines_all (keys_of keys n) (map decimal words) (length words) (omega arith) (omega arith)),
          lines_most (keys_of keys n) (map decimal words) l (omega arith) (omega arith),
        )

    pub text_rows : 0 < length keys → text_of keys words ≡ (rows_key ++ (decimal n ++ (10 ∷ []))) ++ row_lines (length words)
    unfolding text_of lines row_lines
    text_rows some =
        let k = keys_length keys n in
        let v = length-map words decimal in
        let many : length words / length keys ≡ n = div-eq_of_eq-mul_left some whole in
        rw (many, lines_all (keys_of keys n) (map decimal words) (length words) (omega arith) (omega arith))
        (ap (λ (z : List ℕ). rows_key ++ z) (sym (append_assoc (decimal n) (10 ∷ []) (lines (keys_of keys n) (map decimal words)))))
