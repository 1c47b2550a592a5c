-- Both round trips: a well-formed table's text reads back to its words, and an accepted text is the text of the words it gave.
use mathlib.Core.Bool.{true}
use mathlib.Core.List.{List, [], ◌∷◌, map}
use mathlib.Core.Path.{◌≡◌, refl, sym, ap, ◌∙◌}
use Prim.Native.Nat.{ℕ, ◌*◌, ◌/◌, ◌≤◌, ◌<◌}
use native.Mathlib.Nat.{div-eq_of_eq-mul_left}
use native.Mathlib.Omega.{arith}
use lib.ListN.{length, length-map}
use borrow.Author.Tests.{leb-true}
use Rattle.law.specs.Sums.{every}
use Rattle.law.specs.Refusal.{accepted, head}
use Rattle.law.specs.Table.{width, table_of, rows_checked, checked}
use Rattle.law.specs.Text.{rows_key, row_keys, keys_of, is_value, number_of, lines, IsText}
use Rattle.law.specs.Reading.{Found, found, values_of, line_at, rows_at, text_read, words_read, text_answer, read_answer, decimal, text_of, put_answer, write_answer}
use Rattle.law.proofs.Tests.{both_left, both_right, both_true}
use Rattle.law.proofs.Table.{table_length}
use Rattle.law.proofs.Words.{table_rows, is_small, words_small}
use Rattle.law.proofs.TextPlace.{read_on, text_first, text_whole, TextFound, text_sound}
use Rattle.law.proofs.TextAnswers.{checked_of_rows, text_accepted, text_says, read_accepted, read_says, write_put, put_accepted}
use Rattle.law.proofs.TextDecimal.{decimal_number, decimal_value, number_decimal}
use Rattle.law.proofs.TextWrite.{keys_length}
use Rattle.law.proofs.TextLongest.{text_longest, longest, longest_accepted, longest_words}

module _ (keys : List (List ℕ)) (text : List ℕ) {values words : List ℕ} {next last : ℕ} (line : line_at text 0 rows_key ≡ found values next)
    (rows : rows_at keys text next (head values) ≡ found words last) where
  text_found : TextFound keys text words last
  text_found = text_sound keys text words last (read_on keys text values next line ∙ rows)

  pub words_many : length words ≡ head values * length keys
  words_many =
      let t = text_found in
      let counted : head values ≡ number_of t.form.rows = ap (λ (f : Found). head (values_of f)) (sym line ∙ t.counted) in
      t.many ∙ keys_length keys (number_of t.form.rows) ∙ ap (λ (n : ℕ). n * length keys) (sym counted)

-- the values of small words, and back
decimals_good : (words : List ℕ) → every is_small words ≡ true → every is_value (map decimal words) ≡ true
unfolding every
decimals_good [] e = refl
decimals_good (w ∷ words) e =
    let small = leb-true w 65535 (both_left (is_small w) _ e) in
    both_true _ _ (decimal_value w (omega arith)) (decimals_good words (both_right (is_small w) _ e))

numbers_back : (words : List ℕ) → every is_small words ≡ true → map number_of (map decimal words) ≡ words
unfolding every
numbers_back [] e = refl
numbers_back (w ∷ words) e =
    let small = leb-true w 65535 (both_left (is_small w) _ e) in
    rw (decimal_number w (omega arith), numbers_back words (both_right (is_small w) _ e))

decimals_back : (values : List (List ℕ)) → every is_value values ≡ true → map decimal (map number_of values) ≡ values
unfolding every
decimals_back [] e = refl
decimals_back (v ∷ values) e = rw (number_decimal v (both_left (is_value v) _ e), decimals_back values (both_right (is_value v) _ e))

-- words of whole rows, as many words a row as there are keys, 1 to 32 rows, each word small
pub record Whole (keys : List (List ℕ)) (words : List ℕ) (n : ℕ) : Type 0 where
  pub some : 0 < length keys
  pub whole : length words ≡ n * length keys
  pub low : 1 ≤ n
  pub high : n ≤ 32
  pub small : every is_small words ≡ true

-- the text of such words is of the form, and reads back to them
module _ {keys : List (List ℕ)} {words : List ℕ} {n : ℕ} (w : Whole keys words n) where
  rows_are : length words / length keys ≡ n
  rows_are = div-eq_of_eq-mul_left w.some w.whole

  pub written_is_text : IsText keys (text_of keys words)
  unfolding every text_of
  written_is_text =
      let rows = length words / length keys in
      let number = decimal_number rows (omega (arith, rows_are, w.high)) in
      record {
        rows = decimal rows;
        values = map decimal words;
        each = both_true _ _ (decimal_value rows (omega (arith, rows_are, w.high))) (decimals_good words w.small);
        many = length-map words decimal ∙ w.whole ∙ sym (keys_length keys n) ∙ ap (λ (k : ℕ). length (keys_of keys k)) (sym rows_are ∙ sym number);
        same = ap (λ (k : ℕ). lines (rows_key ∷ keys_of keys k) (decimal rows ∷ map decimal words)) (sym number);
      }

  written_words : map number_of written_is_text.values ≡ words
  unfolding written_is_text
  written_words = numbers_back words w.small

  written_read : text_read keys (text_of keys words) ≡ found words (length (text_of keys words))
  written_read = text_whole written_is_text ∙ ap (λ (ws : List ℕ). found ws (length (text_of keys words))) written_words

  pub written_back : words_read keys (text_of keys words) ≡ words
  unfolding words_read
  written_back = ap values_of written_read

  pub written_lines : text_answer keys (text_of keys words) ≡ accepted (n ∷ [])
  written_lines =
      let text = text_of keys words in
      let line = text_first written_is_text in
      let rows = sym (read_on keys text _ _ line) ∙ written_read in
      let many : n ≡ number_of written_is_text.rows =
      sym rows_are ∙ div-eq_of_eq-mul_left w.some (words_many keys text line rows) in
      text_accepted keys text line (omega (arith, w.low)) (omega (arith, w.high)) rows ∙ ap (λ (z : ℕ). accepted (z ∷ [])) (sym many)

-- a text of the form is the text of its values' numbers
text_written : (keys : List (List ℕ)) → 0 < length keys → (text : List ℕ) (t : IsText keys text) → text_of keys (map number_of t.values) ≡ text
unfolding text_of every
text_written keys some text t =
    let values = t.values in
    let rows = number_of t.rows in
    let due = keys_of keys rows in
    let good = both_left (is_value t.rows) _ t.each in
    let all = both_right (is_value t.rows) _ t.each in
    let many : length (map number_of values) / length keys ≡ rows =
    div-eq_of_eq-mul_left some (length-map values number_of ∙ t.many ∙ keys_length keys rows) in
    ap (λ (n : ℕ). lines (rows_key ∷ keys_of keys n) (decimal n ∷ map decimal (map number_of values))) many
    ∙ ap (λ (first : List ℕ). lines (rows_key ∷ due) (first ∷ map decimal (map number_of values))) (number_decimal t.rows good)
    ∙ ap (λ (vs : List (List ℕ)). lines (rows_key ∷ due) (t.rows ∷ vs)) (decimals_back values all) ∙ sym t.same

-- a text whose lines are accepted is the text of the words it gave, in whole rows
pub record LinesTrip (keys : List (List ℕ)) (text : List ℕ) (n : ℕ) : Type 0 where
  pub written : text_of keys (words_read keys text) ≡ text
  pub whole : length (words_read keys text) ≡ n * length keys
  pub low : 1 ≤ n
  pub high : n ≤ 32

pub lines_trip : (keys : List (List ℕ)) → 0 < length keys → (text vs : List ℕ) → text_answer keys text ≡ accepted vs
    → (vs ≡ head vs ∷ []) × (LinesTrip keys text (head vs))
lines_trip keys some text vs e =
    let r = text_says keys text vs e in
    let t = text_found keys text r.line r.rows in
    let n : head r.values ≡ head vs = sym (ap head r.many) in (
      r.many ∙ ap (λ (z : ℕ). z ∷ []) n,
      record {
        written = ap (text_of keys) (sym t.are) ∙ text_written keys some text t.form;
        whole = words_many keys text r.line r.rows ∙ ap (λ (z : ℕ). z * length keys) n;
        low = omega (arith, r.low);
        high = omega (arith, r.high);
      },
    )

-- an accepted table's words, and an accepted text's
pub table_whole : (words vs : List ℕ) → checked words ≡ accepted vs → Whole row_keys words (length words / width)
table_whole words vs good =
    let a = table_rows words vs good in
    record { some = omega arith; whole = a.whole; low = a.low; high = a.high; small = words_small words vs good }

-- what an accepted text says: it is the text of the words it gave, and these are an accepted table
pub record Trip (text : List ℕ) (room : ℕ) (vs : List ℕ) : Type 0 where
  pub written : text_of row_keys (words_read row_keys text) ≡ text
  pub good : checked (words_read row_keys text) ≡ accepted vs
  pub rows : vs ≡ (length (words_read row_keys text) / width) ∷ []
  pub whole : length (words_read row_keys text) ≡ length (words_read row_keys text) / width * width
  pub low : 1 ≤ length (words_read row_keys text) / width
  pub high : length (words_read row_keys text) / width ≤ 32
  pub fits : length (words_read row_keys text) ≤ room
  pub most : length text ≤ 1512

-- every well-formed table's text reads back to its words
pub write_read : (words vs : List ℕ) → checked words ≡ accepted vs → (room : ℕ) → length words ≤ room
    → (read_answer (text_of row_keys words) room ≡ accepted ((length words / width) ∷ [])) × (words_read row_keys (text_of row_keys words) ≡ words)
write_read words vs good room fits =
    let w = table_whole words vs good in
    let text = text_of row_keys words in
    let back = written_back w in
    let rows = checked_of_rows words (length words / width) w.whole w.low w.high in
    let clean = ap (λ (ws : List ℕ). rows_checked (table_of ws)) back ∙ sym rows ∙ good in (
      read_accepted text room (written_lines w) clean (omega (arith, ap length back))
          ∙ ap (λ (ws : List ℕ). accepted (length (table_of ws) ∷ [])) back ∙ ap (λ (n : ℕ). accepted (n ∷ [])) (table_length words),
      back,
    )

-- every accepted text is the text of the words it gave
pub read_write : (text : List ℕ) (room : ℕ) (vs : List ℕ) → read_answer text room ≡ accepted vs → Trip text room vs
read_write text room vs e =
    let r = read_says text room vs e in
    let words = words_read row_keys text in
    let t = (lines_trip row_keys (omega arith) text r.ns r.lines).1 in
    let good = checked_of_rows words (head r.ns) t.whole t.low t.high ∙ r.clean in
    record {
      written = t.written;
      good = good;
      rows = r.many ∙ ap (λ (n : ℕ). n ∷ []) (table_length words);
      whole = omega (arith, t.whole);
      low = omega (arith, t.whole, t.low);
      high = omega (arith, t.whole, t.high);
      fits = r.fits;
      most = omega (arith, text_longest words vs good, ap length t.written);
    }

pub read_write_answer : (text : List ℕ) (room : ℕ) (vs : List ℕ) → read_answer text room ≡ accepted vs → (r : ℕ) → length text ≤ r
    → write_answer (words_read row_keys text) r ≡ accepted (length text ∷ [])
read_write_answer text room vs e r h =
    let t = read_write text room vs e in
    write_put (words_read row_keys text) r t.good ∙ ap (λ (l : List ℕ). put_answer l r) t.written ∙ put_accepted text r h

-- "The longest accepted text is 1,512 bytes.": no accepted text is longer (`most` of a trip), and this one is accepted
pub longest_read : read_answer (text_of row_keys (longest 32)) 224 ≡ accepted (32 ∷ [])
longest_read =
    (write_read (longest 32) (32 ∷ []) longest_accepted 224 (omega (arith, longest_words))).0
    ∙ ap (λ (n : ℕ). accepted ((n / width) ∷ [])) longest_words
