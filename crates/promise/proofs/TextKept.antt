-- Demand 2 on task text, from the law's round trips: what is written reads back, and what is accepted is rewritten.
use mathlib.Core.List.{List, [], ◌∷◌}
use mathlib.Core.Path.{◌≡◌, sym, ap, ◌∙◌}
use Prim.Native.Nat.{ℕ, ◌*◌, ◌/◌, ◌≤◌}
use lib.ListN.{length, take}
use lib.Seq.{take_at}
use Rattle.law.specs.Refusal.{accepted, head}
use Rattle.law.specs.Table.{table_of}
use Rattle.law.specs.Text.{row_keys}
use Rattle.law.specs.Reading.{read_answer, words_read, text_of, write_answer}
use Rattle.law.proofs.Table.{table_length}
use Rattle.law.proofs.Words.{table_rows}
use Rattle.law.proofs.TextAnswers.{read_filled, write_filled, WrittenBy, write_says}
use Rattle.law.proofs.TextTrips.{Trip, write_read, read_write, read_write_answer}
use Rattle.promise.specs.TextKept.{text_left, words_left, ReadsBack, Rewritten}

module _ (words bytes : List ℕ) (n : ℕ) (e : write_answer words (length bytes) ≡ accepted (n ∷ [])) where
  w : WrittenBy words (length bytes) (n ∷ [])
  w = write_says words (length bytes) (n ∷ []) e

  long : n ≡ length (text_of row_keys words)
  long = ap head w.long

  left_is : text_left words bytes n ≡ text_of row_keys words
  left_is = ap (take n) (write_filled words bytes e) ∙ take_at (text_of row_keys words) _ n (sym long)

  rows_are : length words / 7 ≡ length (table_of words)
  rows_are = sym (table_length words)

  -- the words left in a room, whatever text they were read from
  back : (room : List ℕ) → length words ≤ length room → (text : List ℕ) → text ≡ text_of row_keys words
      → (read_answer text (length room) ≡ accepted (length (table_of words) ∷ [])) × (words_left text room (length (table_of words)) ≡ words)
  back room h text same =
      let r = write_read words w.ws w.good (length room) h in
      let a : read_answer text (length room) ≡ accepted (length (table_of words) ∷ []) =
      ap (λ (z : List ℕ). read_answer z (length room)) same ∙ r.0 ∙ ap (λ (z : ℕ). accepted (z ∷ [])) rows_are in
      let is : words_read row_keys text ≡ words = ap (words_read row_keys) same ∙ r.1 in
      let whole : length (words_read row_keys text) ≡ length (table_of words) * 7 =
      ap length is ∙ (table_rows words w.ws w.good).whole ∙ ap (λ (z : ℕ). z * 7) rows_are in
      (a, ap (take (length (table_of words) * 7)) (read_filled text room a) ∙ take_at (words_read row_keys text) _ (length (table_of words) * 7) whole ∙ is)

  pub reads_back : ReadsBack words bytes n
  reads_back =
      record { answer = λ room h. (back room h _ left_is).0; same = λ room h. (back room h _ left_is).1 }

module _ (text room : List ℕ) (n : ℕ) (e : read_answer text (length room) ≡ accepted (n ∷ [])) where
  t : Trip text (length room) (n ∷ [])
  t = read_write text (length room) (n ∷ []) e

  words_are : words_left text room n ≡ words_read row_keys text
  words_are =
      let whole : length (words_read row_keys text) ≡ n * 7 = t.whole ∙ ap (λ (z : List ℕ). head z * 7) (sym t.rows) in
      ap (take (n * 7)) (read_filled text room e) ∙ take_at (words_read row_keys text) _ (n * 7) whole

  -- the text left in a room of bytes, whatever words it was written from
  again : (bytes : List ℕ) → length text ≤ length bytes → (words : List ℕ) → words ≡ words_read row_keys text
      → (write_answer words (length bytes) ≡ accepted (length text ∷ [])) × (text_left words bytes (length text) ≡ text)
  again bytes h words same =
      let a : write_answer words (length bytes) ≡ accepted (length text ∷ []) =
      ap (λ (z : List ℕ). write_answer z (length bytes)) same ∙ read_write_answer text (length room) (n ∷ []) e (length bytes) h in
      let is : text_of row_keys words ≡ text = ap (text_of row_keys) same ∙ t.written in
      (a, ap (take (length text)) (write_filled words bytes a) ∙ take_at (text_of row_keys words) _ (length text) (ap length is) ∙ is)

  pub rewritten : Rewritten text room n
  rewritten =
      record { answer = λ bytes h. (again bytes h _ words_are).0; same = λ bytes h. (again bytes h _ words_are).1 }
