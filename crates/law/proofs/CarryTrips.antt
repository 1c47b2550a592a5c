-- "There and back gives the same bytes.", both ways round; and which tables have an old text.
use mathlib.Core.List.{List, [], ◌∷◌}
use mathlib.Core.Path.{◌≡◌, sym, ap, ◌∙◌}
use Prim.Native.Nat.{ℕ, ◌+◌, ◌*◌, ◌/◌, ◌≤◌, ◌<◌}
use native.Mathlib.Omega.{arith}
use lib.Dec.{eqb}
use lib.ListN.{length, get_or}
use borrow.Author.Tests.{eqb-false, eq-eqb}
use Rattle.law.specs.Refusal.{accepted, refused}
use Rattle.law.specs.Table.{Task, width, task_of, table_of, row, is_red, rows_checked, checked}
use Rattle.law.specs.Text.{row_keys, old_width, old_keys, IsText}
use Rattle.law.specs.Reading.{words_read, text_of, put_answer}
use Rattle.law.specs.Carry.{relaid, new_words, new_text, old_words, old_text, unsaid, sayable, old_checked, to_new_answer, to_old_answer}
use Rattle.law.proofs.First.{first_is}
use Rattle.law.proofs.Table.{table_length, table_row, checked_accepted}
use Rattle.law.proofs.Words.{words_small}
use Rattle.law.proofs.TextAnswers.{checked_of_rows, put_accepted}
use Rattle.law.proofs.TextTrips.{Whole, table_whole, written_is_text, written_back, written_lines}
use Rattle.law.proofs.Relaid.{relaid_length, relaid_row, relaid_small, wide_back, narrow_back}
use Rattle.law.proofs.Carry.{sayable_refused, even_sayable, new_rows, new_put, old_said, old_refused, old_put, NewBy, new_says, OldBy, old_says}

-- the last word of a row
p_word : (words : List ℕ) (i : ℕ) → i < length words / width → (row (table_of words) i).p ≡ get_or words (i * width + 6) 0
unfolding task_of
p_word words i h = ap (λ (r : Task). r.p) (table_row words i h)

-- ---- an old text, carried over: "There and back gives the same bytes."
module _ (text : List ℕ) (room : ℕ) (vs : List ℕ) (e : to_new_answer text room ≡ accepted vs) where
  by_new : NewBy text room vs
  by_new = new_says text room vs e

  new_whole : Whole row_keys (new_words text) by_new.table.n
  new_whole =
      let b = by_new.table in
      record { some = omega arith; whole = b.long; low = b.trip.low; high = b.trip.high; small = words_small (new_words text) by_new.ws b.good }

  pub new_is_text : IsText row_keys (new_text text)
  unfolding new_text
  new_is_text = written_is_text new_whole

  -- the new text says the words it was written from
  pub new_words_back : words_read row_keys (new_text text) ≡ new_words text
  unfolding new_text
  new_words_back = written_back new_whole

  -- every p is 0
  pub new_even : (i : ℕ) → i < length (table_of (new_words text)) → (row (table_of (new_words text)) i).p ≡ 0
  unfolding new_words
  new_even i h =
      let b = by_new.table in
      let rows : i < length (new_words text) / width = omega (arith, table_length (new_words text)) in
      p_word (new_words text) i rows
      ∙ relaid_row old_width width (words_read old_keys text) b.n (omega arith) b.trip.whole i 6 (omega (arith, b.long)) (omega arith)

  narrow_again : relaid width old_width (new_words text) ≡ words_read old_keys text
  unfolding new_words
  narrow_again = wide_back old_width width (omega arith) (omega arith) (words_read old_keys text) by_new.table.n by_new.table.trip.whole

  pub new_back : old_text (new_text text) ≡ text
  unfolding old_text old_words
  new_back =
      ap (λ (ws : List ℕ). text_of old_keys (relaid width old_width ws)) new_words_back ∙ ap (text_of old_keys) narrow_again ∙ by_new.table.trip.written

  new_table_back : table_of (words_read row_keys (new_text text)) ≡ table_of (new_words text)
  new_table_back = ap table_of new_words_back

  pub new_back_answer : (r : ℕ) → length text ≤ r → to_old_answer (new_text text) r ≡ accepted (length text ∷ [])
  unfolding new_text
  new_back_answer r h =
      let b = by_new.table in
      let rows = sym (checked_of_rows (new_words text) b.n b.long b.trip.low b.trip.high) in
      let said = even_sayable (table_of (new_words text)) (λ i l. ap (λ (z : ℕ). eqb z 1) (new_even i l)) in
      old_put (new_text text) r
      (old_said (new_text text) (written_lines new_whole) (ap rows_checked new_table_back ∙ rows ∙ b.good) ∙ ap sayable new_table_back ∙ said)
      ∙ ap (λ (t : List ℕ). put_answer t r) new_back ∙ put_accepted text r h

-- ---- a new text, turned into an old one, and over again
module _ (text : List ℕ) (room : ℕ) (vs : List ℕ) (e : to_old_answer text room ≡ accepted vs) where
  by_old : OldBy text room vs
  by_old = old_says text room vs e

  -- every p is 0: what the old form can say
  pub old_even : (i : ℕ) → i < length (table_of (words_read row_keys text)) → (row (table_of (words_read row_keys text)) i).p ≡ 0
  old_even i h =
      let b = by_old.table in
      let r = (checked_accepted (words_read row_keys text) by_old.ws b.good).table.ranged i h in
      let other = eqb-false (row (table_of (words_read row_keys text)) i).p 1 (b.even i h) in
      one_or_none (row (table_of (words_read row_keys text)) i).p r.p_high other
    where
      one_or_none : (p : ℕ) → p ≤ 1 → (p ≡ 1 → ⊥) → p ≡ 0
      one_or_none p h n = omega arith

  old_whole : Whole old_keys (old_words text) by_old.table.n
  unfolding old_words
  old_whole =
      let b = by_old.table in
      let words = words_read row_keys text in
      record {
        some = omega arith;
        whole = relaid_length width old_width words b.n (omega arith) b.trip.whole;
        low = b.trip.low;
        high = b.trip.high;
        small = relaid_small width old_width words b.n (omega arith) b.trip.whole (words_small words by_old.ws b.good);
      }

  pub old_is_text : IsText old_keys (old_text text)
  unfolding old_text
  old_is_text = written_is_text old_whole

  -- the old text says the very table
  pub old_words_back : new_words (old_text text) ≡ words_read row_keys text
  unfolding new_words old_text old_words
  old_words_back =
      let b = by_old.table in
      let words = words_read row_keys text in
      ap (relaid old_width width) (written_back old_whole)
      ∙ narrow_back old_width width (omega arith) (omega arith) words b.n b.trip.whole (λ q r h l k. last q r h l k)
    where
      last : (q r : ℕ) → q < by_old.table.n → 6 ≤ r → r < 7 → get_or (words_read row_keys text) (q * width + r) 0 ≡ 0
      last q r h l k =
          let rows : q < length (words_read row_keys text) / width = omega (arith, by_old.table.trip.whole) in
          let six : r ≡ 6 = omega arith in
          ap (λ (z : ℕ). get_or (words_read row_keys text) (q * width + z) 0) six ∙ sym (p_word (words_read row_keys text) q rows)
          ∙ old_even q (omega (arith, table_length (words_read row_keys text)))

  pub old_back : new_text (old_text text) ≡ text
  unfolding new_text
  old_back = ap (text_of row_keys) old_words_back ∙ by_old.table.trip.written

  pub old_back_answer : (r : ℕ) → length text ≤ r → to_new_answer (old_text text) r ≡ accepted (length text ∷ [])
  unfolding old_text
  old_back_answer r h =
      let b = by_old.table in
      let rows = sym (checked_of_rows (words_read row_keys text) b.n b.trip.whole b.trip.low b.trip.high) in
      new_put (old_text text) r
      (new_rows (old_text text) (written_lines old_whole) ∙ ap (λ (ws : List ℕ). rows_checked (table_of ws)) old_words_back ∙ rows ∙ b.good)
      ∙ ap (λ (t : List ℕ). put_answer t r) old_back ∙ put_accepted text r h

-- ---- the text of a table's words: "when every p is 0" it is turned into the old one, and else it is refused by 17
module _ (words vs : List ℕ) (good : checked words ≡ accepted vs) where
  table_words : Whole row_keys words (length words / width)
  table_words = table_whole words vs good

  words_back : words_read row_keys (text_of row_keys words) ≡ words
  words_back = written_back table_words

  table_said : old_checked (text_of row_keys words) ≡ sayable (table_of words)
  table_said =
      let w = table_words in
      let rows = sym (checked_of_rows words (length words / width) w.whole w.low w.high) in
      old_said (text_of row_keys words) (written_lines w) (ap (λ (ws : List ℕ). rows_checked (table_of ws)) words_back ∙ rows ∙ good)
      ∙ ap (λ (ws : List ℕ). sayable (table_of ws)) words_back

  pub old_of_table : old_text (text_of row_keys words) ≡ text_of old_keys (relaid width old_width words)
  unfolding old_text old_words
  old_of_table = ap (λ (ws : List ℕ). text_of old_keys (relaid width old_width ws)) words_back

  pub even_turned : ((i : ℕ) → i < length (table_of words) → (row (table_of words) i).p ≡ 0)
      → (room : ℕ) → length (text_of old_keys (relaid width old_width words)) ≤ room
      → to_old_answer (text_of row_keys words) room ≡ accepted (length (text_of old_keys (relaid width old_width words)) ∷ [])
  even_turned even room h =
      let text = text_of row_keys words in
      let all = even_sayable (table_of words) (λ i l. ap (λ (z : ℕ). eqb z 1) (even i l)) in
      old_put text room (table_said ∙ all) ∙ ap (λ (t : List ℕ). put_answer t room) old_of_table
      ∙ put_accepted (text_of old_keys (relaid width old_width words)) room h

  pub red_refused : (i : ℕ) → i < length (table_of words) → (row (table_of words) i).p ≡ 1
      → ((j : ℕ) → j < i → (row (table_of words) j).p ≡ 0) → (room : ℕ) → to_old_answer (text_of row_keys words) room ≡ refused 17 (i ∷ [])
  unfolding unsaid
  red_refused i h red before room =
      let first_one : unsaid (table_of words) ≡ i =
      first_is (λ j. is_red (row (table_of words) j)) 0 (length (table_of words)) i (omega arith) (omega arith)
      (λ l. eq-eqb (row (table_of words) i).p 1 red) (λ j l q. ap (λ (z : ℕ). eqb z 1) (before j q)) in
      old_refused (text_of row_keys words) room (table_said ∙ sayable_refused (table_of words) i first_one h)
