-- Document 02, 4/14, over the answers and rooms of the two converters: "There and back gives the same bytes. It never writes an old text for a table
-- that the old form cannot say."
use Rattle.std.specs.Prelude.{List, [], ◌∷◌, ◌≡◌, ℕ, ◌≤◌, ◌<◌, length, take}
use Rattle.law.specs.Refusal.{accepted, refused}
use Rattle.law.specs.Table.{width, table_of, row}
use Rattle.law.specs.Text.{row_keys, old_width, old_keys, IsText}
use Rattle.law.specs.Reading.{words_read, text_of}
use Rattle.law.specs.Carry.{relaid, new_words, to_new_answer, to_new_room, to_old_answer, to_old_room}

-- the text that `carry::to_new`, or `carry::to_old`, left in a room of bytes, n of them
abbrev pub new_left : List ℕ → List ℕ → ℕ → List ℕ
new_left text bytes n = take n (to_new_room text bytes)

abbrev pub old_left : List ℕ → List ℕ → ℕ → List ℕ
old_left text bytes n = take n (to_old_room text bytes)

-- the old text of a table's words: six of each row
abbrev pub old_text_of : List ℕ → List ℕ
old_text_of words = text_of old_keys (relaid width old_width words)

-- an old text that was carried over into n bytes: they are a text of the new form; turned back, into any room that has its length, they are the old
-- text again
pub record ThereAndBack (text bytes : List ℕ) (n : ℕ) : Type 0 where
  pub form : IsText row_keys (new_left text bytes n)
  pub answer : (room : List ℕ) → length text ≤ length room → to_old_answer (new_left text bytes n) (length room) ≡ accepted (length text ∷ [])
  pub same : (room : List ℕ) → length text ≤ length room → old_left (new_left text bytes n) room (length text) ≡ text

-- a new text that was turned into an old one of n bytes: they are a text of the old form; carried over again, into any room that has its length, they
-- are the new text again
pub record BackAndThere (text bytes : List ℕ) (n : ℕ) : Type 0 where
  pub form : IsText old_keys (old_left text bytes n)
  pub answer : (room : List ℕ) → length text ≤ length room → to_new_answer (old_left text bytes n) (length room) ≡ accepted (length text ∷ [])
  pub same : (room : List ℕ) → length text ≤ length room → new_left (old_left text bytes n) room (length text) ≡ text

-- a new text that was turned into an old one of n bytes: no row has another p than 0, and the old text says the very words of its table
pub record Said (text bytes : List ℕ) (n : ℕ) : Type 0 where
  pub even : (i : ℕ) → i < length (table_of (words_read row_keys text)) → (row (table_of (words_read row_keys text)) i).p ≡ 0
  pub words : new_words (old_left text bytes n) ≡ words_read row_keys text

-- the words of a table that `table::check` accepts, in their new text and in their old one: "when every p is 0" each is turned into the other, in any
-- room for every text; "17, a row with p 1, with its row": the first such row is named, whatever the room
pub record Convertible (words : List ℕ) : Type 0 where
  pub back : ((i : ℕ) → i < length (table_of words) → (row (table_of words) i).p ≡ 0)
      → (room : ℕ) → 1384 ≤ room → to_old_answer (text_of row_keys words) room ≡ accepted (length (old_text_of words) ∷ [])
  pub over : ((i : ℕ) → i < length (table_of words) → (row (table_of words) i).p ≡ 0)
      → (room : ℕ) → 1512 ≤ room → to_new_answer (old_text_of words) room ≡ accepted (length (text_of row_keys words) ∷ [])
  pub red : (i : ℕ) → i < length (table_of words) → (row (table_of words) i).p ≡ 1 → ((j : ℕ) → j < i → (row (table_of words) j).p ≡ 0)
      → (room : ℕ) → to_old_answer (text_of row_keys words) room ≡ refused 17 (i ∷ [])
