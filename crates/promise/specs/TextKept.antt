-- Demand 2, the sentences on task text, over the answers and rooms of the reader and the writer: each is named by the definition that the function's
-- contract cites.
use Rattle.std.specs.Prelude.{List, [], ◌∷◌, ◌≡◌, ℕ, ◌*◌, ◌≤◌, length, take}
use Rattle.law.specs.Refusal.{accepted}
use Rattle.law.specs.Table.{table_of}
use Rattle.law.specs.Reading.{read_answer, read_room, write_answer, write_room}

-- the text that `text::write::write` left in a room of bytes, n of them
abbrev pub text_left : List ℕ → List ℕ → ℕ → List ℕ
text_left words bytes n = take n (write_room words bytes)

-- the words that `text::read::read` left in a room of words, of n rows
abbrev pub words_left : List ℕ → List ℕ → ℕ → List ℕ
words_left text room n = take (n * 7) (read_room text room)

-- "Task text reads back to the words that wrote it": a text of n bytes that the writer accepted, read into any room that has the words' number
pub record ReadsBack (words bytes : List ℕ) (n : ℕ) : Type 0 where
  pub answer : (room : List ℕ) → length words ≤ length room
      → read_answer (text_left words bytes n) (length room) ≡ accepted (length (table_of words) ∷ [])
  pub same : (room : List ℕ) → length words ≤ length room → words_left (text_left words bytes n) room (length (table_of words)) ≡ words

-- "an accepted text is rewritten byte for byte": a text of n rows that the reader accepted, written into any room that has the text's length
pub record Rewritten (text room : List ℕ) (n : ℕ) : Type 0 where
  pub answer : (bytes : List ℕ) → length text ≤ length bytes → write_answer (words_left text room n) (length bytes) ≡ accepted (length text ∷ [])
  pub same : (bytes : List ℕ) → length text ≤ length bytes → text_left (words_left text room n) bytes (length text) ≡ text
