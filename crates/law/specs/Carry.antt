-- Document 02, 4/14: "Carry the old task files over, and back."
use Rattle.std.specs.Prelude.{List, [], ◌∷◌, ℕ, ◌+◌, ◌*◌, ◌/◌, ◌%◌, ltb, eqb, length, get_or}
use Rattle.law.specs.Sums.{pick, first, build}
use Rattle.law.specs.Refusal.{Answer, accepted, refused, or_refused, after, lent, head}
use Rattle.law.specs.Table.{Task, width, table_of, row, is_red, rows_checked}
use Rattle.law.specs.Text.{row_keys, old_width, old_keys}
use Rattle.law.specs.Reading.{words_read, text_answer, text_of, filled, put_answer}
use Rattle.law.specs.Report.{refusal_printed}

-- the words of rows with `from` words each, laid as rows with `to` words each: a word that a row has not is 0, a word too many is left out
unfoldable pub relaid : ℕ → ℕ → List ℕ → List ℕ
relaid from to words =
    build (λ l. pick (ltb (l % to) from) (get_or words (l / to * from + l % to) 0) 0) (length words / from * to)

-- "A converter reads the old text and writes the new one with `p=0`": the words of the table that an old text says, and their text
unfoldable pub new_words : List ℕ → List ℕ
new_words text = relaid old_width width (words_read old_keys text)

unfoldable pub new_text : List ℕ → List ℕ
new_text text = text_of row_keys (new_words text)

-- "and turns a new text into an old one when every p is 0": the words of its rows without p, and their text
unfoldable pub old_words : List ℕ → List ℕ
old_words text = relaid width old_width (words_read row_keys text)

unfoldable pub old_text : List ℕ → List ℕ
old_text text = text_of old_keys (old_words text)

-- "17, a row with p 1, with its row": the first row that the old form cannot say, the number of rows where it can say all
unfoldable pub unsaid : List Task → ℕ
unsaid tasks = first (λ i. is_red (row tasks i)) (length tasks)

unfoldable pub sayable : List Task → Answer
sayable tasks =
    or_refused (eqb (unsaid tasks) (length tasks)) (refused 17 (unsaid tasks ∷ [])) (accepted (length tasks ∷ []))

-- "Refusals: those of text and table for the form read": of an old text, in which no row has p 1; else the number of rows
unfoldable pub new_checked : List ℕ → Answer
new_checked text = after (text_answer old_keys text) (rows_checked (table_of (new_words text)))

-- the same of a new text, "then 17"
unfoldable pub old_checked : List ℕ → Answer
old_checked text =
    after (text_answer row_keys text) (after (rows_checked (table_of (words_read row_keys text))) (sayable (table_of (words_read row_keys text))))

-- "then 13"; else the length of the text that is written
unfoldable pub to_new_answer : List ℕ → ℕ → Answer
to_new_answer text room = after (new_checked text) (put_answer (new_text text) room)

unfoldable pub to_old_answer : List ℕ → ℕ → Answer
to_old_answer text room = after (old_checked text) (put_answer (old_text text) room)

-- the room: filled from the start by what was written, else as it was
unfoldable pub to_new_room : List ℕ → List ℕ → List ℕ
to_new_room text room = lent (to_new_answer text (length room)) (filled (new_text text) room) room

unfoldable pub to_old_room : List ℕ → List ℕ → List ℕ
to_old_room text room = lent (to_old_answer text (length room)) (filled (old_text text) room) room

-- The two programs: how many bytes of the text that was written go to standard output, which carries "the converted text and nothing else"
abbrev pub out_of : Answer → ℕ
out_of (accepted values) = head values
out_of (refused n also) = 0

-- what goes to standard error: a refusal "in the house form", and nothing else
abbrev pub error_of : Answer → List ℕ
error_of (accepted values) = []
error_of (refused n also) = refusal_printed n also
