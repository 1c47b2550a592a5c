-- Document 01, "Task text" and "Refusal numbers", as a reader meets them: line by line, with the place after it, or the place of a fault; and the
-- answers of reading and of writing. That the place is the one of the rule (chapter Text) is proved in proofs/TextPlace.
use Rattle.std.specs.Prelude.{not, List, [], ◌∷◌, ◌++◌, map, ℕ, zero, suc, ◌+◌, ◌/◌, ◌%◌, leb, ltb, eqb, length, get_or, take, drop}
use Rattle.law.specs.Sums.{both, pick, first}
use Rattle.law.specs.Refusal.{Answer, accepted, refused, or_refused, after, lent, head}
use Rattle.law.specs.Table.{table_of, rows_checked, checked}
use Rattle.law.specs.Text.{rows_key, row_keys, keys_of, is_digit, number_of, lines}

-- What a reader finds: the values of the lines it read and the place after them, or the place of a fault.
pub data Found : Type 0 where
  found : List ℕ → ℕ → Found
  fault : ℕ → Found

-- the byte at a place; past the end stands 256, which is no byte
abbrev pub byte_at : List ℕ → ℕ → ℕ
byte_at text i = get_or text i 256

-- how many bytes of the key stand at a place
unfoldable pub key_length : List ℕ → ℕ → List ℕ → ℕ
key_length text at key = first (λ i. not (eqb (byte_at text (at + i)) (get_or key i 0))) (length key)

-- how many digits stand at a place, four at most
unfoldable pub digits_length : List ℕ → ℕ → ℕ
digits_length text at = first (λ i. not (is_digit (byte_at text (at + i)))) 4

-- how many bytes of a value stand at a place: 0, or a non-zero digit and the digits after it
unfoldable pub value_length : List ℕ → ℕ → ℕ
value_length text at =
    pick (eqb (byte_at text at) 48) 1 (pick (is_digit (byte_at text at)) (suc (digits_length text (suc at))) 0)

-- the value at a place, of n bytes, and LF behind it
unfoldable pub value_of_length : List ℕ → ℕ → ℕ → Found
value_of_length text at n =
    pick (both (ltb 0 n) (eqb (byte_at text (at + n)) 10)) (found (number_of (take n (drop at text)) ∷ []) (suc (at + n))) (fault (at + n))

unfoldable pub value_at : List ℕ → ℕ → Found
value_at text at = value_of_length text at (value_length text at)

-- the line of a key at a place
unfoldable pub line_at : List ℕ → ℕ → List ℕ → Found
line_at text at key =
    pick (eqb (key_length text at key) (length key)) (value_at text (at + length key)) (fault (at + key_length text at key))

-- values read before what is found; a fault stays
abbrev pub behind : List ℕ → Found → Found
behind values (found more next) = found (values ++ more) next
behind values (fault j) = fault j

-- reading on from the place after what is found; a fault stays
abbrev pub onward : Found → (List ℕ → ℕ → Found) → Found
onward (found values next) more = more values next
onward (fault j) more = fault j

-- the lines of these keys, one after the other, from a place on
unfoldable pub lines_at : List ℕ → ℕ → List (List ℕ) → Found
lines_at text at [] = found [] at
lines_at text at (key ∷ keys) = onward (line_at text at key) (λ values next. behind values (lines_at text next keys))

-- "nothing after"
abbrev pub ended : List ℕ → Found → Found
ended text (found values next) = pick (eqb next (length text)) (found values next) (fault next)
ended text (fault j) = fault j

-- the lines of n rows, from a place to the end of the text
unfoldable pub rows_at : List (List ℕ) → List ℕ → ℕ → ℕ → Found
rows_at keys text at n = ended text (lines_at text at (keys_of keys n))

-- a whole text, whatever stands after `rows=`: the words of its rows, or the place of its fault
unfoldable pub text_read : List (List ℕ) → List ℕ → Found
text_read keys text = onward (line_at text 0 rows_key) (λ values next. rows_at keys text next (head values))

abbrev pub values_of : Found → List ℕ
values_of (found values next) = values
values_of (fault j) = []

-- the words of a text's rows
unfoldable pub words_read : List (List ℕ) → List ℕ → List ℕ
words_read keys text = values_of (text_read keys text)

-- "the remaining lines (12)"; else the number of rows
abbrev pub rows_found : ℕ → Found → Answer
rows_found n (found words next) = accepted (n ∷ [])
rows_found n (fault j) = refused 12 (j ∷ [])

-- "the first line (12), its value (2, 3)", then the rows
abbrev pub first_found : List (List ℕ) → List ℕ → Found → Answer
first_found keys text (found values next) =
    or_refused (ltb 0 (head values)) (refused 2 [])
    (or_refused (leb (head values) 32) (refused 3 []) (rows_found (head values) (rows_at keys text next (head values))))
first_found keys text (fault j) = refused 12 (j ∷ [])

-- a text of rows of these keys: the refusals of its lines, else the number of rows
unfoldable pub text_answer : List (List ℕ) → List ℕ → Answer
text_answer keys text = first_found keys text (line_at text 0 rows_key)

-- reading a text into a lent room of words: "the first line (12), its value (2, 3), the remaining lines (12), rows (4 to 10), 13" (16 before
-- 10); else the number of rows
unfoldable pub read_answer : List ℕ → ℕ → Answer
read_answer text room =
    after (text_answer row_keys text)
    (after (rows_checked (table_of (words_read row_keys text)))
    (or_refused (leb (length (words_read row_keys text)) room) (refused 13 []) (accepted (length (table_of (words_read row_keys text)) ∷ []))))

-- "an accepted call alters only the room its answer fills, from the start"
abbrev pub filled : List ℕ → List ℕ → List ℕ
filled new room = new ++ drop (length new) room

unfoldable pub read_room : List ℕ → List ℕ → List ℕ
read_room text room = lent (read_answer text (length room)) (filled (words_read row_keys text) room) room

-- a number by its digits: as many as it has, up to n of them
unfoldable pub decimal_of : ℕ → ℕ → List ℕ
decimal_of zero v = []
decimal_of (suc n) v = pick (ltb v 10) ((48 + v) ∷ []) (decimal_of n (v / 10) ++ ((48 + v % 10) ∷ []))

-- a 32-bit number has ten digits at most
unfoldable pub decimal : ℕ → List ℕ
decimal v = decimal_of 10 v

-- the text of a table's words
unfoldable pub text_of : List (List ℕ) → List ℕ → List ℕ
text_of keys words =
    lines (rows_key ∷ keys_of keys (length words / length keys)) (map decimal ((length words / length keys) ∷ words))

-- a text put into a lent room of bytes: 13; else its length
unfoldable pub put_answer : List ℕ → ℕ → Answer
put_answer text room = or_refused (leb (length text) room) (refused 13 []) (accepted (length text ∷ []))

unfoldable pub put_room : List ℕ → List ℕ → List ℕ
put_room text room = lent (put_answer text (length room)) (filled text room) room

-- writing a table's words into a lent room of bytes: the refusals of the table, then 13; else the length of the text
unfoldable pub write_answer : List ℕ → ℕ → Answer
write_answer words room = after (checked words) (put_answer (text_of row_keys words) room)

unfoldable pub write_room : List ℕ → List ℕ → List ℕ
write_room words room = lent (write_answer words (length room)) (filled (text_of row_keys words) room) room
