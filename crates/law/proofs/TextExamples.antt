-- Task text by examples: document 01's table read and written, and texts with a fault at a known place.
use mathlib.Core.List.{List, [], ◌∷◌, map}
use mathlib.Core.Path.{◌≡◌, refl}
use Prim.Native.Nat.{ℕ}
use Rattle.law.specs.Sums.{first_from, build}
use Rattle.law.specs.Refusal.{Answer, accepted, refused, within}
use Rattle.law.specs.Table.{task_of, table_of, repeated, fault_of, faulty, rows_checked}
use Rattle.law.specs.Text.{row_keys, keys_of, is_digit, number_from, lines}
use Rattle.law.specs.Reading.{key_length, digits_length, value_length, value_of_length, value_at, line_at, lines_at, rows_at, text_read, words_read, text_answer, read_answer, decimal_of, decimal, text_of}

-- the words of document 01's table, and its text
words : List ℕ
words = 11 ∷ 2 ∷ 4 ∷ 4 ∷ 1 ∷ 2 ∷ 0 ∷ 12 ∷ 4 ∷ 6 ∷ 6 ∷ 2 ∷ 3 ∷ 0 ∷ []

text : List ℕ
text =
    114 ∷ 111 ∷ 119 ∷ 115 ∷ 61 ∷ 50 ∷ 10 ∷ 105 ∷ 100 ∷ 61 ∷ 49 ∷ 49 ∷ 10 ∷ 99 ∷ 61 ∷ 50 ∷ 10 ∷ 116 ∷ 61 ∷ 52 ∷ 10 ∷ 100 ∷ 61 ∷ 52 ∷ 10 ∷ 109 ∷ 61 ∷ 49 ∷ 10 ∷ 107 ∷ 61 ∷ 50 ∷ 10 ∷ 112 ∷ 61 ∷ 48 ∷ 10 ∷ 105 ∷ 100 ∷ 61 ∷ 49 ∷ 50 ∷ 10 ∷ 99 ∷ 61 ∷ 52 ∷ 10 ∷ 116 ∷ 61 ∷ 54 ∷ 10 ∷ 100 ∷ 61 ∷ 54 ∷ 10 ∷ 109 ∷ 61 ∷ 50 ∷ 10 ∷ 107 ∷ 61 ∷ 51 ∷ 10 ∷ 112 ∷ 61 ∷ 48 ∷ 10 ∷ []

text_read_lem : read_answer text 14 ≡ accepted (2 ∷ [])
unfolding read_answer text_answer words_read text_read text key_length digits_length value_length value_of_length value_at line_at lines_at rows_at first_from is_digit within number_from keys_of rows_checked table_of task_of build faulty fault_of repeated
text_read_lem = refl

text_words : words_read row_keys text ≡ words
unfolding words_read words text_read text key_length digits_length value_length value_of_length value_at line_at lines_at rows_at first_from is_digit within number_from keys_of
text_words = refl

text_written : text_of row_keys words ≡ text
unfolding text_of words text decimal decimal_of lines keys_of
text_written = refl

faulted : List (List ℕ)
faulted =
    ([])
    ∷ (114 ∷ 111 ∷ 119 ∷ 115 ∷ 61 ∷ 49 ∷ [])
    ∷ (114 ∷ 111 ∷ 119 ∷ 115 ∷ 61 ∷ 48 ∷ 49 ∷ 10 ∷ [])
    ∷ (114 ∷ 111 ∷ 119 ∷ 115 ∷ 61 ∷ 49 ∷ 50 ∷ 51 ∷ 52 ∷ 53 ∷ 54 ∷ 10 ∷ [])
    ∷ (114 ∷ 111 ∷ 119 ∷ 115 ∷ 61 ∷ 49 ∷ 13 ∷ 10 ∷ [])
    ∷ (114 ∷ 111 ∷ 119 ∷ 115 ∷ 61 ∷ 48 ∷ 10 ∷ 114 ∷ 117 ∷ 98 ∷ 98 ∷ 105 ∷ 115 ∷ 104 ∷ [])
    ∷ (114 ∷ 111 ∷ 119 ∷ 115 ∷ 61 ∷ 57 ∷ 57 ∷ 57 ∷ 57 ∷ 57 ∷ 10 ∷ 114 ∷ 117 ∷ 98 ∷ 98 ∷ 105 ∷ 115 ∷ 104 ∷ [])
    ∷ (114 ∷ 111 ∷ 119 ∷ 115 ∷ 61 ∷ 49 ∷ 10 ∷ 105 ∷ 100 ∷ 61 ∷ 49 ∷ 10 ∷ 99 ∷ 61 ∷ 49 ∷ 10 ∷ 116 ∷ 61 ∷ 49 ∷ 10 ∷ 100 ∷ 61 ∷ 49 ∷ 10 ∷ 107 ∷ 61 ∷ 49 ∷ 10 ∷ 109 ∷ 61 ∷ 49 ∷ 10 ∷ 112 ∷ 61 ∷ 48 ∷ 10 ∷ [])
    ∷ (114 ∷ 111 ∷ 119 ∷ 115 ∷ 61 ∷ 49 ∷ 10 ∷ 105 ∷ 100 ∷ 61 ∷ 49 ∷ 10 ∷ 99 ∷ 61 ∷ 49 ∷ 10 ∷ 116 ∷ 61 ∷ 49 ∷ 10 ∷ 100 ∷ 61 ∷ 49 ∷ 10 ∷ 109 ∷ 61 ∷ 49 ∷ 10 ∷ 107 ∷ 61 ∷ 49 ∷ 10 ∷ [])
    ∷ (114 ∷ 111 ∷ 119 ∷ 115 ∷ 61 ∷ 49 ∷ 10 ∷ 105 ∷ 100 ∷ 61 ∷ 49 ∷ 10 ∷ 99 ∷ 61 ∷ 49 ∷ 10 ∷ 116 ∷ 61 ∷ 49 ∷ 10 ∷ 100 ∷ 61 ∷ 49 ∷ 10 ∷ 109 ∷ 61 ∷ 49 ∷ 10 ∷ 112 ∷ 61 ∷ 48 ∷ 10 ∷ 107 ∷ 61 ∷ 49 ∷ 10 ∷ [])
    ∷ (114 ∷ 111 ∷ 119 ∷ 115 ∷ 61 ∷ 49 ∷ 10 ∷ 105 ∷ 100 ∷ 61 ∷ 49 ∷ 10 ∷ 99 ∷ 61 ∷ 49 ∷ 10 ∷ 116 ∷ 61 ∷ 49 ∷ 10 ∷ 100 ∷ 61 ∷ 49 ∷ 10 ∷ 109 ∷ 61 ∷ 49 ∷ 10 ∷ 107 ∷ 61 ∷ 49 ∷ 10 ∷ 112 ∷ 61 ∷ 48 ∷ 10 ∷ 112 ∷ 61 ∷ 48 ∷ 10 ∷ [])
    ∷ (114 ∷ 111 ∷ 119 ∷ 115 ∷ 61 ∷ 49 ∷ 10 ∷ 105 ∷ 100 ∷ 61 ∷ 49 ∷ 10 ∷ 99 ∷ 61 ∷ 49 ∷ 10 ∷ 116 ∷ 61 ∷ 49 ∷ 10 ∷ 100 ∷ 61 ∷ 49 ∷ 10 ∷ 109 ∷ 61 ∷ 49 ∷ 10 ∷ 107 ∷ 61 ∷ 49 ∷ 10 ∷ 112 ∷ 61 ∷ 50 ∷ 10 ∷ [])
    ∷ (114 ∷ 111 ∷ 119 ∷ 115 ∷ 61 ∷ 49 ∷ 10 ∷ 105 ∷ 100 ∷ 61 ∷ 49 ∷ 10 ∷ 99 ∷ 61 ∷ 49 ∷ 10 ∷ 116 ∷ 61 ∷ 49 ∷ 10 ∷ 100 ∷ 61 ∷ 49 ∷ 10 ∷ 109 ∷ 61 ∷ 49 ∷ 10 ∷ 107 ∷ 61 ∷ 49 ∷ 10 ∷ 112 ∷ 61 ∷ 48 ∷ 10 ∷ 10 ∷ [])
    ∷ []

answers : List Answer
answers =
    refused 12 (0 ∷ []) ∷ refused 12 (6 ∷ []) ∷ refused 12 (6 ∷ []) ∷ refused 12 (10 ∷ []) ∷ refused 12 (6 ∷ []) ∷ refused 2 [] ∷ refused 3 [] ∷ refused 12 (24 ∷ []) ∷ refused 12 (32 ∷ []) ∷ refused 12 (28 ∷ []) ∷ refused 12 (36 ∷ []) ∷ refused 16 (0 ∷ []) ∷ refused 12 (36 ∷ []) ∷ []

-- Texts with a fault, or refused before one is looked for: the empty text; no LF; a leading zero; six digits; a CR; `rows=0` and `rows=99999` with
-- rubbish after them; k before m; no line of p; p before k; two lines of p; p 2; a byte after the end.
faults : map (λ (bytes : List ℕ). read_answer bytes 7) faulted ≡ answers
unfolding read_answer text_answer words_read text_read faulted answers key_length digits_length value_length value_of_length value_at line_at lines_at rows_at first_from is_digit within number_from keys_of rows_checked table_of task_of build faulty fault_of repeated
faults = refl
