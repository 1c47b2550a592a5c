-- The converters by examples: document 01's table in the old form and in the new one, and texts that are refused, the first refusal that applies.
use mathlib.Core.List.{List, [], ◌∷◌, map}
use mathlib.Core.Path.{◌≡◌, refl}
use Prim.Native.Nat.{ℕ}
use Rattle.law.specs.Sums.{first_from, build}
use Rattle.law.specs.Refusal.{Answer, accepted, refused, within}
use Rattle.law.specs.Table.{task_of, table_of, repeated, fault_of, faulty, rows_checked}
use Rattle.law.specs.Text.{keys_of, is_digit, number_from, lines}
use Rattle.law.specs.Reading.{key_length, digits_length, value_length, value_of_length, value_at, line_at, lines_at, rows_at, text_read, words_read, text_answer, decimal_of, decimal, text_of, put_answer}
use Rattle.law.specs.Carry.{relaid, new_words, new_text, old_words, old_text, unsaid, sayable, new_checked, old_checked, to_new_answer, to_old_answer}

-- the text of document 01's table in the old form, 59 bytes, and in the new one, 67
old : List ℕ
old =
    114 ∷ 111 ∷ 119 ∷ 115 ∷ 61 ∷ 50 ∷ 10 ∷ 105 ∷ 100 ∷ 61 ∷ 49 ∷ 49 ∷ 10 ∷ 99 ∷ 61 ∷ 50 ∷ 10 ∷ 116 ∷ 61 ∷ 52 ∷ 10 ∷ 100 ∷ 61 ∷ 52 ∷ 10 ∷ 109 ∷ 61 ∷ 49 ∷ 10 ∷ 107 ∷ 61 ∷ 50 ∷ 10 ∷ 105 ∷ 100 ∷ 61 ∷ 49 ∷ 50 ∷ 10 ∷ 99 ∷ 61 ∷ 52 ∷ 10 ∷ 116 ∷ 61 ∷ 54 ∷ 10 ∷ 100 ∷ 61 ∷ 54 ∷ 10 ∷ 109 ∷ 61 ∷ 50 ∷ 10 ∷ 107 ∷ 61 ∷ 51 ∷ 10 ∷ []

new : List ℕ
new =
    114 ∷ 111 ∷ 119 ∷ 115 ∷ 61 ∷ 50 ∷ 10 ∷ 105 ∷ 100 ∷ 61 ∷ 49 ∷ 49 ∷ 10 ∷ 99 ∷ 61 ∷ 50 ∷ 10 ∷ 116 ∷ 61 ∷ 52 ∷ 10 ∷ 100 ∷ 61 ∷ 52 ∷ 10 ∷ 109 ∷ 61 ∷ 49 ∷ 10 ∷ 107 ∷ 61 ∷ 50 ∷ 10 ∷ 112 ∷ 61 ∷ 48 ∷ 10 ∷ 105 ∷ 100 ∷ 61 ∷ 49 ∷ 50 ∷ 10 ∷ 99 ∷ 61 ∷ 52 ∷ 10 ∷ 116 ∷ 61 ∷ 54 ∷ 10 ∷ 100 ∷ 61 ∷ 54 ∷ 10 ∷ 109 ∷ 61 ∷ 50 ∷ 10 ∷ 107 ∷ 61 ∷ 51 ∷ 10 ∷ 112 ∷ 61 ∷ 48 ∷ 10 ∷ []

carried_over : new_text old ≡ new
unfolding old new new_text new_words relaid key_length digits_length value_length value_of_length value_at line_at lines_at rows_at text_read words_read text_answer first_from is_digit within number_from keys_of rows_checked table_of task_of build faulty fault_of repeated text_of decimal decimal_of lines
carried_over = refl

turned_back : old_text new ≡ old
unfolding old new old_text old_words relaid key_length digits_length value_length value_of_length value_at line_at lines_at rows_at text_read words_read text_answer first_from is_digit within number_from keys_of rows_checked table_of task_of build faulty fault_of repeated text_of decimal decimal_of lines
turned_back = refl

both_written : (to_new_answer old 67 ≡ accepted (67 ∷ [])) × (to_old_answer new 59 ≡ accepted (59 ∷ []))
unfolding old new to_new_answer to_old_answer new_checked old_checked sayable unsaid new_text new_words old_text old_words relaid put_answer key_length digits_length value_length value_of_length value_at line_at lines_at rows_at text_read words_read text_answer first_from is_digit within number_from keys_of rows_checked table_of task_of build faulty fault_of repeated text_of decimal decimal_of lines
both_written = (refl, refl)

not_over : List (List ℕ)
not_over =
    (114 ∷ 111 ∷ 119 ∷ 115 ∷ 61 ∷ 50 ∷ 10 ∷ 105 ∷ 100 ∷ 61 ∷ 49 ∷ 49 ∷ 10 ∷ 99 ∷ 61 ∷ 50 ∷ 10 ∷ 116 ∷ 61 ∷ 52 ∷ 10 ∷ 100 ∷ 61 ∷ 52 ∷ 10 ∷ 109 ∷ 61 ∷ 49 ∷ 10 ∷ 107 ∷ 61 ∷ 50 ∷ 10 ∷ 112 ∷ 61 ∷ 48 ∷ 10 ∷ 105 ∷ 100 ∷ 61 ∷ 49 ∷ 50 ∷ 10 ∷ 99 ∷ 61 ∷ 52 ∷ 10 ∷ 116 ∷ 61 ∷ 54 ∷ 10 ∷ 100 ∷ 61 ∷ 54 ∷ 10 ∷ 109 ∷ 61 ∷ 50 ∷ 10 ∷ 107 ∷ 61 ∷ 51 ∷ 10 ∷ 112 ∷ 61 ∷ 48 ∷ 10 ∷ [])
    ∷ (114 ∷ 111 ∷ 119 ∷ 115 ∷ 61 ∷ 49 ∷ 10 ∷ 105 ∷ 100 ∷ 61 ∷ 49 ∷ 49 ∷ 10 ∷ 99 ∷ 61 ∷ 50 ∷ 10 ∷ 116 ∷ 61 ∷ 52 ∷ 10 ∷ 100 ∷ 61 ∷ 52 ∷ 10 ∷ 109 ∷ 61 ∷ 49 ∷ 10 ∷ 107 ∷ 61 ∷ 50 ∷ 10 ∷ 112 ∷ 61 ∷ 48 ∷ 10 ∷ [])
    ∷ (114 ∷ 111 ∷ 119 ∷ 115 ∷ 61 ∷ 50 ∷ 10 ∷ 105 ∷ 100 ∷ 61 ∷ 49 ∷ 49 ∷ 10 ∷ 99 ∷ 61 ∷ 50 ∷ 10 ∷ 116 ∷ 61 ∷ 52 ∷ 10 ∷ 100 ∷ 61 ∷ 52 ∷ 10 ∷ 109 ∷ 61 ∷ 49 ∷ 10 ∷ 107 ∷ 61 ∷ 50 ∷ 10 ∷ [])
    ∷ (114 ∷ 111 ∷ 119 ∷ 115 ∷ 61 ∷ 48 ∷ 10 ∷ [])
    ∷ (114 ∷ 111 ∷ 119 ∷ 115 ∷ 61 ∷ 51 ∷ 51 ∷ 10 ∷ [])
    ∷ (114 ∷ 111 ∷ 119 ∷ 115 ∷ 61 ∷ 49 ∷ 10 ∷ 105 ∷ 100 ∷ 61 ∷ 49 ∷ 49 ∷ 10 ∷ 99 ∷ 61 ∷ 50 ∷ 10 ∷ 116 ∷ 61 ∷ 52 ∷ 10 ∷ 100 ∷ 61 ∷ 52 ∷ 10 ∷ 109 ∷ 61 ∷ 51 ∷ 10 ∷ 107 ∷ 61 ∷ 50 ∷ 10 ∷ [])
    ∷ (114 ∷ 111 ∷ 119 ∷ 115 ∷ 61 ∷ 50 ∷ 10 ∷ 105 ∷ 100 ∷ 61 ∷ 49 ∷ 49 ∷ 10 ∷ 99 ∷ 61 ∷ 50 ∷ 10 ∷ 116 ∷ 61 ∷ 52 ∷ 10 ∷ 100 ∷ 61 ∷ 52 ∷ 10 ∷ 109 ∷ 61 ∷ 49 ∷ 10 ∷ 107 ∷ 61 ∷ 50 ∷ 10 ∷ 105 ∷ 100 ∷ 61 ∷ 49 ∷ 49 ∷ 10 ∷ 99 ∷ 61 ∷ 50 ∷ 10 ∷ 116 ∷ 61 ∷ 52 ∷ 10 ∷ 100 ∷ 61 ∷ 52 ∷ 10 ∷ 109 ∷ 61 ∷ 49 ∷ 10 ∷ 107 ∷ 61 ∷ 50 ∷ 10 ∷ [])
    ∷ (114 ∷ 111 ∷ 119 ∷ 115 ∷ 61 ∷ 50 ∷ 10 ∷ 105 ∷ 100 ∷ 61 ∷ 49 ∷ 49 ∷ 10 ∷ 99 ∷ 61 ∷ 50 ∷ 10 ∷ 116 ∷ 61 ∷ 52 ∷ 10 ∷ 100 ∷ 61 ∷ 52 ∷ 10 ∷ 109 ∷ 61 ∷ 49 ∷ 10 ∷ 107 ∷ 61 ∷ 50 ∷ 10 ∷ 105 ∷ 100 ∷ 61 ∷ 49 ∷ 50 ∷ 10 ∷ 99 ∷ 61 ∷ 52 ∷ 10 ∷ 116 ∷ 61 ∷ 54 ∷ 10 ∷ 100 ∷ 61 ∷ 54 ∷ 10 ∷ 109 ∷ 61 ∷ 50 ∷ 10 ∷ 107 ∷ 61 ∷ 51 ∷ 10 ∷ [])
    ∷ []

not_over_answers : List Answer
not_over_answers =
    refused 12 (33 ∷ []) ∷ refused 12 (33 ∷ []) ∷ refused 12 (33 ∷ []) ∷ refused 2 [] ∷ refused 3 [] ∷ refused 9 (0 ∷ []) ∷ refused 10 (1 ∷ []) ∷ refused 13 [] ∷ []

-- In a room of no bytes: the new form; one row of it; a row too few; no rows; 33 rows; m above k; an id twice; a good text, for which there is no room.
not_over_so : map (λ (text : List ℕ). to_new_answer text 0) not_over ≡ not_over_answers
unfolding not_over not_over_answers to_new_answer new_checked old_checked sayable unsaid new_text new_words old_text old_words relaid put_answer key_length digits_length value_length value_of_length value_at line_at lines_at rows_at text_read words_read text_answer first_from is_digit within number_from keys_of rows_checked table_of task_of build faulty fault_of repeated text_of decimal decimal_of lines
not_over_so = refl

not_back : List (List ℕ)
not_back =
    (114 ∷ 111 ∷ 119 ∷ 115 ∷ 61 ∷ 50 ∷ 10 ∷ 105 ∷ 100 ∷ 61 ∷ 49 ∷ 49 ∷ 10 ∷ 99 ∷ 61 ∷ 50 ∷ 10 ∷ 116 ∷ 61 ∷ 52 ∷ 10 ∷ 100 ∷ 61 ∷ 52 ∷ 10 ∷ 109 ∷ 61 ∷ 49 ∷ 10 ∷ 107 ∷ 61 ∷ 50 ∷ 10 ∷ 105 ∷ 100 ∷ 61 ∷ 49 ∷ 50 ∷ 10 ∷ 99 ∷ 61 ∷ 52 ∷ 10 ∷ 116 ∷ 61 ∷ 54 ∷ 10 ∷ 100 ∷ 61 ∷ 54 ∷ 10 ∷ 109 ∷ 61 ∷ 50 ∷ 10 ∷ 107 ∷ 61 ∷ 51 ∷ 10 ∷ [])
    ∷ (114 ∷ 111 ∷ 119 ∷ 115 ∷ 61 ∷ 50 ∷ 10 ∷ 105 ∷ 100 ∷ 61 ∷ 49 ∷ 49 ∷ 10 ∷ 99 ∷ 61 ∷ 50 ∷ 10 ∷ 116 ∷ 61 ∷ 52 ∷ 10 ∷ 100 ∷ 61 ∷ 52 ∷ 10 ∷ 109 ∷ 61 ∷ 49 ∷ 10 ∷ 107 ∷ 61 ∷ 50 ∷ 10 ∷ 112 ∷ 61 ∷ 48 ∷ 10 ∷ 105 ∷ 100 ∷ 61 ∷ 49 ∷ 50 ∷ 10 ∷ 99 ∷ 61 ∷ 52 ∷ 10 ∷ 116 ∷ 61 ∷ 54 ∷ 10 ∷ 100 ∷ 61 ∷ 54 ∷ 10 ∷ 109 ∷ 61 ∷ 50 ∷ 10 ∷ 107 ∷ 61 ∷ 51 ∷ 10 ∷ 112 ∷ 61 ∷ 49 ∷ 10 ∷ [])
    ∷ (114 ∷ 111 ∷ 119 ∷ 115 ∷ 61 ∷ 50 ∷ 10 ∷ 105 ∷ 100 ∷ 61 ∷ 49 ∷ 49 ∷ 10 ∷ 99 ∷ 61 ∷ 50 ∷ 10 ∷ 116 ∷ 61 ∷ 52 ∷ 10 ∷ 100 ∷ 61 ∷ 52 ∷ 10 ∷ 109 ∷ 61 ∷ 49 ∷ 10 ∷ 107 ∷ 61 ∷ 50 ∷ 10 ∷ 112 ∷ 61 ∷ 49 ∷ 10 ∷ 105 ∷ 100 ∷ 61 ∷ 49 ∷ 50 ∷ 10 ∷ 99 ∷ 61 ∷ 52 ∷ 10 ∷ 116 ∷ 61 ∷ 54 ∷ 10 ∷ 100 ∷ 61 ∷ 54 ∷ 10 ∷ 109 ∷ 61 ∷ 50 ∷ 10 ∷ 107 ∷ 61 ∷ 51 ∷ 10 ∷ 112 ∷ 61 ∷ 49 ∷ 10 ∷ [])
    ∷ (114 ∷ 111 ∷ 119 ∷ 115 ∷ 61 ∷ 50 ∷ 10 ∷ 105 ∷ 100 ∷ 61 ∷ 49 ∷ 49 ∷ 10 ∷ 99 ∷ 61 ∷ 50 ∷ 10 ∷ 116 ∷ 61 ∷ 52 ∷ 10 ∷ 100 ∷ 61 ∷ 52 ∷ 10 ∷ 109 ∷ 61 ∷ 49 ∷ 10 ∷ 107 ∷ 61 ∷ 50 ∷ 10 ∷ 112 ∷ 61 ∷ 49 ∷ 10 ∷ 105 ∷ 100 ∷ 61 ∷ 49 ∷ 50 ∷ 10 ∷ 99 ∷ 61 ∷ 52 ∷ 10 ∷ 116 ∷ 61 ∷ 54 ∷ 10 ∷ 100 ∷ 61 ∷ 54 ∷ 10 ∷ 109 ∷ 61 ∷ 50 ∷ 10 ∷ 107 ∷ 61 ∷ 51 ∷ 10 ∷ 112 ∷ 61 ∷ 50 ∷ 10 ∷ [])
    ∷ (114 ∷ 111 ∷ 119 ∷ 115 ∷ 61 ∷ 50 ∷ 10 ∷ 105 ∷ 100 ∷ 61 ∷ 49 ∷ 49 ∷ 10 ∷ 99 ∷ 61 ∷ 50 ∷ 10 ∷ 116 ∷ 61 ∷ 52 ∷ 10 ∷ 100 ∷ 61 ∷ 52 ∷ 10 ∷ 109 ∷ 61 ∷ 49 ∷ 10 ∷ 107 ∷ 61 ∷ 50 ∷ 10 ∷ 112 ∷ 61 ∷ 49 ∷ 10 ∷ 105 ∷ 100 ∷ 61 ∷ 49 ∷ 49 ∷ 10 ∷ 99 ∷ 61 ∷ 50 ∷ 10 ∷ 116 ∷ 61 ∷ 52 ∷ 10 ∷ 100 ∷ 61 ∷ 52 ∷ 10 ∷ 109 ∷ 61 ∷ 49 ∷ 10 ∷ 107 ∷ 61 ∷ 50 ∷ 10 ∷ 112 ∷ 61 ∷ 48 ∷ 10 ∷ [])
    ∷ (114 ∷ 111 ∷ 119 ∷ 115 ∷ 61 ∷ 50 ∷ 10 ∷ 105 ∷ 100 ∷ 61 ∷ 49 ∷ 49 ∷ 10 ∷ 99 ∷ 61 ∷ 50 ∷ 10 ∷ 116 ∷ 61 ∷ 52 ∷ 10 ∷ 100 ∷ 61 ∷ 52 ∷ 10 ∷ 109 ∷ 61 ∷ 49 ∷ 10 ∷ 107 ∷ 61 ∷ 50 ∷ 10 ∷ 112 ∷ 61 ∷ 48 ∷ 10 ∷ 105 ∷ 100 ∷ 61 ∷ 49 ∷ 50 ∷ 10 ∷ 99 ∷ 61 ∷ 52 ∷ 10 ∷ 116 ∷ 61 ∷ 54 ∷ 10 ∷ 100 ∷ 61 ∷ 54 ∷ 10 ∷ 109 ∷ 61 ∷ 50 ∷ 10 ∷ 107 ∷ 61 ∷ 51 ∷ 10 ∷ 112 ∷ 61 ∷ 48 ∷ 10 ∷ [])
    ∷ []

not_back_answers : List Answer
not_back_answers =
    refused 12 (33 ∷ []) ∷ refused 17 (1 ∷ []) ∷ refused 17 (0 ∷ []) ∷ refused 16 (1 ∷ []) ∷ refused 10 (1 ∷ []) ∷ refused 13 [] ∷ []

-- In a room of no bytes: the old form; p 1 in row 1; p 1 in both rows; p 1 and p 2; p 1 in row 0 and an id twice; a good text, for which there is no room.
not_back_so : map (λ (text : List ℕ). to_old_answer text 0) not_back ≡ not_back_answers
unfolding not_back not_back_answers to_old_answer new_checked old_checked sayable unsaid new_text new_words old_text old_words relaid put_answer key_length digits_length value_length value_of_length value_at line_at lines_at rows_at text_read words_read text_answer first_from is_digit within number_from keys_of rows_checked table_of task_of build faulty fault_of repeated text_of decimal decimal_of lines
not_back_so = refl
