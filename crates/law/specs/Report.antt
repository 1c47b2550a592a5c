-- Document 01, "The printing program": every byte that it prints, from the bytes it reads.
use Rattle.std.specs.Prelude.{List, [], ◌∷◌, ◌++◌, map, ℕ, zero, suc, ◌+◌, eqb, length, get_or, drop}
use Rattle.law.specs.Sums.{pick}
use Rattle.law.specs.Refusal.{Answer, accepted, refused, head}
use Rattle.law.specs.Table.{Task, row, table_of}
use Rattle.law.specs.Verdict.{admitted, misfit, response}
use Rattle.law.specs.Room.{room}
use Rattle.law.specs.Tick.{State, no_row, fresh, run}
use Rattle.law.specs.State.{counts_of}
use Rattle.law.specs.Text.{row_keys, lines}
use Rattle.law.specs.Reading.{Found, found, fault, line_at, words_read, read_answer, decimal, put_answer, put_room}

-- ticks=
abbrev pub ticks_key : List ℕ
ticks_key = 116 ∷ 105 ∷ 99 ∷ 107 ∷ 115 ∷ 61 ∷ []

-- idle=
abbrev pub idle_key : List ℕ
idle_key = 105 ∷ 100 ∷ 108 ∷ 101 ∷ 61 ∷ []

-- at=
abbrev pub at_key : List ℕ
at_key = 97 ∷ 116 ∷ 61 ∷ []

-- refused=
abbrev pub refused_key : List ℕ
refused_key = 114 ∷ 101 ∷ 102 ∷ 117 ∷ 115 ∷ 101 ∷ 100 ∷ 61 ∷ []

-- verdict=admitted, with its LF
abbrev pub admitted_line : List ℕ
admitted_line = 118 ∷ 101 ∷ 114 ∷ 100 ∷ 105 ∷ 99 ∷ 116 ∷ 61 ∷ 97 ∷ 100 ∷ 109 ∷ 105 ∷ 116 ∷ 116 ∷ 101 ∷ 100 ∷ 10 ∷ []

-- verdict=unschedulable, with its LF
abbrev pub unschedulable_line : List ℕ
unschedulable_line =
    118 ∷ 101 ∷ 114 ∷ 100 ∷ 105 ∷ 99 ∷ 116 ∷ 61 ∷ 117 ∷ 110 ∷ 115 ∷ 99 ∷ 104 ∷ 101 ∷ 100 ∷ 117 ∷ 108 ∷ 97 ∷ 98 ∷ 108 ∷ 101 ∷ 10 ∷ []

-- row= id= r= room= released= mm= mx= om= ox= broken= spare=; document 02, 7/14: "after `r=` comes a line `room=`"
abbrev pub printed_keys : List (List ℕ)
printed_keys =
    (114 ∷ 111 ∷ 119 ∷ 61 ∷ [])
    ∷ (105 ∷ 100 ∷ 61 ∷ [])
    ∷ (114 ∷ 61 ∷ [])
    ∷ (114 ∷ 111 ∷ 111 ∷ 109 ∷ 61 ∷ [])
    ∷ (114 ∷ 101 ∷ 108 ∷ 101 ∷ 97 ∷ 115 ∷ 101 ∷ 100 ∷ 61 ∷ [])
    ∷ (109 ∷ 109 ∷ 61 ∷ [])
    ∷ (109 ∷ 120 ∷ 61 ∷ [])
    ∷ (111 ∷ 109 ∷ 61 ∷ [])
    ∷ (111 ∷ 120 ∷ 61 ∷ [])
    ∷ (98 ∷ 114 ∷ 111 ∷ 107 ∷ 101 ∷ 110 ∷ 61 ∷ [])
    ∷ (115 ∷ 112 ∷ 97 ∷ 114 ∷ 101 ∷ 61 ∷ [])
    ∷ []

-- lines of keys with numbers
abbrev pub number_lines : List (List ℕ) → List ℕ → List ℕ
number_lines keys values = lines keys (map decimal values)

-- "A refusal prints `refused=` with its number, then `at=` with the row or place where there is one, and nothing more."
abbrev pub refusal_printed : ℕ → List ℕ → List ℕ
refusal_printed n [] = number_lines (refused_key ∷ []) (n ∷ [])
refusal_printed n (at ∷ more) = number_lines (refused_key ∷ at_key ∷ []) (n ∷ at ∷ [])

-- "If unschedulable, the first line is `verdict=unschedulable`, a line `at=` with the row follows it"
unfoldable pub verdict_printed : List Task → List ℕ
verdict_printed tasks =
    pick (admitted tasks) admitted_line (unschedulable_line ++ number_lines (at_key ∷ []) (misfit tasks ∷ []))

-- "r is the response time"; "and every r is 0" if unschedulable
unfoldable pub response_printed : List Task → ℕ → ℕ
response_printed tasks i = pick (admitted tasks) (response tasks i) 0

-- the figures of row i, in the order of the keys; the room is "printed for every row, also in a table turned down"
abbrev pub row_figures : List Task → State → ℕ → List ℕ
row_figures tasks s i = i ∷ (row tasks i).id ∷ response_printed tasks i ∷ room tasks i ∷ counts_of (get_or s.rows i no_row)

-- the lines of row i
unfoldable pub row_printed : List Task → State → ℕ → List ℕ
row_printed tasks s i = number_lines printed_keys (row_figures tasks s i)

-- the lines of the first n rows
unfoldable pub rows_printed : List Task → State → ℕ → List ℕ
rows_printed tasks s zero = []
rows_printed tasks s (suc n) = rows_printed tasks s n ++ row_printed tasks s n

-- a table and its state after n ticks
unfoldable pub state_printed : List Task → ℕ → State → List ℕ
state_printed tasks n s =
    verdict_printed tasks ++ (number_lines (ticks_key ∷ idle_key ∷ []) (n ∷ s.idle ∷ []) ++ rows_printed tasks s (length tasks))

-- "It prints the verdict, runs N ticks from fresh, and prints counts."
unfoldable pub run_printed : List Task → ℕ → List ℕ
run_printed tasks n = state_printed tasks n (run n (fresh tasks))

-- "places count from the first byte": a place in the task text, which begins at `start`
abbrev pub placed : ℕ → ℕ → List ℕ → List ℕ
placed start n also = pick (eqb n 12) (map (λ j. start + j) also) also

-- the answer to the task text, whose words are these
abbrev pub answer_printed : ℕ → ℕ → List ℕ → Answer → List ℕ
answer_printed n start words (accepted rows) = run_printed (table_of words) n
answer_printed n start words (refused number also) = refusal_printed number (placed start number also)

-- the task text behind the first line; 224 words are room for every table
abbrev pub text_printed : List ℕ → Found → List ℕ
text_printed input (found values next) =
    answer_printed (head values) next (words_read row_keys (drop next input)) (read_answer (drop next input) 224)
text_printed input (fault j) = refusal_printed 12 (j ∷ [])

-- "It reads standard input: a line `ticks=N` (same value rule; a fault there is 12), then a task text"
unfoldable pub printed : List ℕ → List ℕ
printed input = text_printed input (line_at input 0 ticks_key)

-- the printing program as a function, with a lent room for what is printed: 13 where it is too short; else the length
unfoldable pub report_answer : List ℕ → ℕ → Answer
report_answer input room = put_answer (printed input) room

unfoldable pub report_room : List ℕ → List ℕ → List ℕ
report_room input room = put_room (printed input) room
