-- What the printing program prints for document 01's input, byte by byte, and of a row of a table turned down.
use mathlib.Core.List.{List, [], ◌∷◌}
use mathlib.Core.Path.{◌≡◌, refl}
use Prim.Native.Nat.{ℕ}
use Rattle.law.specs.Sums.{ceil, sum, highest, first_from, largest, build, map_from, among}
use Rattle.law.specs.Refusal.{within}
use Rattle.law.specs.Pattern.{mandatory, count}
use Rattle.law.specs.Table.{task_of, table_of, kind_of, count_of, repeated, fault_of, faulty, rows_checked}
use Rattle.law.specs.Verdict.{demand, load, fits_at, response, fits, misfit, admitted}
use Rattle.law.specs.Room.{room_at, room}
use Rattle.law.specs.Tick.{fresh, next_place, release, choose, outcome, advance, shifted, marks, spare, settled, release_all, advance_all, finish, begin, tick, run}
use Rattle.law.specs.State.{counts_of}
use Rattle.law.specs.Text.{keys_of, is_digit, number_from, lines}
use Rattle.law.specs.Reading.{key_length, digits_length, value_length, value_of_length, value_at, line_at, lines_at, rows_at, text_read, words_read, text_answer, read_answer, decimal_of, decimal}
use Rattle.law.specs.Report.{verdict_printed, response_printed, row_printed, rows_printed, state_printed, run_printed, printed}
use Rattle.law.proofs.Examples.{late}

input : List ℕ
input =
    116 ∷ 105 ∷ 99 ∷ 107 ∷ 115 ∷ 61 ∷ 50 ∷ 52 ∷ 10 ∷ 114 ∷ 111 ∷ 119 ∷ 115 ∷ 61 ∷ 50 ∷ 10 ∷ 105 ∷ 100 ∷ 61 ∷ 49 ∷ 49 ∷ 10 ∷ 99 ∷ 61 ∷ 50 ∷ 10 ∷ 116 ∷ 61 ∷ 52 ∷ 10 ∷ 100 ∷ 61 ∷ 52 ∷ 10 ∷ 109 ∷ 61 ∷ 49 ∷ 10 ∷ 107 ∷ 61 ∷ 50 ∷ 10 ∷ 112 ∷ 61 ∷ 48 ∷ 10 ∷ 105 ∷ 100 ∷ 61 ∷ 49 ∷ 50 ∷ 10 ∷ 99 ∷ 61 ∷ 52 ∷ 10 ∷ 116 ∷ 61 ∷ 54 ∷ 10 ∷ 100 ∷ 61 ∷ 54 ∷ 10 ∷ 109 ∷ 61 ∷ 50 ∷ 10 ∷ 107 ∷ 61 ∷ 51 ∷ 10 ∷ 112 ∷ 61 ∷ 48 ∷ 10 ∷ []

output : List ℕ
output =
    118 ∷ 101 ∷ 114 ∷ 100 ∷ 105 ∷ 99 ∷ 116 ∷ 61 ∷ 97 ∷ 100 ∷ 109 ∷ 105 ∷ 116 ∷ 116 ∷ 101 ∷ 100 ∷ 10 ∷ 116 ∷ 105 ∷ 99 ∷ 107 ∷ 115 ∷ 61 ∷ 50 ∷ 52 ∷ 10 ∷ 105 ∷ 100 ∷ 108 ∷ 101 ∷ 61 ∷ 48 ∷ 10 ∷ 114 ∷ 111 ∷ 119 ∷ 61 ∷ 48 ∷ 10 ∷ 105 ∷ 100 ∷ 61 ∷ 49 ∷ 49 ∷ 10 ∷ 114 ∷ 61 ∷ 50 ∷ 10 ∷ 114 ∷ 111 ∷ 111 ∷ 109 ∷ 61 ∷ 52 ∷ 10 ∷ 114 ∷ 101 ∷ 108 ∷ 101 ∷ 97 ∷ 115 ∷ 101 ∷ 100 ∷ 61 ∷ 54 ∷ 10 ∷ 109 ∷ 109 ∷ 61 ∷ 51 ∷ 10 ∷ 109 ∷ 120 ∷ 61 ∷ 48 ∷ 10 ∷ 111 ∷ 109 ∷ 61 ∷ 50 ∷ 10 ∷ 111 ∷ 120 ∷ 61 ∷ 49 ∷ 10 ∷ 98 ∷ 114 ∷ 111 ∷ 107 ∷ 101 ∷ 110 ∷ 61 ∷ 48 ∷ 10 ∷ 115 ∷ 112 ∷ 97 ∷ 114 ∷ 101 ∷ 61 ∷ 49 ∷ 10 ∷ 114 ∷ 111 ∷ 119 ∷ 61 ∷ 49 ∷ 10 ∷ 105 ∷ 100 ∷ 61 ∷ 49 ∷ 50 ∷ 10 ∷ 114 ∷ 61 ∷ 54 ∷ 10 ∷ 114 ∷ 111 ∷ 111 ∷ 109 ∷ 61 ∷ 52 ∷ 10 ∷ 114 ∷ 101 ∷ 108 ∷ 101 ∷ 97 ∷ 115 ∷ 101 ∷ 100 ∷ 61 ∷ 52 ∷ 10 ∷ 109 ∷ 109 ∷ 61 ∷ 51 ∷ 10 ∷ 109 ∷ 120 ∷ 61 ∷ 48 ∷ 10 ∷ 111 ∷ 109 ∷ 61 ∷ 48 ∷ 10 ∷ 111 ∷ 120 ∷ 61 ∷ 49 ∷ 10 ∷ 98 ∷ 114 ∷ 111 ∷ 107 ∷ 101 ∷ 110 ∷ 61 ∷ 48 ∷ 10 ∷ 115 ∷ 112 ∷ 97 ∷ 114 ∷ 101 ∷ 61 ∷ 48 ∷ 10 ∷ []

example_printed : printed input ≡ output
unfolding input output printed run_printed state_printed rows_printed row_printed response_printed verdict_printed counts_of read_answer text_answer words_read text_read rows_at lines_at line_at value_at value_of_length value_length digits_length key_length number_from is_digit keys_of lines decimal decimal_of rows_checked faulty fault_of repeated table_of task_of within build first_from largest ceil sum map_from among mandatory count kind_of count_of demand load fits_at response fits misfit admitted room_at room highest fresh next_place release choose outcome advance shifted marks spare settled release_all advance_all finish begin tick run
example_printed = refl

-- A row of a table turned down, before the first tick: r is 0, the room is not (document 02, 7/14: "printed for every row, also in a table turned down").
row_turned_down : List ℕ
row_turned_down =
    114 ∷ 111 ∷ 119 ∷ 61 ∷ 49 ∷ 10 ∷ 105 ∷ 100 ∷ 61 ∷ 50 ∷ 10 ∷ 114 ∷ 61 ∷ 48 ∷ 10 ∷ 114 ∷ 111 ∷ 111 ∷ 109 ∷ 61 ∷ 50 ∷ 10 ∷ 114 ∷ 101 ∷ 108 ∷ 101 ∷ 97 ∷ 115 ∷ 101 ∷ 100 ∷ 61 ∷ 48 ∷ 10 ∷ 109 ∷ 109 ∷ 61 ∷ 48 ∷ 10 ∷ 109 ∷ 120 ∷ 61 ∷ 48 ∷ 10 ∷ 111 ∷ 109 ∷ 61 ∷ 48 ∷ 10 ∷ 111 ∷ 120 ∷ 61 ∷ 48 ∷ 10 ∷ 98 ∷ 114 ∷ 111 ∷ 107 ∷ 101 ∷ 110 ∷ 61 ∷ 48 ∷ 10 ∷ 115 ∷ 112 ∷ 97 ∷ 114 ∷ 101 ∷ 61 ∷ 48 ∷ 10 ∷ []

late_printed : row_printed late (fresh late) 1 ≡ row_turned_down
unfolding late row_turned_down row_printed response_printed counts_of lines decimal decimal_of first_from largest ceil sum among count count_of demand load fits_at response fits misfit admitted room_at room highest fresh marks spare
late_printed = refl
