-- `read::read` meets its contract: the lines, the table, the room; each way out by its law, and only the last one writes.
use mathlib.Core.List.{List, [], ◌∷◌, ◌++◌}
use mathlib.Core.Path.{◌≡◌, sym, ap, ◌∙◌}
use Prim.Native.Nat.{ℕ, ◌*◌, ◌≤◌, ◌<◌}
use native.Mathlib.Omega.{arith}
use lib.ListN.{length, take, drop}
use lib.Seq.{length-take-le}
use Rattle.law.specs.Refusal.{accepted}
use Rattle.law.specs.Table.{table_of, rows_checked, checked}
use Rattle.law.specs.Text.{row_keys}
use Rattle.law.specs.Reading.{words_read, text_answer}
use Rattle.law.proofs.Table.{table_length}
use Rattle.law.proofs.TextAnswers.{checked_of_rows, read_lines, read_rows, read_short, read_accepted, read_filled, read_kept}
use Rattle.law.proofs.TextTrips.{LinesTrip, lines_trip}
use Rattle.std.specs.Prelude.{Result}
use Rattle.refusal.specs.Shown.{answered}
use Rattle.refusal.specs.declared.Refusal.{Refusal}
use Rattle.refusal.proofs.Passed.{passed_on}
use Rattle.text.specs.Said.{stood}
use Rattle.text.proofs.read.read.Goals.{After-check, In_ok-rows, In_ok-check}
use Rattle.text.proofs.read.read.Goals as goal

abbrev text : In_ok-rows → List ℕ
text c = c.args.text.now

abbrev room : In_ok-rows → List ℕ
room c = c.args.room.now

abbrev rows : In_ok-rows → ℕ
rows c = c.in_ok-rows.rows

-- the lines were accepted, and their words stand from the start
lines : (c : In_ok-rows) → text_answer row_keys (text c) ≡ accepted (rows c ∷ [])
lines c = sym c.rows_of.ensures.answer ∙ ap answered c.in_ok-rows.was

trip : (c : In_ok-rows) → LinesTrip row_keys (text c) (rows c)
trip c = (lines_trip row_keys (omega arith) (text c) (rows c ∷ []) (lines c)).1

abbrev laid : In_ok-rows → List ℕ
laid c = c.rows_of.new.words

words_are : (c : In_ok-rows) → take (rows c * 7) (laid c) ≡ words_read row_keys (text c)
words_are c =
    ap (λ (r : Result ℕ Refusal). stood r 7 (laid c) (words_read row_keys (text c))) (sym c.in_ok-rows.was)
    ∙ c.rows_of.ensures.words

fits : (c : In_ok-rows) → rows c * 7 ≤ length (laid c)
fits c = omega (arith, (trip c).high, c.rows_of.ensures.length)

-- the words are in whole rows, so their rows alone decide
rows-say : (k : After-check) → rows_checked (table_of (words_read row_keys (k.args.text.now))) ≡ answered k.check.result
rows-say k =
    let t = ((lines_trip row_keys (omega arith) (k.args.text.now) ((k.in_ok-rows.rows) ∷ []) (sym k.rows_of.ensures.answer ∙ ap answered k.in_ok-rows.was)).1) in
    sym (checked_of_rows (words_read row_keys (k.args.text.now)) (k.in_ok-rows.rows) t.whole t.low t.high) ∙ ap checked (sym (ap (λ (r : Result ℕ Refusal). stood r 7 (k.rows_of.new.words) (words_read row_keys (k.args.text.now))) (sym k.in_ok-rows.was)
    ∙ k.rows_of.ensures.words)) ∙ sym k.check.ensures.answer

pub returns-in_err-rows : goal.returns-in_err-rows
returns-in_err-rows c =
    let a = c.args in
    let e = read_lines a.text.now (length a.room.now) (sym c.rows_of.ensures.answer ∙ ap answered c.in_err-rows.was) in
    record { answer = passed_on _ _ c.from_residual.ensures.1 ∙ sym e; room = sym (read_kept a.text.now a.room.now e) }

pub overflow_mul-n : goal.overflow_mul-n
overflow_mul-n c = omega (arith, (trip c).high)

pub slice_bounds-words-end : goal.slice_bounds-words-end
slice_bounds-words-end c = fits c

pub slice_bounds-check-end : goal.slice_bounds-check-end
slice_bounds-check-end c = sym (length-take-le (rows (goal.at.slice_bounds-check-end c).In_ok-rows * 7) (laid (goal.at.slice_bounds-check-end c).In_ok-rows) (fits (goal.at.slice_bounds-check-end c).In_ok-rows))

pub returns-in_err-check : goal.returns-in_err-check
returns-in_err-check c =
    let e = read_rows (text (goal.at.returns-in_err-check c).In_ok-rows) (length (room (goal.at.returns-in_err-check c).In_ok-rows)) (lines (goal.at.returns-in_err-check c).In_ok-rows) (rows-say (goal.at.returns-in_err-check c).After-check ∙ ap answered c.in_err-check.was) in
    record { answer = passed_on _ _ c.from_residual-in_err-check.ensures.1 ∙ sym e; room = sym (read_kept (text (goal.at.returns-in_err-check c).In_ok-rows) (room (goal.at.returns-in_err-check c).In_ok-rows) e) }

-- the rows are a table
good : (c : In_ok-check) → rows_checked (table_of (words_read row_keys (c.args.text.now))) ≡ accepted (c.in_ok-check.field-0 ∷ [])
good c = (let t = ((lines_trip row_keys (omega arith) (c.args.text.now) ((c.in_ok-rows.rows) ∷ []) (sym c.rows_of.ensures.answer ∙ ap answered c.in_ok-rows.was)).1) in
    sym (checked_of_rows (words_read row_keys (c.args.text.now)) (c.in_ok-rows.rows) t.whole t.low t.high) ∙ ap checked (sym (ap (λ (r : Result ℕ Refusal). stood r 7 (c.rows_of.new.words) (words_read row_keys (c.args.text.now))) (sym c.in_ok-rows.was)
    ∙ c.rows_of.ensures.words)) ∙ sym c.check.ensures.answer) ∙ ap answered c.in_ok-check.was

pub returns-then-room-n : goal.returns-then-room-n
returns-then-room-n c =
    let short : length (room (goal.at.returns-then-room-n c).In_ok-rows) < length (words_read row_keys (text (goal.at.returns-then-room-n c).In_ok-rows)) = omega (arith, (trip (goal.at.returns-then-room-n c).In_ok-rows).whole, c.if-room-n.true) in
    let e = read_short (text (goal.at.returns-then-room-n c).In_ok-rows) (length (room (goal.at.returns-then-room-n c).In_ok-rows)) (lines (goal.at.returns-then-room-n c).In_ok-rows) (good (goal.at.returns-then-room-n c).In_ok-check) short in
    record { answer = sym e; room = sym (read_kept (text (goal.at.returns-then-room-n c).In_ok-rows) (room (goal.at.returns-then-room-n c).In_ok-rows) e) }

pub lay-requires : goal.lay-requires
lay-requires c =
    (fits (goal.at.lay-requires c).In_ok-rows, omega (arith, c.if-room-n.false))

pub returns : goal.returns
returns c =
    let words = words_read row_keys (text (goal.at.returns c).In_ok-rows) in
    let enough : length words ≤ length (room (goal.at.returns c).In_ok-rows) = omega (arith, (trip (goal.at.returns c).In_ok-rows).whole, c.if-room-n.false) in
    let e = read_accepted (text (goal.at.returns c).In_ok-rows) (length (room (goal.at.returns c).In_ok-rows)) (lines (goal.at.returns c).In_ok-rows) (good (goal.at.returns c).In_ok-check) enough in
    let many : rows (goal.at.returns c).In_ok-rows ≡ length (table_of words) = omega (arith, table_length words, (trip (goal.at.returns c).In_ok-rows).whole) in record {
      answer = ap (λ (n : ℕ). accepted (n ∷ [])) many ∙ sym e;
      room = c.lay.ensures ∙ ap (λ (ws : List ℕ). ws ++ drop (rows (goal.at.returns c).In_ok-rows * 7) (room (goal.at.returns c).In_ok-rows)) (words_are (goal.at.returns c).In_ok-rows)
          ∙ ap (λ (n : ℕ). words ++ drop n (room (goal.at.returns c).In_ok-rows)) (sym (trip (goal.at.returns c).In_ok-rows).whole) ∙ sym (read_filled (text (goal.at.returns c).In_ok-rows) (room (goal.at.returns c).In_ok-rows) e);
    }
