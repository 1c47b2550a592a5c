-- `write::write` meets its contract: the refusals of the table, then the text of its rows.
use mathlib.Core.List.{[], ◌∷◌}
use mathlib.Core.Path.{◌≡◌, sym, ap, ◌∙◌}
use native.Mathlib.Omega.{arith}
use lib.ListN.{length}
use Rattle.law.specs.Refusal.{accepted}
use Rattle.law.specs.Table.{checked, table_of}
use Rattle.law.proofs.Table.{table_length, Accepted, checked_accepted}
use Rattle.law.proofs.TextAnswers.{write_refused, write_put, write_room_lem, write_kept}
use Rattle.law.proofs.TextLongest.{text_longest}
use Rattle.refusal.specs.Shown.{answered}
use Rattle.refusal.proofs.Passed.{passed_on}
use Rattle.text.proofs.write.write.Goals.{In_ok-rows}
use Rattle.text.proofs.write.write.Goals as goal

-- the table was accepted, with its number of rows
good : (c : In_ok-rows) → checked c.args.words.now ≡ accepted (c.in_ok-rows.rows ∷ [])
good c = sym c.check.ensures.answer ∙ ap answered c.in_ok-rows.was

table : (c : In_ok-rows) → Accepted c.args.words.now (c.in_ok-rows.rows ∷ [])
table c = checked_accepted c.args.words.now (c.in_ok-rows.rows ∷ []) (good c)

rows_are : (c : In_ok-rows) → c.in_ok-rows.rows ≡ length (table_of c.args.words.now)
rows_are c = cc (table c).rows

pub write_rows-requires : goal.write_rows-requires
write_rows-requires c =
    let words = c.args.words.now in
    let a = table (goal.at.write_rows-requires c).In_ok-rows in
    let rows = rows_are (goal.at.write_rows-requires c).In_ok-rows in (
      omega (arith, rows, table_length words, a.whole),
      omega (arith, rows, a.table.rows_high),
      omega arith,
      omega arith,
      text_longest words _ (good (goal.at.write_rows-requires c).In_ok-rows),
    )

pub returns : goal.returns
returns c =
    let words = c.args.words.now in
    let room = c.args.room.now in
    record { answer = c.write_rows.ensures.answer ∙ sym (write_put words (length room) (good (goal.at.returns c).In_ok-rows)); room = c.write_rows.ensures.room ∙ sym (write_room_lem words room (good (goal.at.returns c).In_ok-rows)) }

pub returns-in_err-rows : goal.returns-in_err-rows
returns-in_err-rows c =
    let s = c.args in
    let e = write_refused s.words.now (length s.room.now) (sym c.check.ensures.answer ∙ ap answered c.in_err-rows.was) in
    record { answer = passed_on _ _ c.from_residual.ensures.1 ∙ sym e; room = sym (write_kept s.words.now s.room.now e) }
