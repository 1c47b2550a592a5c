-- `verdict::rooms` meets its contract: each way out is a case of the law's answer, and only the last one writes.
use Rattle.std.proofs.Common.{arith, ap, sym, ◌∙◌, ◌≡◌, ◌∷◌, [], length, List, ℕ}
use Rattle.law.specs.Refusal.{accepted}
use Rattle.law.specs.Table.{table_of}
use Rattle.law.proofs.Room.{rooms_unchecked, rooms_short, rooms_told}
use Rattle.refusal.proofs.Passed.{passed_on}
use Rattle.verdict.proofs.rooms.Goals.{After-rows-rows}
use Rattle.verdict.proofs.rooms.Goals as goal

rows_is : (c : After-rows-rows) → c.rows-rows.result ≡ length (table_of c.args.words.now)
rows_is c = c.rows-rows.ensures ∙ ap (λ (z : List ℕ). length (table_of z)) c.in_ok-table.ensures.words

pub returns-in_err-table : goal.returns-in_err-table
returns-in_err-table c =
    let e = rooms_unchecked c.args.words.now c.args.run.now _ _ c.in_err-table.ensures.refused in
    record { answer = passed_on _ _ c.from_residual.ensures.1 ∙ sym e.0; run = sym e.1 }

pub returns-then-run-rows : goal.returns-then-run-rows
returns-then-run-rows c =
    let l = rows_is (goal.at.returns-then-run-rows c).After-rows-rows in
    let e = rooms_short c.args.words.now c.args.run.now _ c.in_ok-table.ensures.accepted (omega (arith, l, c.if-run-rows.true)) in
    record { answer = sym e.0; run = sym e.1 }

pub returns : goal.returns
returns c =
    let l = rows_is (goal.at.returns c).After-rows-rows in
    let e = rooms_told c.args.words.now c.args.run.now _ c.in_ok-table.ensures.accepted (omega (arith, l, c.if-run-rows.false)) in
    record { answer = ap (λ (n : ℕ). accepted (n ∷ [])) l ∙ sym e.0; run = (rw c.in_ok-table.ensures.words at c.measure.ensures) ∙ sym e.1 }
