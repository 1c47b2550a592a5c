-- `verdict::judge` meets its contract: each way out is a case of the law's verdict, and only the last one writes.
use Rattle.std.proofs.Common.{arith, ap, sym, ◌∙◌, ◌≡◌, ◌∷◌, [], ◌++◌, length, take, drop, List, ℕ}
use Rattle.law.specs.Refusal.{accepted}
use Rattle.law.specs.Table.{table_of}
use Rattle.law.proofs.Verdict.{verdict_unchecked, verdict_short}
use Rattle.refusal.proofs.Passed.{passed_on}
use Rattle.verdict.proofs.Responses.{judged_late, judged_times}
use Rattle.verdict.proofs.judge.Goals.{After-rows-rows}
use Rattle.verdict.proofs.judge.Goals as goal

rows_is : (c : After-rows-rows) → c.rows-rows.result ≡ length (table_of c.args.words.now)
rows_is c = c.rows-rows.ensures ∙ ap (λ (z : List ℕ). length (table_of z)) c.in_ok-table.ensures.words

pub returns-in_err-table : goal.returns-in_err-table
returns-in_err-table c =
    let e = verdict_unchecked c.args.words.now c.args.room.now _ _ c.in_err-table.ensures.refused in
    record { answer = passed_on _ _ c.from_residual.ensures.1 ∙ sym e.0; room = sym e.1 }

pub returns-then-room-rows : goal.returns-then-room-rows
returns-then-room-rows c =
    let l = rows_is (goal.at.returns-then-room-rows c).After-rows-rows in
    let e = verdict_short c.args.words.now c.args.room.now _ c.in_ok-table.ensures.accepted (omega (arith, l, c.if-room-rows.true)) in
    record { answer = sym e.0; room = sym e.1 }

pub returns-in_err-times : goal.returns-in_err-times
returns-in_err-times c =
    let l = rows_is (goal.at.returns-in_err-times c).After-rows-rows in
    let told = rw c.in_ok-table.ensures.words at c.in_err-times.ensures in
    let e = judged_late c.args.words.now c.args.room.now _ c.in_ok-table.ensures.accepted (omega (arith, l, c.if-room-rows.false)) told in
    record { answer = passed_on _ _ c.from_residual-in_err-times.ensures.1 ∙ sym e.0; room = sym e.1 }

pub returns : goal.returns
returns c =
    let l = rows_is (goal.at.returns c).After-rows-rows in
    let told = rw c.in_ok-table.ensures.words at c.in_ok-times.ensures in
    let e = judged_times c.args.words.now c.args.room.now _ c.in_ok-table.ensures.accepted (omega (arith, l, c.if-room-rows.false)) told in
    record {
      answer = ap (λ (n : ℕ). accepted (n ∷ [])) l ∙ sym e.0;
      room = ap (λ (z : List ℕ). z ++ drop c.rows-rows.result c.args.room.now) c.copy_from_slice.ensures.after
          ∙ ap (λ (n : ℕ). take n c.in_ok-times.times ++ drop n c.args.room.now) l ∙ sym e.1;
    }
