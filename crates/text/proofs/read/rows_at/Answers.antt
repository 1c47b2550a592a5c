use mathlib.Core.Path.{◌∙◌}
use native.Mathlib.Omega.{arith}
use Rattle.text.proofs.Readings.{rows_next, rows_fault, rows_done, told_err}
use Rattle.text.proofs.read.rows_at.Goals as goal

pub returns-in_err-row_at-clause-read : goal.returns-in_err-row_at-clause-read
returns-in_err-row_at-clause-read c =
    let l = c.loop-i.invariant in
    told_err _ _ _ c.from_residual.ensures.0 ∙ rows_fault l.1 c.loop-i-test.true (rw l.0 at c.in_err-row_at.ensures.read)

pub loop-i-preserved : goal.loop-i-preserved
loop-i-preserved c =
    let l = c.loop-i.invariant in
    (c.row_at.ensures.text ∙ l.0, rows_next l.1 c.loop-i-test.true c.row_at.ensures.length (rw l.0 at c.in_ok-row_at.ensures.read))

pub returns-clause-read : goal.returns-clause-read
returns-clause-read c = rows_done c.loop-i.invariant.1 (omega arith)
