use mathlib.Core.Path.{sym, ◌∙◌}
use native.Mathlib.Omega.{arith}
use Rattle.law.proofs.TextSteps.{line_small}
use Rattle.text.proofs.Readings.{row_next, row_fault, row_end}
use Rattle.text.proofs.read.row_at.Goals as goal

pub returns-in_default-clause-read : goal.returns-in_default-clause-read
returns-in_default-clause-read c =
    let l = c.loop-j.invariant in
    row_fault l.1 c.loop-j-test.true (rw l.0 at c.in_default.ensures.value)

pub overflow_cast-word : goal.overflow_cast-word
overflow_cast-word c = omega (arith, line_small _ _ _ (sym c.in-Ok.ensures.value))

pub loop-j-preserved : goal.loop-j-preserved
loop-j-preserved c =
    let l = c.loop-j.invariant in
    (c.next_value.ensures.text ∙ l.0, row_next l.1 c.loop-j-test.true (rw l.0 at c.in-Ok.ensures.value))

pub returns-clause-read : goal.returns-clause-read
returns-clause-read c = row_end c.loop-j.invariant.1 (omega arith)
