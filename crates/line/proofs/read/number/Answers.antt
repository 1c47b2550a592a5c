use Rattle.line.proofs.Reached.{summed_start, digit_least, summed_next}
use Rattle.line.proofs.read.number.Goals as goal

pub loop-digit-init : goal.loop-digit-init
loop-digit-init c = summed_start _ c.requires

pub overflow_sub-digit : goal.overflow_sub-digit
overflow_sub-digit c = digit_least c.loop-digit.invariant c.loop-digit-test.true

pub loop-digit-preserved : goal.loop-digit-preserved
loop-digit-preserved c = summed_next c.loop-digit.invariant c.loop-digit-test.true _ c.from.ensures
