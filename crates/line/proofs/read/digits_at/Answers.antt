use Rattle.line.proofs.Reached.{digits_further}
use Rattle.line.proofs.read.digits_at.Goals as goal

pub loop-n-preserved : goal.loop-n-preserved
loop-n-preserved c =
    digits_further _ _ _ _ _ c.loop-n.invariant c.loop-n-test.true c.byte_at.ensures c.is_digit.ensures c.if-not-is_digit.false
