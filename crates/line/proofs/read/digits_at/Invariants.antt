use Rattle.line.proofs.Reached.{DigitsSo}
use Rattle.line.proofs.read.digits_at.Given as goal

abbrev pub invariant-loop-n : goal.invariant-loop-n
invariant-loop-n l = DigitsSo l.text l.at l.n
