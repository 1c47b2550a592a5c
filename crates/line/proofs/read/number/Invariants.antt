use Rattle.line.proofs.Reached.{Summed}
use Rattle.line.proofs.read.number.Given as goal

abbrev pub invariant-loop-digit : goal.invariant-loop-digit
invariant-loop-digit l = Summed l.digits l.digit-index l.v
