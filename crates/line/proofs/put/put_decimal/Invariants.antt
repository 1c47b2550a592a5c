-- `line::put::put_decimal` meets its contract: the digits that are put stand behind the place of the next one.
use Rattle.line.proofs.Pieces.{Filling}
use Rattle.line.proofs.put.put_decimal.Given as goal

abbrev pub invariant-loop-rest : goal.invariant-loop-rest
invariant-loop-rest l = Filling l.initial.out l.at l.v l.end l.out l.place l.rest

abbrev pub decreases-loop-rest : goal.decreases-loop-rest
decreases-loop-rest l = l.rest
