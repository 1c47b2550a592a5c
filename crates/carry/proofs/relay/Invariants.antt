use Rattle.carry.proofs.Laying.{Laid}
use Rattle.carry.proofs.relay.Given as goal

abbrev pub invariant-loop-l : goal.invariant-loop-l
invariant-loop-l l = Laid l.words l.rows l.from l.to l.word-items l.l
