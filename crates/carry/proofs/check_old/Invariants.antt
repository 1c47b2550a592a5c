use Rattle.carry.proofs.Laying.{SaidSo}
use Rattle.carry.proofs.check_old.Given as goal

abbrev pub invariant-loop-i : goal.invariant-loop-i
invariant-loop-i l = SaidSo l.words l.i
