use Rattle.line.proofs.Reached.{KeySo}
use Rattle.line.proofs.read.keyed_at.Given as goal

abbrev pub invariant-loop-i : goal.invariant-loop-i
invariant-loop-i l = KeySo l.text l.at l.key l.i
