-- So many bytes of the part stand at the place, the others are as they were.
use mathlib.Core.Path.{◌≡◌}
use lib.Seq.{paste}
use Rattle.line.proofs.put.put_bytes.Given as goal

abbrev pub invariant-loop-i : goal.invariant-loop-i
invariant-loop-i l = l.out ≡ paste l.initial.out l.at l.part l.i
