-- `tally::amend` meets its contract: the mark that is cut is one of those held.
use native.Mathlib.Omega.{arith}
use Rattle.law.proofs.Window.{marks_oldest}
use Rattle.tally.proofs.amend.Goals as goal

pub overflow_sub-result : goal.overflow_sub-result
overflow_sub-result c = omega (arith, marks_oldest c.args.k c.args.window c.requires.0)
