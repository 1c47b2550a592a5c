use mathlib.Core.Path.{◌∙◌}
use native.Mathlib.Omega.{arith}
use lib.Seq.{take_at}
use Rattle.carry.proofs.Laying.{laid_next, laid_all}
use Rattle.carry.proofs.relay.Goals as goal

pub loop-l-preserved : goal.loop-l-preserved
loop-l-preserved c = laid_next c.loop-l.invariant (omega arith) c.word_in.ensures

pub returns : goal.returns
returns c = take_at _ _ _ c.loop-l.invariant.long ∙ laid_all c.loop-l.invariant (omega arith)
