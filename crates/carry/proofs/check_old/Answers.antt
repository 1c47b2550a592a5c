use Rattle.carry.proofs.Laying.{said_next, said_not, said_all}
use Rattle.carry.proofs.check_old.Goals as goal

pub returns-then-task_at-eq1 : goal.returns-then-task_at-eq1
returns-then-task_at-eq1 c = said_not c.loop-i.invariant c.loop-i-test.true c.task_at.ensures c.if-task_at-eq1.true

pub loop-i-preserved : goal.loop-i-preserved
loop-i-preserved c = said_next c.loop-i.invariant c.loop-i-test.true c.task_at.ensures c.if-task_at-eq1.false

pub returns : goal.returns
returns c = said_all c.loop-i.invariant c.loop-i-test.false
