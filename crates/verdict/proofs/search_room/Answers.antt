-- `verdict::search_room` meets its contract: where the walk has passed D, the best found is the room.
use Rattle.std.proofs.Common.{arith, ap}
use Rattle.law.specs.Table.{Task}
use Rattle.verdict.proofs.Walk.{walked_end}
use Rattle.verdict.proofs.search_room.Goals as goal

pub returns : goal.returns
returns c = walked_end c.loop-from.invariant (omega (arith, ap (λ (z : Task). z.d) c.task-d.ensures.said, c.loop-from-test.false))
