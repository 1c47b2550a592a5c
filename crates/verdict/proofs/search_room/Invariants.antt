-- `verdict::search_room`: what the walk passes has no more to give than the best found.
use Prim.Native.Nat.{◌+◌, ◌-◌}
use Rattle.law.specs.Table.{table_of}
use Rattle.verdict.proofs.Walk.{Walked}
use Rattle.verdict.proofs.search_room.Given as goal

abbrev pub invariant-loop-from : goal.invariant-loop-from
invariant-loop-from l = Walked (table_of l.table.words.now) l.row l.from l.best

abbrev pub decreases-loop-from : goal.decreases-loop-from
decreases-loop-from l = l.d + 1 - l.from
