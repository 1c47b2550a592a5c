-- `verdict::search`: no tick before t fits.
use Prim.Native.Nat.{◌+◌, ◌-◌}
use Rattle.law.specs.Table.{table_of}
use Rattle.table.specs.Said.{task_said}
use Rattle.verdict.proofs.Seeking.{IsSeeking}
use Rattle.verdict.proofs.search.Given as goal

abbrev pub invariant-loop-own : goal.invariant-loop-own
invariant-loop-own l = IsSeeking (table_of l.table.words.now) l.row (task_said l.own) l.room l.t

abbrev pub decreases-loop-own : goal.decreases-loop-own
decreases-loop-own l = l.own.d + 1 - l.t
