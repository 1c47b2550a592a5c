-- `verdict::measure`: the rooms of the rows passed are laid.
use lib.ListN.{length}
use Rattle.law.specs.Table.{table_of}
use Rattle.law.specs.Room.{room}
use Rattle.verdict.proofs.Laid.{IsLaidUpTo}
use Rattle.verdict.proofs.measure.Given as goal

abbrev pub invariant-loop-i : goal.invariant-loop-i
invariant-loop-i l = IsLaidUpTo (room (table_of l.table.words.now)) (length (table_of l.table.words.now)) l.initial.room-items l.room-items l.i
