-- `table::check_rows`: the rows passed have no fault.
use Rattle.table.proofs.Faults.{IsCleanUpTo}
use Rattle.table.proofs.check_rows.Given as goal

abbrev pub invariant-loop-i : goal.invariant-loop-i
invariant-loop-i l = IsCleanUpTo l.words l.i
