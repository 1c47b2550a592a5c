-- `table::is_repeated`: the rows passed have other ids.
use Rattle.table.proofs.Earlier.{IsNewUpTo}
use Rattle.table.proofs.is_repeated.Given as goal

abbrev pub invariant-loop-j : goal.invariant-loop-j
invariant-loop-j l = IsNewUpTo l.words l.row l.j
