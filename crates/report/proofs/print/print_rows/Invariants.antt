use Rattle.law.specs.Table.{table_of}
use Rattle.law.specs.State.{state_of}
use Rattle.report.proofs.Counted.{Printing}
use Rattle.report.proofs.print.print_rows.Given as goal

abbrev pub invariant-loop-i : goal.invariant-loop-i
invariant-loop-i l = Printing (table_of l.words) (state_of l.state) l.initial.page l.page l.i
