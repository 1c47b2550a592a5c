-- `table::Table::task` meets its contract: the rows of a well-formed table are in their ranges.
use Rattle.std.proofs.Common.{◌∙◌, sym, ◌<◌, ◌/◌, length, arith, subst}
use Rattle.law.specs.Table.{Ranged}
use Rattle.law.proofs.Table.{table_length, table_row}
use Rattle.table.proofs.Table.task.Goals as goal

pub returns-clause-ranged : goal.returns-clause-ranged
returns-clause-ranged c =
    let words = c.args.self.words.now in
    let h : c.args.i < length words / 7 = omega (arith, table_length words) in
    subst Ranged (table_row words c.args.i h ∙ sym c.task_at.ensures) (c.args.self.well_formed.ranged c.args.i c.requires)
