-- `verdict::respond` meets its contract: it stops at the first row that doesn't fit, or has laid the response times of all.
use Rattle.std.proofs.Common.{arith, sym, ◌∙◌, ◌<◌, length}
use Rattle.law.specs.Table.{table_of}
use Rattle.verdict.proofs.Responses.{fitting_none, fitting_next, turned_down, all_told, time_small}
use Rattle.verdict.proofs.respond.Goals as goal

pub loop-i-init : goal.loop-i-init
loop-i-init c = fitting_none _ _ _ c.rows-rows.ensures (omega (arith, c.args.table.well_formed.rows_high))

pub overflow_cast-time : goal.overflow_cast-time
overflow_cast-time c =
    let is_row : c.loop-i.i < length (table_of c.args.table.words.now) = omega (arith, c.loop-i.invariant.laid.long) in
    omega (arith, time_small (table_of c.args.table.words.now) c.loop-i.i c.args.table.well_formed is_row c.in-Some.ensures)

pub loop-i-preserved : goal.loop-i-preserved
loop-i-preserved c = fitting_next _ _ _ _ c.loop-i.invariant c.loop-i-test.true _ c.in-Some.ensures

pub returns-in_default : goal.returns-in_default
returns-in_default c = turned_down _ _ _ _ c.loop-i.invariant c.loop-i-test.true (sym c.in_default.is ∙ c.search.ensures)

pub returns : goal.returns
returns c = all_told _ _ _ _ c.loop-i.invariant c.loop-i-test.false (omega arith) _
