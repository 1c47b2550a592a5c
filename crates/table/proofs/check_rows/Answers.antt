-- `table::check_rows` meets its contract: it stands at the first row with a fault, or has passed only rows without one.
use Rattle.std.proofs.Common.{◌∙◌}
use Rattle.table.proofs.Faults.{fault_at, clean_to_next}
use Rattle.table.proofs.check_rows.Goals as goal

pub returns-in-Some-clause-answer : goal.returns-in-Some-clause-answer
returns-in-Some-clause-answer c =
    c.row_refusal.ensures
    ∙ fault_at _ _ c.loop-i.invariant c.loop-i-test.true c.task_at.ensures c.is_repeated.ensures _ c.in-Some.ensures.number c.in-Some.ensures.fault

pub loop-i-preserved : goal.loop-i-preserved
loop-i-preserved c = clean_to_next _ _ c.loop-i.invariant c.loop-i-test.true c.task_at.ensures c.is_repeated.ensures c.in_default.ensures.number
