-- `verdict::stretch` meets its contract: each row asked brings its demand, and what they bring stays far below 64 bits.
use Rattle.std.proofs.Common.{arith, ap, refl, ◌+◌}
use Rattle.law.specs.Table.{Task, table_of}
use Rattle.law.proofs.Verdict.{above_small}
use Rattle.verdict.proofs.Walk.{none_asked, one_asked}
use Rattle.verdict.proofs.stretch.Goals as goal

pub loop-j-init : goal.loop-j-init
loop-j-init c = none_asked _ _ _ _ (ap (λ (z : Task). z.d) c.task-until.ensures.said)

pub overflow_add-brought : goal.overflow_add-brought
overflow_add-brought c =
    let w = c.args.table.well_formed in
    let tasks = table_of c.args.table.words.now in
    let next = one_asked _ _ _ _ _ _ _ c.loop-j.invariant c.task.ensures.said _ _ _ c.brings-s.ensures.brought c.brings-s.ensures.until refl in
    omega (arith, next.brought_is, above_small tasks w (c.loop-j.j + 1) (omega arith) c.args.t c.requires.1, w.rows_high)

pub loop-j-preserved : goal.loop-j-preserved
loop-j-preserved c =
    one_asked _ _ _ _ _ _ _ c.loop-j.invariant c.task.ensures.said _ _ _ c.brings-s.ensures.brought c.brings-s.ensures.until c.min-until.ensures
