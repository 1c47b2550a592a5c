-- `verdict::measure` meets its contract: the rooms stand in front, and the rest is as it was.
use Rattle.std.proofs.Common.{arith, ap, ◌∙◌, ◌++◌, List, ℕ, drop}
use Rattle.law.specs.Table.{table_of}
use Rattle.law.specs.Room.{rooms as rooms_law}
use Rattle.verdict.proofs.Laid.{laid_none, laid_all}
use Rattle.verdict.proofs.measure.Goals as goal

pub loop-i-init : goal.loop-i-init
loop-i-init c = laid_none _ _ _ c.args.run.now c.rows.ensures c.requires

pub returns : goal.returns
unfolding rooms_law
returns c =
    ap (λ (z : List ℕ). z ++ drop c.rows.result c.args.run.now) (laid_all _ _ _ _ _ c.loop-i.invariant c.loop-i-test.false (omega arith))
    ∙ ap (λ (n : ℕ). rooms_law (table_of c.args.table.words.now) ++ drop n c.args.run.now) c.rows.ensures
