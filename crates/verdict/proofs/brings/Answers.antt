-- `verdict::brings` meets its contract: C for each mandatory job is small.
use Rattle.std.proofs.Common.{arith, ap, ◌*◌, ℕ}
use Rattle.law.specs.Sums.{ceil}
use Rattle.law.specs.Verdict.{demand}
use Rattle.law.proofs.Verdict.{demand_small}
use Rattle.table.specs.Said.{task_said}
use Rattle.verdict.proofs.brings.Goals as goal

pub overflow_mul-brought : goal.overflow_mul-brought
unfolding demand ceil
overflow_mul-brought c =
    let task = c.args.task in
    omega (arith, ap (λ (z : ℕ). task.c * z) c.count.ensures, demand_small (task_said task) c.requires.0 c.args.t c.requires.1)
