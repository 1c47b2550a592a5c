-- What a read puts behind what was filled is what it took of the input.
use Rattle.std.proofs.Common.{rules}
use Rattle.intake.proofs.Filled.{read_more, read_none}
use Rattle.intake.proofs.read_full.Goals as goal
use Rattle.intake.proofs.read_full.Goals.{in-Ok, in-Err}

pub loop-preserved : goal.loop-preserved
loop-preserved g c =
    elim c.match-read.branch [
      | in-Ok w ↦ record {
        within = search rules;
        read = read_more _ _ _ c.loop.filled _ w.in-Ok.n _ _ _ c.loop.invariant.within (search rules) w.filled-is c.loop.invariant.read w.in-Ok.ensures.bytes.0;
      }
      | in-Err w ↦ record {
        within = search rules;
        read = read_none _ _ _ c.loop.filled _ _ _ _ c.loop.invariant.within w.filled-is c.loop.invariant.read w.in-Err.ensures.bytes;
      }
    ]
