-- `tick::tick` meets its contract: the releases at full length, then the second half.
use Rattle.law.specs.Tick.{full_length, tick}
use Rattle.law.specs.State.{state_of}
use Rattle.law.proofs.Ticks.{full_lengths_lem}
use Rattle.tick.proofs.Chain.{begun_held, ticked_with}
use Rattle.tick.proofs.tick.Goals as goal

pub finish-requires : goal.finish-requires
finish-requires c =
    let w = state_of c.args.words.now in
    begun_held (full_length w.rows) c.requires.0 c.requires.1 (full_lengths_lem w c.requires.0.sound) c.release_all.ensures

pub returns : goal.returns
unfolding tick
returns c =
    let w = c.args.words.now in
    ticked_with w (full_length (state_of w).rows) c.release_all.ensures c.finish.ensures
