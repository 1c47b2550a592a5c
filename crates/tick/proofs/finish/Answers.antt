-- `tick::finish` meets its contract: routine by routine, the words are those of the law's second half.
use native.Mathlib.Omega.{arith}
use Rattle.tick.proofs.Chain.{advanced_laid, advanced_time, advanced_idle, none_chosen, finished}
use Rattle.tick.proofs.finish.Goals as goal

pub count_tick-requires : goal.count_tick-requires
count_tick-requires c =
    let h = c.requires in
    (advanced_laid h _ c.advance_all.ensures, omega (arith, advanced_time h _ c.advance_all.ensures, h.sound.time), omega (arith, advanced_time h _ c.advance_all.ensures, advanced_idle h _ c.advance_all.ensures, h.sound.idle))

pub returns : goal.returns
returns c =
    finished c.requires _ c.advance_all.ensures _ c.choose-chosen.ensures.row (none_chosen _ _ _ c.choose-chosen.ensures.inside c.is_none.ensures) c.count_tick.ensures
