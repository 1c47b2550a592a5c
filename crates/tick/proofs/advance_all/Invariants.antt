-- `tick::advance_all` meets its contract: the rows passed are advanced.
use lib.Dec.{eqb}
use lib.ListN.{length}
use Rattle.std.specs.Option.{unwrap_or}
use Rattle.law.specs.Tick.{advance_row}
use Rattle.law.specs.State.{state_of}
use Rattle.law.specs.Sound.{SoundState}
use Rattle.tick.proofs.Loops.{Mapped}
use Rattle.tick.proofs.advance_all.Given as goal

abbrev pub invariant-loop-i : goal.invariant-loop-i
invariant-loop-i l =
    (Mapped (λ i. advance_row (eqb i (unwrap_or l.chosen (length (state_of l.initial.words).rows)))) (state_of l.initial.words) l.words (length (state_of l.initial.words).rows) l.i) × (SoundState 1 (state_of l.initial.words))
