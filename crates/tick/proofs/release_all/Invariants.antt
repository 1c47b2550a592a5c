-- `tick::release_all` meets its contract: the rows passed have released.
use lib.ListN.{length}
use Rattle.law.specs.Tick.{full_length, release_row}
use Rattle.law.specs.State.{state_of}
use Rattle.law.specs.Sound.{SoundState}
use Rattle.rows.specs.Said.{Fetched}
use Rattle.tick.proofs.Loops.{Mapped}
use Rattle.tick.proofs.release_all.Given as goal

abbrev pub invariant-loop-i : goal.invariant-loop-i
invariant-loop-i l =
    (Mapped (λ i. release_row (full_length (state_of l.initial.words).rows i)) (state_of l.initial.words) l.words (length (state_of l.initial.words).rows) l.i)
    × (SoundState 0 (state_of l.initial.words)) × (Fetched (state_of l.initial.words).rows l.patterns)
