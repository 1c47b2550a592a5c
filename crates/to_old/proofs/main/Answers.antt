-- What is told lies within the room, and a refusal's row or place is small.
use Rattle.std.proofs.Common.{ap₂, length, ◌∙◌}
use Rattle.law.specs.Carry.{to_old_answer, old_checked, old_text}
use Rattle.law.proofs.CarrySizes.{old_also}
use Rattle.outcome.proofs.Told.{tellable}
use Rattle.to_old.proofs.main.Goals as goal

pub convert-requires-clause-tellable : goal.convert-requires-clause-tellable
unfolding to_old_answer
convert-requires-clause-tellable c =
    λ text answer left long is.
    tellable answer (old_checked text) (old_text text) left 1384
    (is.met.0 ∙ ap₂ (λ t r. to_old_answer t (length r)) is.shows.0 is.shows.1) long (old_also text 1384)
