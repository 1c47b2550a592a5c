-- What is told lies within the room, and a refusal's row or place is small.
use Rattle.std.proofs.Common.{ap₂, length, ◌∙◌}
use Rattle.law.specs.Carry.{to_new_answer, new_checked, new_text}
use Rattle.law.proofs.CarrySizes.{new_also}
use Rattle.outcome.proofs.Told.{tellable}
use Rattle.to_new.proofs.main.Goals as goal

pub convert-requires-clause-tellable : goal.convert-requires-clause-tellable
unfolding to_new_answer
convert-requires-clause-tellable c =
    λ text answer left long is.
    tellable answer (new_checked text) (new_text text) left 1512
    (is.met.0 ∙ ap₂ (λ t r. to_new_answer t (length r)) is.shows.0 is.shows.1) long (new_also text 1512)
