-- How the answer to the question about one job is read: 1 for mandatory, 0 for optional; or the refusal.
use Rattle.std.specs.Prelude.{Bool, [], ◌∷◌, Result, Ok, Err}
use Rattle.law.specs.Sums.{bit}
use Rattle.law.specs.Refusal.{Answer, accepted}
use Rattle.refusal.specs.Shown.{shown}
use Rattle.refusal.specs.declared.Refusal.{Refusal}

abbrev pub job_shown : Result Bool Refusal → Answer
job_shown (Ok b) = accepted (bit b ∷ [])
job_shown (Err r) = shown r
