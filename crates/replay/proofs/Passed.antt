-- The way out of a `?` of a replay: the refusal is passed on as it is.
use Rattle.std.proofs.Common.{◌≡◌}
use mathlib.Core.Path.{ap}
use Rattle.std.specs.Prelude.{Result, Ok, Err}
use Rattle.std.specs.Result.{IsErrAnd}
use Rattle.refusal.specs.declared.Refusal.{Refusal}
use Rattle.refusal.specs.Shown.{shown}
use Rattle.replay.specs.declared.Progress.{Progress}
use Rattle.replay.specs.Shown.{replayed_shown}

pub replay_passed_on : (r : Result Progress Refusal) (e : Refusal) → IsErrAnd r (λ x. x ≡ e) → replayed_shown r ≡ shown e
replay_passed_on (Ok p) e h = absurd h
replay_passed_on (Err x) e h = ap shown h
