-- The way out of a `?`: the refusal is passed on as it is.
use Rattle.std.proofs.Common.{◌≡◌, ℕ}
use mathlib.Core.Path.{ap}
use Rattle.std.specs.Prelude.{Result, Ok, Err}
use Rattle.std.specs.Result.{IsErrAnd}
use Rattle.refusal.specs.declared.Refusal.{Refusal}
use Rattle.refusal.specs.Shown.{shown, answered, done}

pub passed_on : (r : Result ℕ Refusal) (e : Refusal) → IsErrAnd r (λ x. x ≡ e) → answered r ≡ shown e
passed_on (Ok n) e h = absurd h
passed_on (Err x) e h = ap shown h

pub done_on : (r : Result Unit Refusal) (e : Refusal) → IsErrAnd r (λ x. x ≡ e) → done r ≡ shown e
done_on (Ok u) e h = absurd h
done_on (Err x) e h = ap shown h
