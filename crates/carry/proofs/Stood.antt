-- Where the words of a text's rows stand, told without taking the answer apart.
use Rattle.std.proofs.Common.{◌≡◌, ℕ, ◌*◌, List, take}
use mathlib.Core.Path.{refl, ap, ◌∙◌}
use Rattle.std.specs.Prelude.{Result, Ok, Err, IfOk}
use Rattle.std.specs.Result.{IsErrAnd}
use Rattle.refusal.specs.declared.Refusal.{Refusal}
use Rattle.text.specs.Said.{stood}

-- a refused text's words may be any
pub stood_not : (r : Result ℕ Refusal) (e : Refusal) (width : ℕ) (words due : List ℕ) → IsErrAnd r (λ x. x ≡ e) → stood r width words due ≡ due
stood_not (Ok n) e width words due h = absurd h
stood_not (Err x) e width words due h = refl

-- the words are there, whichever way the answer goes
pub stood_by : (r : Result ℕ Refusal) (q n width : ℕ) (words due : List ℕ) → IfOk r (λ z. z ≡ q) → q ≡ n → take (n * width) words ≡ due → stood r width words due ≡ due
stood_by (Ok z) q n width words due h e f = ap (λ (v : ℕ). take (v * width) words) (h ∙ e) ∙ f
stood_by (Err x) q n width words due h e f = refl
