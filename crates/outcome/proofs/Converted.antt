-- What was converted is what was read, and what is told is what came of it.
use Rattle.std.proofs.Common.{◌≡◌, ℕ, List, Option, Result, Ok, Err, OnOk, IfSome, take, subst}
use Rattle.std.specs.Fn.{Once}
use denote.Ref.{Bor, MutBor}
use Rattle.refusal.specs.declared.Refusal.{Refusal}
use Rattle.refusal.specs.Shown.{answered}
use Rattle.outcome.specs.Tells.{Tells}
use Rattle.outcome.specs.Converts.{Converts, Answers}

module _ {F : Type 0}
    (g : Once F (Bor (List ℕ) × (MutBor (List ℕ) × Unit {0})) (Result ℕ Refusal × (MutBor (List ℕ) × Unit {0})))
    (f : F) where
  pub converted : {E : Type 0} (w : Result (Unit {0}) E) (known : Option (List ℕ)) (text room left : List ℕ)
      (answer : Result ℕ Refusal) (out out' error error' : Option (List ℕ)) (size : ℕ) → size ≡ 2048
      → IfSome known (λ bytes. text ≡ take size bytes) → Answers g f text room answer left
      → OnOk w (Tells (answered answer) left out out' error error')
      → OnOk w (Converts g f known room out out' error error')
  converted (Ok x) known text room left answer out out' error error' size long first is told =
      record {
        text = text;
        read = subst (λ z. IfSome known (λ bytes. text ≡ take z bytes)) long first;
        answer = answer;
        left = left;
        is = is;
        told = told;
      }
  converted (Err e) known text room left answer out out' error error' size long first is told = tt
