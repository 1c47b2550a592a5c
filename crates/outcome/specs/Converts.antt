-- What a conversion is: one call at what was read and at a room, and what is told of its answer and of what it left in the room.
use Rattle.std.specs.Prelude.{◌≡◌, ℕ, List, Option, IfSome, Result, length, take}
use Rattle.std.specs.Fn.{Once}
use denote.Ref.{Bor, MutBor}
use Rattle.refusal.specs.declared.Refusal.{Refusal}
use Rattle.refusal.specs.Shown.{answered}
use Rattle.outcome.specs.Tellable.{Tellable}
use Rattle.outcome.specs.Tells.{Tells}

module _ {F : Type 0}
    (g : Once F (Bor (List ℕ) × (MutBor (List ℕ) × Unit {0})) (Result ℕ Refusal × (MutBor (List ℕ) × Unit {0})))
    (f : F) where
  -- the call of f at a text and a room may answer so, and leave this in the room
  pub record Answers (text room : List ℕ) (answer : Result ℕ Refusal) (left : List ℕ) : Type 0 where
    pub given : Bor (List ℕ)
    pub lent : MutBor (List ℕ)
    pub shows : (given.now ≡ text) × (lent.now ≡ room)
    pub after : MutBor (List ℕ)
    pub met : g.post f (given, (lent, tt)) (answer, (after, tt))
    pub leaves : after.now ≡ left

  -- whatever it answers of a text, it can be told
  abbrev pub AlwaysTellable : List ℕ → Type 0
  AlwaysTellable room =
      (text : List ℕ) (answer : Result ℕ Refusal) (left : List ℕ) → length left ≡ length room
      → Answers text room answer left → Tellable answer left

  -- what was read of an input, its first 2,048 bytes where they are known, is converted, and what came of it told
  pub record Converts (known : Option (List ℕ)) (room : List ℕ) (out out' error error' : Option (List ℕ))
      : Type 0 where
    pub text : List ℕ
    pub read : IfSome known (λ bytes. text ≡ take 2048 bytes)
    pub answer : Result ℕ Refusal
    pub left : List ℕ
    pub is : Answers text room answer left
    pub told : Tells (answered answer) left out out' error error'
