-- Document 01, "Refusal numbers": the form of every answer.
use Rattle.std.specs.Prelude.{Bool, true, false, List, [], ◌∷◌, ℕ, leb}
use Rattle.law.specs.Sums.{both}

-- What a call answers. Accepted: with the values it gives. Refused: by its number in the table of document 01 or in document 02, and "also returned" the
-- row or the place, where there is one.
pub data Answer : Type 0 where
  accepted : List ℕ → Answer
  refused : ℕ → List ℕ → Answer

-- the first that applies is given: the refusal where the test fails, else what follows
abbrev pub or_refused : Bool → Answer → Answer → Answer
or_refused true refusal next = next
or_refused false refusal next = refusal

-- what follows an accepted answer; a refusal stays
abbrev pub after : Answer → Answer → Answer
after (accepted values) next = next
after (refused n also) next = refused n also

-- what a lent run, or a state handed back, holds after an answer: the new one if accepted, the old one if refused
abbrev pub lent : {A : Type 0} → Answer → A → A → A
lent (accepted values) new old = new
lent (refused n also) new old = old

-- low..high, both ends included
unfoldable pub within : ℕ → ℕ → ℕ → Bool
within low high x = both (leb low x) (leb x high)

-- the first of a list, 0 where there is none
abbrev pub head : List ℕ → ℕ
head [] = 0
head (v ∷ vs) = v

-- an answer as two numbers, for callers that take numbers: 0 for accepted or the refusal's number; and the value, row or place, 0 where there is none
abbrev pub code_of : Answer → ℕ
code_of (accepted vs) = 0
code_of (refused n vs) = n

abbrev pub value_of : Answer → ℕ
value_of (accepted vs) = head vs
value_of (refused n vs) = head vs

-- and a second value, for an answer that has two; no refusal has
abbrev pub second : List ℕ → ℕ
second [] = 0
second (v ∷ vs) = head vs

abbrev pub second_of : Answer → ℕ
second_of (accepted vs) = second vs
second_of (refused n vs) = 0
