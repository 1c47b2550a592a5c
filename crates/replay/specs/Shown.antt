-- How the answer of a replay is read, and what the routines of a tick with a log leave.
use Rattle.std.specs.Prelude.{Bool, false, List, [], ◌∷◌, ◌≡◌, ℕ, Result, Ok, Err}
use Rattle.law.specs.Sums.{pick}
use Rattle.law.specs.Refusal.{Answer, accepted, refused}
use Rattle.law.specs.Tick.{State, begin}
use Rattle.law.specs.State.{laid}
use Rattle.law.specs.Replay.{Replay, logged, replayed}
use Rattle.refusal.specs.Shown.{shown}
use Rattle.refusal.specs.declared.Refusal.{Refusal}
use Rattle.replay.specs.declared.Progress.{Progress}

-- ticks done and numbers used, or the refusal
abbrev pub replayed_shown : Result Progress Refusal → Answer
replayed_shown (Ok p) = accepted (p.ticks ∷ p.used ∷ [])
replayed_shown (Err r) = shown r

-- a replay that has come to a state and has used so many numbers; the ticks done don't matter to the next one
abbrev pub under : State → ℕ → Replay
under s used = record { state = s; ticks = 0; used = used }

-- the answer of a step: the place of a number that is out of range, with its refusal, or the place after the numbers used
abbrev pub stepped : Bool → ℕ → ℕ → Answer
stepped bad place next = pick bad (refused 18 (place ∷ [])) (accepted (next ∷ []))

-- the words after the releases of a tick whose numbers are in range
pub record Begun (bad : Bool) (log : List ℕ) (x : Replay) (words : List ℕ) : Type 0 where
  pub is : bad ≡ false → words ≡ laid (begin (logged log x) x.state)

-- the words after a replay that is not refused
pub record Handed (answer : Answer) (log : List ℕ) (n : ℕ) (s : State) (words : List ℕ) : Type 0 where
  pub is : (vs : List ℕ) → answer ≡ accepted vs → words ≡ laid (replayed log n s).state
