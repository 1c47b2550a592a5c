-- Document 02, 2/14, over what the functions hand back and answer: the stored number of met marks is the count of the window's.
use Rattle.std.specs.Prelude.{true, List, [], ◌∷◌, ◌≡◌, ℕ, length, take}
use Rattle.law.specs.Refusal.{accepted, refused}
use Rattle.law.specs.State.{state_words, saved_well, saved_answer, fresh_answer, fresh_words, run_answer, run_words, counts_answer, counts_room, held_answer}
use Rattle.law.specs.Replay.{replay_answer, replay_words}
use Rattle.promise.specs.MissesLeft.{row_seen, marks_held}

-- Words that are a well-formed state, in which each row's stored number is the count of its window's met marks, and the frame question answers it.
-- Where there is no row i, both numbers are 0.
pub record MarksTrue (words : List ℕ) : Type 0 where
  pub well : saved_well words ≡ true
  pub each : (i : ℕ) → (row_seen words i).tally.held ≡ marks_held words i
  pub frame : (i : ℕ) → held_answer words i ≡ accepted (marks_held words i ∷ [])

-- words that every function which goes through a state refuses by 14, leaving what was lent
pub record Refused14 (words : List ℕ) : Type 0 where
  pub well : saved_answer words ≡ refused 14 []
  pub run : (n : ℕ) → (run_answer words n ≡ refused 14 []) × (run_words words n ≡ words)
  pub replay : (n : ℕ) (log : List ℕ) → (replay_answer words n log ≡ refused 14 []) × (replay_words words n log ≡ words)
  pub counts : (i : ℕ) (room : List ℕ) → (counts_answer words (length room) ≡ refused 14 []) × (counts_room words i room ≡ room)

-- "Each tick, run and fresh state keeps it true": the state that `dispatch::start::fresh_words` laid into a room (`fresh`), and what
-- `dispatch::run::run_words` hands back for a well-formed state, whether the run was made or refused (`run`; a tick is a run of 1).
-- So does a replay, made or refused, whatever its log: what `replay::replay_words` hands back (`replay`).
-- "a caller's state in which it isn't true is not well formed" (`untrue`; the other way round, `given`).
-- A state of another number of words, as one saved before the number was kept (579), is refused by the frame question too (`other_length`).
pub record MarksKept : Type 0 where
  pub fresh : (table room vs : List ℕ) → fresh_answer table (length room) ≡ accepted vs → MarksTrue (take state_words (fresh_words table room))
  pub run : (words : List ℕ) (n : ℕ) → saved_well words ≡ true → MarksTrue (run_words words n)
  pub replay : (words : List ℕ) (n : ℕ) (log : List ℕ) → saved_well words ≡ true → MarksTrue (replay_words words n log)
  pub given : (words : List ℕ) → saved_well words ≡ true → MarksTrue words
  pub untrue : (words : List ℕ) (i : ℕ) → ((row_seen words i).tally.held ≡ marks_held words i → ⊥) → Refused14 words
  pub other_length : (words : List ℕ) → (length words ≡ state_words → ⊥) → (Refused14 words) × ((i : ℕ) → held_answer words i ≡ refused 14 [])
