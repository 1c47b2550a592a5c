-- Document 02, 5/14: a replay, the same dispatcher with the lengths of a log in place of C.
use Rattle.std.specs.Prelude.{Bool, not, List, [], ◌∷◌, ◌++◌, ℕ, zero, suc, ◌+◌, leb, ltb, eqb, length, get_or}
use Rattle.law.specs.Sums.{both, pick, first, among}
use Rattle.law.specs.Refusal.{Answer, accepted, refused, or_refused, after, lent, within}
use Rattle.law.specs.Tick.{Core, Row, State, core_at, due, release_all, tick_with, run, units_with}
use Rattle.law.specs.State.{state_of, laid, run_answer}

-- a replay under way: its state, "ticks done and numbers used"
pub record Replay : Type 0 where
  pub state : State
  pub ticks : ℕ
  pub used : ℕ

abbrev pub outset : State → Replay
outset s = record { state = s; ticks = 0; used = 0 }

-- how many of the first i rows release a job in the tick that begins with these rows
unfoldable pub releases : List Row → ℕ → ℕ
releases rows i = among (λ j. due (core_at rows j)) 0 i

-- "one number per released job in order of release (by tick, then by row)": the place in the log, from 0, of the number for row i, behind those of
-- earlier ticks and those of the rows above
abbrev pub place_of : Replay → ℕ → ℕ
place_of x i = x.used + releases x.state.rows i

-- the number there: "that work in place of C"
abbrev pub logged : List ℕ → Replay → ℕ → ℕ
logged log x i = get_or log (place_of x i) 0

-- the numbers used once all rows have released
abbrev pub used_then : Replay → ℕ
used_then x = place_of x (length x.state.rows)

-- "It stops before the first tick that releases more jobs than the log has left"
unfoldable pub goes_on : List ℕ → Replay → Bool
goes_on log x = leb (used_then x) (length log)

-- "runs the same dispatcher": one tick more
abbrev pub ticked : List ℕ → Replay → Replay
ticked log x = record { state = tick_with (logged log x) x.state; ticks = x.ticks + 1; used = used_then x }

-- the rows in that tick, once they have released
abbrev pub released_rows : List ℕ → Replay → List Row
released_rows log x = release_all (logged log x) x.state.rows

-- a replay of n ticks at the most; where it has stopped it stays
unfoldable pub replayed : List ℕ → ℕ → State → Replay
replayed log zero s = outset s
replayed log (suc n) s = pick (goes_on log (replayed log n s)) (ticked log (replayed log n s)) (replayed log n s)

-- "each 1 to that row's C": whether a row releases a job in the next tick and the number for it, at that place, is not
abbrev pub unfit : List ℕ → ℕ → Core → Bool
unfit log place c = both (due c) (not (within 1 c.task.c (get_or log place 0)))

unfoldable pub out_of_range : List ℕ → Replay → ℕ → Bool
out_of_range log x i = unfit log (place_of x i) (core_at x.state.rows i)

-- the first such row, as many as there are rows where there is none; and whether there is one
unfoldable pub bad_row : List ℕ → Replay → ℕ
bad_row log x = first (out_of_range log x) (length x.state.rows)

abbrev pub is_bad : List ℕ → Replay → Bool
is_bad log x = ltb (bad_row log x) (length x.state.rows)

-- "the first number out of range that a release before the stop would use": the first of the ticks done that would use one, as many as there are where
-- none would; and "its place from 0"
unfoldable pub bad_tick : List ℕ → ℕ → State → ℕ
bad_tick log n s = first (λ t. is_bad log (replayed log t s)) (replayed log n s).ticks

abbrev pub bad_place : List ℕ → ℕ → State → ℕ
bad_place log n s = place_of (replayed log (bad_tick log n s) s) (bad_row log (replayed log (bad_tick log n s) s))

-- "18, the first number out of range"; else it "reports ticks done and numbers used"
unfoldable pub replay_told : List ℕ → ℕ → State → Answer
replay_told log n s =
    or_refused (eqb (bad_tick log n s) (replayed log n s).ticks) (refused 18 (bad_place log n s ∷ []))
    (accepted ((replayed log n s).ticks ∷ (replayed log n s).used ∷ []))

-- "Refusals: 14, 15, then 18"
unfoldable pub replay_answer : List ℕ → ℕ → List ℕ → Answer
replay_answer words n log = after (run_answer words n) (replay_told log n (state_of words))

-- "the state is the one given" where it is refused
unfoldable pub replay_words : List ℕ → ℕ → List ℕ → List ℕ
replay_words words n log = lent (replay_answer words n log) (laid (replayed log n (state_of words)).state) words

-- the units of work taken from jobs in a replay
unfoldable pub replay_units : List ℕ → ℕ → State → ℕ
replay_units log zero s = 0
replay_units log (suc n) s =
    replay_units log n s + pick (goes_on log (replayed log n s)) (units_with (logged log (replayed log n s)) (replayed log n s).state) 0

-- the log of a run: the full length C of each job that it releases, in order of release. Of the first i rows in one tick, and of n ticks
unfoldable pub full_lengths : List Row → ℕ → List ℕ
full_lengths rows zero = []
full_lengths rows (suc i) = full_lengths rows i ++ pick (due (core_at rows i)) ((core_at rows i).task.c ∷ []) []

unfoldable pub full_log : ℕ → State → List ℕ
full_log zero s = []
full_log (suc n) s = full_log n s ++ full_lengths (run n s).rows (length (run n s).rows)
