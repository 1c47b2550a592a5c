-- Document 02, 1/14, over the counts question: what a row's spare, as it was laid into the room, says of that row.
use Rattle.std.specs.Prelude.{List, ◌≡◌, ℕ, ◌-◌, ◌≤◌, ◌<◌, get_or}
use Rattle.law.specs.Tick.{Row, no_row, marks}
use Rattle.law.specs.State.{state_of, counts_room}
use Rattle.law.specs.Promise.{MissesLeft}

-- row i of the state that words say
abbrev pub row_seen : List ℕ → ℕ → Row
row_seen words i = get_or (state_of words).rows i no_row

-- its m, and the met marks in its window
abbrev pub marks_asked : List ℕ → ℕ → ℕ
marks_asked words i = (row_seen words i).core.task.m

abbrev pub marks_held : List ℕ → ℕ → ℕ
marks_held words i = marks (row_seen words i).core.task.k (row_seen words i).tally.window

-- the spare that `dispatch::counts::counts_words` laid into the room for row i
abbrev pub spare_shown : List ℕ → ℕ → List ℕ → ℕ
spare_shown words i room = get_or (counts_room words i room) 6 0

-- For a counts question that was accepted and a row of the state.
-- Where the window holds m now, so many further misses in a row are harmless and one more is not (`exact`); "if the whole window holds fewer than
-- m it is 0" (`short`); the figure before the request, met marks less m, is never above it (`no_less`).
pub record SpareTells (words : List ℕ) (i : ℕ) (room : List ℕ) : Type 0 where
  pub exact : marks_asked words i ≤ marks_held words i
      → MissesLeft (row_seen words i).core.task (row_seen words i).tally (spare_shown words i room)
  pub short : marks_held words i < marks_asked words i → spare_shown words i room ≡ 0
  pub no_less : marks_held words i - marks_asked words i ≤ spare_shown words i room
