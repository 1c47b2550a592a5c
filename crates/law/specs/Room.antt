-- Document 02, 7/14: how much room a row has.
use Rattle.std.specs.Prelude.{true, false, List, [], ◌∷◌, ◌++◌, ◌≡◌, ℕ, suc, ◌-◌, ◌≤◌, ◌<◌, leb, length, drop, set}
use Rattle.law.specs.Sums.{highest, build}
use Rattle.law.specs.Refusal.{Answer, accepted, refused, or_refused, after, lent}
use Rattle.law.specs.Table.{Task, row, WellFormed, table_of, checked}
use Rattle.law.specs.Verdict.{above, response, fits, misfit}

-- "t less the load that rows above bring by t", 0 where that is not positive
unfoldable pub room_at : List Task → ℕ → ℕ → ℕ
room_at tasks i t = t - above tasks i t

-- "its room: the largest value, over t from 1 to D, of t less the load that rows above bring by t, or 0 if that is never positive"
unfoldable pub room : List Task → ℕ → ℕ
room tasks i = highest (λ j. room_at tasks i (suc j)) (row tasks i).d

-- the rooms of all rows, also below a row that doesn't fit
unfoldable pub rooms : List Task → List ℕ
rooms tasks = build (room tasks) (length tasks)

-- the rooms asked for alone: the refusals of the table, then 13; not 11, since a table turned down has its rooms too
unfoldable pub rooms_answer : List ℕ → ℕ → Answer
rooms_answer words lentWords =
    after (checked words)
    (or_refused (leb (length (table_of words)) lentWords) (refused 13 []) (accepted (length (table_of words) ∷ [])))

-- the rooms in a lent run of words, one per row, words after them untouched
unfoldable pub rooms_lent : List ℕ → List ℕ → List ℕ
rooms_lent words run =
    lent (rooms_answer words (length run)) (rooms (table_of words) ++ drop (length (table_of words)) run) run

-- a row with another C in place of its own
abbrev pub with_c : ℕ → Task → Task
with_c c r = record { id = r.id; c = c; t = r.t; d = r.d; m = r.m; k = r.k; p = r.p }

-- a table with another C in row i
abbrev pub with_c_at : List Task → ℕ → ℕ → List Task
with_c_at tasks i c = set tasks i (with_c c (row tasks i))

-- for a planner who looks at row i and leaves every other row as it is: another C within its range keeps the table well formed and the rooms down to the row; with
-- its room for its C the row fits, with more it doesn't, and is named where the rows above fit; rows above stay as they are
pub record Planned (tasks : List Task) (i : ℕ) : Type 0 where
  pub still_a_table : (c : ℕ) → 1 ≤ c → c ≤ 65535 → WellFormed (with_c_at tasks i c)
  pub same_rooms : (c j : ℕ) → j ≤ i → room (with_c_at tasks i c) j ≡ room tasks j
  pub fits_with_it : 1 ≤ room tasks i → fits (with_c_at tasks i (room tasks i)) i ≡ true
  pub not_with_more : (c : ℕ) → room tasks i < c → fits (with_c_at tasks i c) i ≡ false
  pub named : (c : ℕ) → room tasks i < c → ((j : ℕ) → j < i → fits tasks j ≡ true) → misfit (with_c_at tasks i c) ≡ i
  pub above_as_before : (c j : ℕ) → j < i → (row (with_c_at tasks i c) j ≡ row tasks j) × (response (with_c_at tasks i c) j ≡ response tasks j)
