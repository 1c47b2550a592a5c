-- Document 02, 7/14, over the answers and the words that `verdict::judge` and `verdict::rooms` leave.
use Rattle.std.specs.Prelude.{List, [], ◌∷◌, ◌≡◌, ℕ, suc, ◌≤◌, ◌<◌, length, get_or}
use Rattle.law.specs.Refusal.{accepted, refused}
use Rattle.law.specs.Table.{row, table_of}
use Rattle.law.specs.Verdict.{verdict}
use Rattle.law.specs.Room.{rooms_answer, rooms_lent, with_c_at}
use Rattle.promise.specs.Promised.{rows_in}

-- C of row i
abbrev pub own_c : List ℕ → ℕ → ℕ
own_c table i = (row (table_of table) i).c

-- the room of row i, as it stands in the lent run
abbrev pub told : List ℕ → List ℕ → ℕ → ℕ
told table run i = get_or (rooms_lent table run) i 0

-- every row above row i fits by its room
abbrev pub AboveFit : List ℕ → List ℕ → ℕ → Type 0
AboveFit table run i = (j : ℕ) → j < i → own_c table j ≤ told table run j

-- as many words, of the same table with another C in row i
pub record WithC (table other : List ℕ) (i c : ℕ) : Type 0 where
  pub long : length other ≡ length table
  pub rows : table_of other ≡ with_c_at (table_of table) i c

-- of a table that `verdict::rooms` accepts, and a room for the verdict that is long enough
pub record RoomsTell (table run room : List ℕ) : Type 0 where
  -- "A row fits exactly when its C is at most its room": the table is admitted if that holds of every row, and otherwise the first row of which it
  -- doesn't is named
  pub admits : AboveFit table run (rows_in table) → verdict table (length room) ≡ accepted (rows_in table ∷ [])
  pub names : (i : ℕ) → i < rows_in table → AboveFit table run i → told table run i < own_c table i
      → verdict table (length room) ≡ refused 11 (i ∷ [])
  -- another C in row i leaves the rooms down to row i as they are
  pub keeps : (other : List ℕ) (i c : ℕ) → i < rows_in table → 1 ≤ c → c ≤ 65535 → WithC table other i c
      → (rooms_answer other (length run) ≡ rooms_answer table (length run)) × ((j : ℕ) → j ≤ i → told other run j ≡ told table run j)
  -- for planners: with its room for its C the row is not the one named, and if those above fit, the one named is below it
  pub still_fits : (other : List ℕ) (i j : ℕ) → i < rows_in table → 1 ≤ told table run i → WithC table other i (told table run i)
      → verdict other (length room) ≡ refused 11 (j ∷ []) → (j ≡ i → ⊥) × (AboveFit table run i → i < j)
  -- and with one more it is, if those above fit
  pub no_more : (other : List ℕ) (i : ℕ) → i < rows_in table → told table run i < 65535 → WithC table other i (suc (told table run i))
      → AboveFit table run i → verdict other (length room) ≡ refused 11 (i ∷ [])
