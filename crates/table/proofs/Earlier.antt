-- A row's id among those of the rows above it: what the search has passed when it has come to row j, and what it finds.
use mathlib.Core.Bool.{Bool, true, false}
use mathlib.Core.List.{List}
use mathlib.Core.Path.{◌≡◌, ◌∙◌}
use Prim.Native.Nat.{ℕ, ◌+◌, ◌/◌, ◌≤◌, ◌<◌}
use native.Mathlib.Omega.{arith}
use lib.Dec.{eqb}
use lib.ListN.{length}
use borrow.Author.Tests.{eq-eqb, ne_eqb, lt-ltb, le-ltb}
use Rattle.law.specs.Table.{task_at, table_of, row, repeated}
use Rattle.law.proofs.First.{Searched, searched_start, searched_hit, searched_next, searched_end}
use Rattle.law.proofs.Table.{table_row}

unfoldable pub has_id_of : List ℕ → ℕ → ℕ → Bool
has_id_of words i j = eqb (row (table_of words) j).id (row (table_of words) i).id

-- no row before j has the id of row i
pub record IsNewUpTo (words : List ℕ) (i j : ℕ) : Type 0 where
  pub is_row : i < length words / 7
  pub searched : Searched (has_id_of words i) i j

-- the test at a row, by the words of both
has_id_at : (words : List ℕ) (i j : ℕ) → i < length words / 7 → j < length words / 7
    → has_id_of words i j ≡ eqb (task_at words j).id (task_at words i).id
unfolding has_id_of
has_id_at words i j h l = rw (table_row words j l, table_row words i h)

pub new_at_first : (words : List ℕ) (i : ℕ) → i < length words / 7 → IsNewUpTo words i 0
new_at_first words i h = record { is_row = h; searched = searched_start _ _ }

module _ (words : List ℕ) (i j : ℕ) (s : IsNewUpTo words i j) where
  pub new_to_next : j < i → ((task_at words j).id ≡ (task_at words i).id → ⊥) → IsNewUpTo words i (j + 1)
  new_to_next h ne =
      record {
        is_row = s.is_row;
        searched = searched_next s.searched h (has_id_at words i j s.is_row (omega (arith, s.is_row)) ∙ ne_eqb _ _ ne);
      }

  pub repeated_at : j < i → (task_at words j).id ≡ (task_at words i).id → repeated (table_of words) i ≡ true
  unfolding repeated has_id_of
  repeated_at h e =
      let found = searched_hit s.searched h (has_id_at words i j s.is_row (omega (arith, s.is_row)) ∙ eq-eqb _ _ e) in
      lt-ltb _ i (omega (arith, found))

  pub new_to_end : i ≤ j → repeated (table_of words) i ≡ false
  unfolding repeated has_id_of
  new_to_end h = le-ltb _ i (omega (arith, searched_end s.searched h))

pub ruleset earlier_ids = (new_at_first, new_to_next, repeated_at, new_to_end)
