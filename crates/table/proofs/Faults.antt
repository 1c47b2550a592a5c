-- The first row with a fault: what the walk over the rows has passed when it has come to row i, and what it answers.
use mathlib.Core.Bool.{Bool, not}
use mathlib.Core.List.{List, [], ◌∷◌}
use mathlib.Core.Logic.{inl, inr}
use mathlib.Core.Path.{◌≡◌, refl, sym, ap, ◌∙◌}
use Prim.Native.Nat.{ℕ, ◌+◌, ◌/◌, ◌≤◌, ◌<◌}
use native.Mathlib.Omega.{arith}
use lib.Dec.{eqb}
use lib.ListN.{length}
use borrow.Author.Tests.{eq-eqb, ne_eqb}
use Rattle.std.specs.Prelude.{Option, None, Some, IfSome, is_some, unwrap_or}
use Rattle.law.specs.Refusal.{accepted, refused}
use Rattle.law.specs.Table.{Task, task_at, table_of, repeated, RowNumber, fault_of, row_fault, faulty, rows_checked}
use Rattle.law.proofs.First.{Searched, searched_start, searched_hit, searched_next, searched_end}
use Rattle.law.proofs.Table.{table_length, table_row, rows_refused, rows_accepted}

unfoldable pub has_fault : List ℕ → ℕ → Bool
has_fault words i = not (eqb (row_fault (table_of words) i) 0)

-- the number of a fault is not 0
some_fault : {n : ℕ} → RowNumber n → n ≡ 0 → ⊥
some_fault (inl h) e = omega (arith, h.0)
some_fault (inr f) e = omega arith

-- a fault is told where there is one, and only there
pub told_where : (told : Option ℕ) → IfSome told RowNumber → is_some told ≡ not (eqb (unwrap_or told 0) 0)
told_where None h = refl
told_where (Some n) h = sym (ap not (ne_eqb n 0 (some_fault h)))

-- no row before i has a fault
pub record IsCleanUpTo (words : List ℕ) (i : ℕ) : Type 0 where
  pub searched : Searched (has_fault words) (length (table_of words)) i

pub clean_at_first : (words : List ℕ) → IsCleanUpTo words 0
clean_at_first words = record { searched = searched_start _ _ }

module _ (words : List ℕ) (i : ℕ) (s : IsCleanUpTo words i) where
  pub clean_to_end : length words / 7 ≤ i → rows_checked (table_of words) ≡ accepted (length words / 7 ∷ [])
  unfolding faulty has_fault
  clean_to_end h =
      rows_accepted (table_of words) (searched_end s.searched (omega (arith, table_length words)))
      ∙ ap (λ (z : ℕ). accepted (z ∷ [])) (table_length words)

  -- row i, by its words and whether its id stands above it
  module _ (h : i < length words / 7) {r : Task} {twice : Bool} (e : r ≡ task_at words i) (f : twice ≡ repeated (table_of words) i) where
    is_fault : fault_of r twice ≡ row_fault (table_of words) i
    is_fault = rw (table_row words i h, e, f)

    pub clean_to_next : 0 ≡ fault_of r twice → IsCleanUpTo words (i + 1)
    unfolding has_fault
    clean_to_next z =
        record { searched = searched_next s.searched (omega (arith, table_length words)) (ap not (eq-eqb _ 0 (sym is_fault ∙ sym z))) }

    pub fault_at : (n : ℕ) → n ≡ fault_of r twice → RowNumber n → refused n (i ∷ []) ≡ rows_checked (table_of words)
    unfolding faulty has_fault
    fault_at n z range =
        let l : i < length (table_of words) = omega (arith, table_length words) in
        let found = searched_hit s.searched l (ap not (ne_eqb _ 0 (λ none. some_fault range (z ∙ is_fault ∙ none)))) in
        ap (λ (z : ℕ). refused z (i ∷ [])) (z ∙ is_fault) ∙ sym (rows_refused (table_of words) i found l)
