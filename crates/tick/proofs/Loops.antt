-- A loop that takes the rows one by one: the rows passed are mapped, the others as they were.
use mathlib.Core.List.{List}
use mathlib.Core.Path.{◌≡◌, sym, ap, ◌∙◌}
use Prim.Native.Nat.{ℕ, ◌+◌, ◌≤◌, ◌<◌}
use native.Mathlib.Nat.{zero-add}
use native.Mathlib.Numerals.{add-one}
use native.Mathlib.Omega.{arith}
use lib.ListN.{length, get_or, set}
use Rattle.law.specs.Sums.{map_from}
use Rattle.law.specs.Tick.{Row, State, no_row}
use Rattle.law.specs.State.{state_of, laid, with_row}
use Rattle.law.proofs.Sums.{map_to, map_to_none, map_to_length, map_to_next, map_to_step, map_to_all}
use Rattle.rows.specs.Said.{Laid}
use Rattle.rows.proofs.Words.{says, laid_as}

abbrev pub with_rows : State → List Row → State
with_rows s rows = record { time = s.time; idle = s.idle; rows = rows }

pub record Mapped (f : ℕ → Row → Row) (s : State) (words : List ℕ) (n i : ℕ) : Type 0 where
  pub total : n ≡ length s.rows
  pub few : length s.rows ≤ 32
  pub reached : i ≤ n
  pub is : words ≡ laid (with_rows s (map_to f 0 i s.rows))

pub mapped_start : (f : ℕ → Row → Row) (words : List ℕ) (n : ℕ) → Laid words → n ≡ length (state_of words).rows → Mapped f (state_of words) words n 0
mapped_start f words n l e =
    record {
      total = e;
      few = l.few;
      reached = omega arith;
      is = l.is ∙ ap (λ (z : List Row). laid (with_rows (state_of words) z)) (sym (map_to_none f 0 (state_of words).rows));
    }

module _ {f : ℕ → Row → Row} {s : State} {words : List ℕ} {n i : ℕ} (m : Mapped f s words n i) where
  pub mapped_says : state_of words ≡ with_rows s (map_to f 0 i s.rows)
  mapped_says = says (with_rows s (map_to f 0 i s.rows)) m.is

  pub mapped_laid : Laid words
  mapped_laid = laid_as (with_rows s (map_to f 0 i s.rows)) m.is (omega (arith, map_to_length f 0 i s.rows, m.few))

  pub mapped_rows : length (state_of words).rows ≡ length s.rows
  mapped_rows = ap (λ (z : State). length z.rows) mapped_says ∙ map_to_length f 0 i s.rows

  -- the row that comes next is still as it was
  pub mapped_row : get_or (state_of words).rows i no_row ≡ get_or s.rows i no_row
  mapped_row = ap (λ (z : State). get_or z.rows i no_row) mapped_says ∙ map_to_next f 0 i s.rows no_row

  pub mapped_next : (again : List ℕ) (r : Row) → i < n → r ≡ f i (get_or s.rows i no_row) → again ≡ laid (with_row (state_of words) i r)
      → Mapped f s again n (i + 1)
  mapped_next again r h e is =
      record {
        total = m.total;
        few = m.few;
        reached = omega arith;
        is =
            is ∙ ap (λ (z : State). laid (with_row z i r)) mapped_says
            ∙ ap (λ (z : Row). laid (with_rows s (set (map_to f 0 i s.rows) i z))) (e ∙ ap (λ (z : ℕ). f z (get_or s.rows i no_row)) (sym (zero-add i)))
            ∙ ap (λ (z : List Row). laid (with_rows s z)) (map_to_step f 0 i s.rows no_row (omega (arith, m.total)))
            ∙ ap (λ (z : ℕ). laid (with_rows s (map_to f 0 z s.rows))) (sym (add-one i));
      }

  pub mapped_end : n ≤ i → words ≡ laid (with_rows s (map_from f 0 s.rows))
  mapped_end h =
      m.is ∙ ap (λ (z : List Row). laid (with_rows s z)) (map_to_all f 0 i s.rows (omega (arith, m.total)))
