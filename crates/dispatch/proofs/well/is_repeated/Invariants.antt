-- `dispatch::well::is_repeated` meets its contract: the loop stands at the first earlier row with the id, or has passed only other ids.
use mathlib.Core.Bool.{Bool}
use mathlib.Core.List.{List}
use mathlib.Core.Path.{◌≡◌}
use Prim.Native.Nat.{ℕ, ◌<◌}
use lib.Dec.{eqb}
use Rattle.law.specs.Table.{row}
use Rattle.law.specs.State.{state_of, tasks_of}
use Rattle.law.proofs.First.{Searched}
use Rattle.rows.specs.Said.{Sized}
use Rattle.dispatch.proofs.well.is_repeated.Given as goal

unfoldable pub id_of : List ℕ → ℕ → ℕ
id_of words i = (row (tasks_of (state_of words).rows) i).id

unfoldable pub same : List ℕ → ℕ → ℕ → Bool
same words i j = eqb (id_of words j) (id_of words i)

abbrev pub invariant-loop-j : goal.invariant-loop-j
invariant-loop-j l = (Searched (same l.words l.i) l.i l.j) × (Sized l.words l.rows) × (l.i < l.rows) × (l.id ≡ id_of l.words l.i)
