-- `dispatch::well::table_clean` meets its contract: no row passed has a fault.
use mathlib.Core.Bool.{Bool, not}
use mathlib.Core.List.{List}
use Prim.Native.Nat.{ℕ}
use lib.Dec.{eqb}
use Rattle.law.specs.Table.{row_fault}
use Rattle.law.specs.State.{state_of, tasks_of}
use Rattle.law.proofs.First.{Searched}
use Rattle.rows.specs.Said.{Sized}
use Rattle.dispatch.proofs.well.table_clean.Given as goal

unfoldable pub fault : List ℕ → ℕ → Bool
fault words i = not (eqb (row_fault (tasks_of (state_of words).rows) i) 0)

abbrev pub invariant-loop-i : goal.invariant-loop-i
invariant-loop-i l = (Searched (fault l.words) l.rows l.i) × (Sized l.words l.rows)
