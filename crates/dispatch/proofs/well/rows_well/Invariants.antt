-- `dispatch::well::rows_well` meets its contract: the rows passed are well, so what is left to test are those from i on.
use mathlib.Core.List.{List}
use mathlib.Core.Path.{◌≡◌}
use Prim.Native.Nat.{ℕ, ◌≤◌}
use lib.ListN.{drop}
use Rattle.law.specs.Sums.{every}
use Rattle.law.specs.Table.{faulty}
use Rattle.law.specs.Tick.{clock_end}
use Rattle.law.specs.State.{state_of, tasks_of, row_well}
use Rattle.rows.specs.Said.{Sized}
use Rattle.dispatch.proofs.well.rows_well.Given as goal

pub record Testing (words : List ℕ) (rows time i : ℕ) : Type 0 where
  pub sized : Sized words rows
  pub clean : faulty (tasks_of (state_of words).rows) ≡ rows
  pub early : time ≤ clock_end
  pub reached : i ≤ rows
  pub rest : every (row_well time) (state_of words).rows ≡ every (row_well time) (drop i (state_of words).rows)

abbrev pub invariant-loop-i : goal.invariant-loop-i
invariant-loop-i l = Testing l.words l.rows l.time l.i
