-- `dispatch::well::rows_well` meets its contract: the rows passed are well, so what is left to test are those from i on.
use mathlib.Core.List.{List}
use mathlib.Core.Path.{◌≡◌, sym, ap, ◌∙◌, subst}
use Prim.Native.Nat.{ℕ, ◌<◌}
use native.Mathlib.Omega.{arith}
use lib.ListN.{length, get_or}
use Rattle.law.specs.Pattern.{InRange}
use Rattle.law.specs.Table.{row}
use Rattle.law.specs.Tick.{Row, no_row}
use Rattle.law.specs.State.{state_of, tasks_of, row_at, row_well}
use Rattle.law.proofs.Sums.{every_pass, every_fail, every_end}
use Rattle.law.proofs.Table.{row_clean, fault_none}
use Rattle.law.proofs.Ticks.{tasks_length}
use Rattle.rows.proofs.Words.{row_read, task_read}
use Rattle.dispatch.proofs.well.rows_well.Invariants.{Testing}
use Rattle.dispatch.proofs.well.rows_well.Goals.{After-row_well}
use Rattle.dispatch.proofs.well.rows_well.Goals as goal

-- each row of a table without faults has its pair in range
pair_of : {words : List ℕ} {rows time i : ℕ} → Testing words rows time i → (j : ℕ) → j < rows → InRange (row_at words j).core.task.m (row_at words j).core.task.k
pair_of {words} {rows} t j h =
    let tasks = tasks_of (state_of words).rows in
    let n = tasks_length (state_of words).rows in
    let g = (fault_none (row tasks j) _ (row_clean tasks (t.clean ∙ t.sized.total ∙ sym n) j (omega (arith, t.sized.total)))).0.pair in
    rw (task_read t.sized j h) g

pub row_well-requires : goal.row_well-requires
row_well-requires c =
    let l = c.loop-i in
    (l.invariant.early, subst (λ (z : Row). InRange z.core.task.m z.core.task.k) (sym c.row_at.ensures) (pair_of l.invariant l.i c.loop-i-test.true))

abbrev Turn : Type 0
Turn = After-row_well

in_rows : (c : Turn) → c.loop-i.i < length (state_of c.args.words.now).rows
in_rows c = omega (arith, c.loop-i.invariant.sized.total, c.loop-i-test.true)

-- in a turn: the test is of the row that was read
told : (c : Turn) → row_well c.args.time (get_or (state_of c.args.words.now).rows c.loop-i.i no_row) ≡ c.row_well.result
told c = sym (c.row_well.ensures ∙ ap (row_well c.args.time) (c.row_at.ensures ∙ row_read _ _ (in_rows c)))

pub returns-then-not-row_well : goal.returns-then-not-row_well
returns-then-not-row_well c =
    let l = c.loop-i in
    sym (l.invariant.rest ∙ every_fail _ _ no_row l.i (in_rows (goal.at.returns-then-not-row_well c).After-row_well) (told (goal.at.returns-then-not-row_well c).After-row_well ∙ c.if-not-row_well.true))

pub loop-i-preserved : goal.loop-i-preserved
loop-i-preserved c =
    let l = c.loop-i in
    record {
      sized = l.invariant.sized;
      clean = l.invariant.clean;
      early = l.invariant.early;
      reached = omega (arith, c.loop-i-test.true);
      rest = l.invariant.rest ∙ every_pass _ _ no_row l.i (in_rows (goal.at.loop-i-preserved c).After-row_well) (told (goal.at.loop-i-preserved c).After-row_well ∙ c.if-not-row_well.false);
    }

pub returns : goal.returns
returns c = let l = c.loop-i.invariant in sym (l.rest ∙ every_end _ (state_of c.args.words.now).rows no_row c.loop-i.i (omega (arith, l.sized.total, c.loop-i-test.false)))
