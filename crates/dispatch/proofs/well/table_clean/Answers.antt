-- `dispatch::well::table_clean` meets its contract: no row passed has a fault.
use mathlib.Core.Bool.{Bool, true, false, not}
use mathlib.Core.List.{List}
use mathlib.Core.Path.{◌≡◌, sym, ap, ◌∙◌}
use Prim.Native.Nat.{ℕ}
use native.Mathlib.Omega.{arith}
use lib.Dec.{eqb}
use borrow.Author.Tests.{eq-eqb, ne_eqb}
use Rattle.std.specs.Prelude.{is_some, unwrap_or}
use Rattle.law.specs.Sums.{first}
use Rattle.law.specs.Table.{Task, row, fault_of, row_fault, faulty}
use Rattle.law.specs.State.{state_of, tasks_of}
use Rattle.law.proofs.First.{searched_hit, searched_next, searched_end}
use Rattle.law.proofs.Ticks.{tasks_length}
use Rattle.table.proofs.Faults.{told_where}
use Rattle.rows.specs.Said.{Sized}
use Rattle.rows.proofs.Words.{task_read}
use Rattle.dispatch.proofs.well.table_clean.Invariants.{fault}
use Rattle.dispatch.proofs.well.table_clean.Goals.{After-row_fault}
use Rattle.dispatch.proofs.well.table_clean.Goals as goal

-- the search of the loop is the law's
faulty-is : {words : List ℕ} {rows : ℕ} → Sized words rows → (i : ℕ) → first (fault words) rows ≡ i → faulty (tasks_of (state_of words).rows) ≡ i
unfolding faulty fault
faulty-is {words} s i e = ap (first (fault words)) (tasks_length (state_of words).rows ∙ sym s.total) ∙ e

abbrev Read : Type 0
Read = After-row_fault

-- in a turn: what was read is the row's fault
told : (c : Read) → unwrap_or c.row_fault.result 0 ≡ row_fault (tasks_of (state_of c.args.words.now).rows) c.loop-i.i
told c =
    let l = c.loop-i in
    let tasks = tasks_of (state_of c.args.words.now).rows in
    c.row_fault.ensures.number
    ∙ ap (λ (z : Task). fault_of z c.is_repeated.result) (c.task_of.ensures ∙ task_read l.invariant.1 l.i c.loop-i-test.true)
    ∙ ap (fault_of (row tasks l.i)) c.is_repeated.ensures

clean : (c : Read) (b : Bool) → is_some c.row_fault.result ≡ b → fault c.args.words.now c.loop-i.i ≡ b
unfolding fault
clean c b e = ap (λ (z : ℕ). not (eqb z 0)) (sym (told c)) ∙ sym (told_where _ c.row_fault.ensures.fault) ∙ e

pub returns-then-is_some : goal.returns-then-is_some
returns-then-is_some c =
    let l = c.loop-i in
    let t = c.loop-i-test.true in
    let found = faulty-is l.invariant.1 _ (searched_hit l.invariant.0 t (clean (goal.at.returns-then-is_some c).After-row_fault true (sym c.is_some.ensures ∙ c.if-is_some.true))) in
    sym (ne_eqb _ c.args.rows (λ e. omega (arith, t, found, e)))

pub loop-i-preserved : goal.loop-i-preserved
loop-i-preserved c =
    let l = c.loop-i.invariant in
    (searched_next l.0 c.loop-i-test.true (clean (goal.at.loop-i-preserved c).After-row_fault false (sym c.is_some.ensures ∙ c.if-is_some.false)), l.1)

pub returns : goal.returns
returns c =
    let l = c.loop-i.invariant in
    sym (eq-eqb _ _ (faulty-is l.1 _ (searched_end l.0 c.loop-i-test.false)))
