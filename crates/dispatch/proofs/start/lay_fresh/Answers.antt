-- `dispatch::start::lay_fresh` meets its contract: from all-zero words with their number of rows, each row passed is fresh.
use mathlib.Core.List.{List, map}
use mathlib.Core.Path.{◌≡◌, sym, ap, ◌∙◌}
use Prim.Native.Nat.{ℕ, ◌+◌, ◌≤◌, ◌<◌}
use native.Mathlib.Nat.{zero-add}
use native.Mathlib.Omega.{arith}
use lib.ListN.{length, set, replicate, length-replicate, length-map, get_or-map}
use lib.Seq.{ext_get_or}
use Rattle.law.specs.Sums.{map_from}
use Rattle.law.specs.Table.{Task, no_task, table_of, row}
use Rattle.law.specs.Tick.{Row, no_row, fresh_row, fresh}
use Rattle.law.specs.State.{state_of, laid, with_row}
use Rattle.law.proofs.Sums.{map_to_none, map_from_length, map_from_at}
use Rattle.law.proofs.Laid.{blank, blank_laid}
use Rattle.rows.proofs.Words.{row_put}
use Rattle.tick.proofs.Loops.{Mapped, with_rows, mapped_laid, mapped_rows, mapped_next, mapped_end}
use Rattle.dispatch.proofs.start.lay_fresh.Invariants.{fresh_at}
use Rattle.dispatch.proofs.start.lay_fresh.Goals as goal

module _ (tasks : List Task) (few : length tasks ≤ 32) where
  laying_start : (words : List ℕ) (n : ℕ) → n ≡ length tasks → words ≡ replicate 643 0
      → Mapped (fresh_at tasks) (blank (length tasks)) (set words 0 n) (length tasks) 0
  laying_start words n h e =
      let l : length (replicate (length tasks) no_row) ≡ length tasks = length-replicate (length tasks) no_row in
      record {
        total = sym l;
        few = omega (arith, few);
        reached = omega arith;
        is =
            ap (λ (z : List ℕ). set z 0 n) e ∙ ap (set (replicate 643 0) 0) h ∙ blank_laid (length tasks) few
            ∙ ap (λ (z : List Row). laid (with_rows (blank (length tasks)) z)) (sym (map_to_none (fresh_at tasks) 0 (replicate (length tasks) no_row)));
      }

-- all rows fresh: the fresh state
all_fresh : (tasks : List Task) → map_from (fresh_at tasks) 0 (replicate (length tasks) no_row) ≡ map fresh_row tasks
unfolding fresh_at
all_fresh tasks =
    let n = length tasks in
    let l : length (map_from (fresh_at tasks) 0 (replicate n no_row)) ≡ n = map_from_length (fresh_at tasks) 0 (replicate n no_row) ∙ length-replicate n no_row in
    ext_get_or no_row (map_from (fresh_at tasks) 0 (replicate n no_row)) (map fresh_row tasks) (l ∙ sym (length-map tasks fresh_row))
    (λ i h. map_from_at (fresh_at tasks) 0 (replicate n no_row) i no_row (omega (arith, l, length-replicate n no_row))
    ∙ ap (λ (z : ℕ). fresh_row (row tasks z)) (zero-add i) ∙ sym (get_or-map fresh_row tasks i no_task))

module _ (tasks : List Task) {words : List ℕ} {i : ℕ} (l : Mapped (fresh_at tasks) (blank (length tasks)) words (length tasks) i) where
  laying_next : (again : List ℕ) (t : Task) (r : Row) → i < length tasks → t ≡ row tasks i → r ≡ fresh_row t
      → again ≡ laid (with_row (state_of words) i r) → Mapped (fresh_at tasks) (blank (length tasks)) again (length tasks) (i + 1)
  unfolding fresh_at
  laying_next again t r h e f is = mapped_next l again r h (f ∙ ap fresh_row e) is

  laying_end : length tasks ≤ i → words ≡ laid (fresh tasks)
  unfolding fresh
  laying_end h = mapped_end l h ∙ ap (λ (z : List Row). laid (with_rows (blank 0) z)) (all_fresh tasks)

pub loop-i-init : goal.loop-i-init
loop-i-init c =
    laying_start (table_of c.args.table.words.now) c.args.table.well_formed.rows_high _ _ c.rows-rows.ensures
    (c.fill.ensures.after (λ y e. e) ∙ ap (λ (z : ℕ). replicate z 0) c.requires)

pub loop-i-preserved : goal.loop-i-preserved
loop-i-preserved c =
    let l = c.loop-i.invariant in
    let h : c.loop-i.i < length (table_of c.args.table.words.now) = omega (arith, c.rows-rows.ensures, c.loop-i-test.true) in
    laying_next _ l _ _ _ h c.task.ensures.said c.fresh_row.ensures
    (c.put_row.ensures ∙ row_put (mapped_laid l) c.loop-i.i _ (omega (arith, mapped_rows l, l.total, h)))

pub returns : goal.returns
returns c = laying_end _ c.loop-i.invariant (omega (arith, c.rows-rows.ensures, c.loop-i-test.false))
