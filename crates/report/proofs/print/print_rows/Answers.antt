-- Each row behind the one before.
use mathlib.Core.List.{List, ◌∷◌, ◌++◌}
use mathlib.Core.Path.{◌≡◌, sym, ap, ◌∙◌, subst}
use Prim.Native.Nat.{ℕ, ◌/◌, ◌<◌}
use native.Mathlib.Omega.{arith}
use lib.ListN.{length, get_or}
use mir.Syntax.{w32}
use mir.Val.{Fits}
use Rattle.law.specs.Table.{Task, table_of, row, task_at}
use Rattle.law.specs.Tick.{no_row}
use Rattle.law.specs.State.{state_of, tasks_of, counts_of}
use Rattle.law.specs.Report.{printed_keys, number_lines, row_printed, rows_printed}
use Rattle.law.proofs.Table.{table_length, table_row}
use Rattle.law.proofs.Ticks.{tasks_length}
use Rattle.rows.specs.Said.{Held}
use Rattle.report.specs.Said.{Small, Good, Responded, Roomed}
use Rattle.report.proofs.Judged.{good_few, good_ranged}
use Rattle.report.proofs.Counted.{printing_start, printing_next, small_cons, counts_small}
use Rattle.report.proofs.print.print_rows.Goals as goal

-- a row that is read: its id, its response time, its room and its counts
module _ (words times rooms state : List ℕ) (i : ℕ) (h : i < length words / 7) where
  inside : i < length (table_of words)
  inside = omega (arith, table_length words)

  module _ {t : Task} (e : t ≡ task_at words i) {counts : List ℕ} (c : counts ≡ counts_of (get_or (state_of state).rows i no_row)) where
    same : t ≡ row (table_of words) i
    same = e ∙ sym (table_row words i h)

    printed : Responded (table_of words) times → Roomed (table_of words) rooms
        → number_lines printed_keys (i ∷ t.id ∷ get_or times i 0 ∷ get_or rooms i 0 ∷ counts) ≡ row_printed (table_of words) (state_of state) i
    unfolding row_printed
    printed responded roomed = rw (same, responded.at i inside, roomed.at i inside, c)

    small : Good words → Held 0 state → tasks_of (state_of state).rows ≡ table_of words → Fits w32 (get_or times i 0) → Fits w32 (get_or rooms i 0)
        → Small (i ∷ t.id ∷ get_or times i 0 ∷ get_or rooms i 0 ∷ counts)
    small good held tasks a b =
        let there : i < length (state_of state).rows = omega (arith, inside, ap length tasks, tasks_length (state_of state).rows) in
        small_cons i _ (omega (arith, inside, good_few good))
        (small_cons t.id _ (omega (arith, ap (λ (z : Task). z.id) same, (good_ranged good i inside).id_high))
        (small_cons (get_or times i 0) _ (omega (arith, a))
        (small_cons (get_or rooms i 0) _ (omega (arith, b))
        (subst Small (sym c) (counts_small (held.sound.rows i there) (omega (arith, held.sound.time)))))))

pub loop-i-init : goal.loop-i-init
loop-i-init c = printing_start _ _ _

pub bounds-times-i : goal.bounds-times-i
bounds-times-i c = omega (arith, table_length c.args.words.now, c.requires.2.enough)

pub bounds-rooms-i : goal.bounds-rooms-i
bounds-rooms-i c = omega (arith, table_length c.args.words.now, c.requires.3.enough)

pub print_row-requires : goal.print_row-requires
print_row-requires c =
    let r = c.requires in (
      omega (arith, c.loop-i.invariant.few, table_length c.args.words.now, good_few r.1, r.0),
      rw (c.from.ensures, c.from-in-loop-i.ensures) (small c.args.words.now c.args.times.now c.args.rooms.now c.args.state.now c.loop-i.i c.loop-i-test.true c.task_at.ensures c.counts_of-c.ensures r.1 r.4 r.5 (c.type_inv.times c.loop-i.i) (c.type_inv.rooms c.loop-i.i)),
    )

pub loop-i-preserved : goal.loop-i-preserved
loop-i-preserved c =
    let r = c.requires in
    printing_next c.loop-i.invariant
    (c.print_row.ensures
    ∙ ap (λ (z : List ℕ). c.loop-i.page ++ z) (rw (c.from.ensures, c.from-in-loop-i.ensures) (printed c.args.words.now c.args.times.now c.args.rooms.now c.args.state.now c.loop-i.i c.loop-i-test.true c.task_at.ensures c.counts_of-c.ensures r.2 r.3)))

pub returns : goal.returns
returns c =
    let e : c.loop-i.i ≡ length (table_of c.args.words.now) = omega (arith, table_length c.args.words.now) in
    c.loop-i.invariant.bytes
    ∙ ap (λ (z : ℕ). c.args.page.now ++ rows_printed (table_of c.args.words.now) (state_of c.args.state.now) z) e
