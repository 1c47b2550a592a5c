-- `replay::step::due_rows` meets its contract: of the rows passed, those with wait 0 are counted.
use mathlib.Core.List.{List}
use mathlib.Core.Path.{◌≡◌, refl, sym, ap, ◌∙◌}
use Prim.Native.Nat.{ℕ, ◌+◌, ◌≤◌, ◌<◌}
use native.Mathlib.Numerals.{add-one}
use native.Mathlib.Omega.{arith}
use lib.Dec.{eqb}
use lib.ListN.{length}
use Rattle.law.specs.Sums.{bit}
use Rattle.law.proofs.Tests.{bit_most}
use Rattle.tick.proofs.Chain.{byte_bit}
use Rattle.law.specs.Tick.{core_at, due as is_due}
use Rattle.law.specs.Replay.{releases}
use Rattle.law.specs.State.{state_of}
use Rattle.law.proofs.Replay.{releases_none, releases_next, releases_most}
use Rattle.replay.proofs.Read.{wait_read}
use Rattle.replay.proofs.step.due_rows.Invariants.{Counted}
use Rattle.replay.proofs.step.due_rows.Goals as goal

module _ {words : List ℕ} {rows due i : ℕ} (n : Counted words rows due i) where
  counted_next : i < rows → (x : ℕ) → x ≡ bit (is_due (core_at (state_of words).rows i)) → Counted words rows (due + x) (i + 1)
  counted_next h x e =
      record {
        laid = n.laid;
        total = n.total;
        reached = omega arith;
        is = rw (add-one i) (omega (arith, n.is, e, releases_next (state_of words).rows i));
      }

  counted-all : rows ≤ i → due ≡ releases (state_of words).rows (length (state_of words).rows)
  counted-all h = let e : i ≡ length (state_of words).rows = omega (arith, n.total, n.reached) in n.is ∙ ap (releases (state_of words).rows) e

pub loop-i-init : goal.loop-i-init
loop-i-init c =
    let p = c.requires in
    record { laid = p; total = refl; reached = omega arith; is = sym (releases_none _) }

pub overflow_add-due : goal.overflow_add-due
overflow_add-due c =
    let l = c.loop-i in
    omega (arith, l.invariant.is, releases_most (state_of c.args.words.now).rows l.i, l.invariant.total, l.invariant.laid.few, c.from-due.ensures, byte_bit (eqb c.word.result 0), bit_most (eqb c.word.result 0))

pub loop-i-preserved : goal.loop-i-preserved
loop-i-preserved c =
    let l = c.loop-i in
    let w = c.args.words.now in
    let h : l.i < length (state_of w).rows = omega (arith, c.loop-i-test.true, c.rows_of-i-end.ensures) in
    let wait = wait_read w l.i h _ c.word.ensures in
    counted_next l.invariant h _ (c.from-due.ensures ∙ byte_bit (eqb c.word.result 0) ∙ ap (λ (z : ℕ). bit (eqb z 0)) wait)
