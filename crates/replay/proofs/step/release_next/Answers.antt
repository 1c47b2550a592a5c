-- `replay::step::release_next` meets its contract: a row that waits stays; else its number is in range and it is released with it, or it is not.
use mathlib.Core.Bool.{true, false}
use mathlib.Core.Path.{◌≡◌, sym, ap, ◌∙◌}
use mathlib.Core.List.{[], ◌∷◌}
use Prim.Native.Nat.{ℕ}
use native.Mathlib.Omega.{arith}
use lib.ListN.{get_or}
use Rattle.law.specs.Refusal.{within, accepted}
use Rattle.law.specs.Tick.{no_row, core_at}
use Rattle.law.specs.State.{state_of}
use Rattle.rows.proofs.Cases.{waits_on}
use Rattle.rows.proofs.Words.{row_kept}
use Rattle.replay.proofs.Read.{wait_read, c_read, fits_waiting, unfit_due, due_bit, waiting_bit}
use Rattle.replay.proofs.step.release_next.Goals.{After-is_within, After-word, Else-word-ne0}
use Rattle.replay.proofs.step.release_next.Goals as goal

-- the row's wait, as it was read
wait : (c : After-word) → c.word.result ≡ (core_at (state_of c.args.words.now).rows c.args.i).wait
wait c = wait_read _ _ c.requires.1 _ c.word.ensures

due : (c : Else-word-ne0) → (core_at (state_of c.args.words.now).rows c.args.i).wait ≡ 0
due c = sym (wait_read _ _ c.requires.1 _ c.word.ensures) ∙ c.if-word-ne0.false

ranged : (c : After-is_within) → c.is_within.result
    ≡ within 1 (core_at (state_of c.args.words.now).rows c.args.i).task.c (get_or c.args.log.now c.args.next 0)
ranged c =
    c.is_within.ensures
    ∙ ap (within 1 c.word-2.result) c.from-work.ensures
    ∙ ap (λ (z : ℕ). within 1 z (get_or c.args.log.now c.args.next 0)) (c_read _ _ c.requires.1 _ c.word-2.ensures)

pub returns-then-word-ne0 : goal.returns-then-word-ne0
returns-then-word-ne0 c =
    let log = c.args.log.now in
    let r = get_or (state_of c.args.words.now).rows c.args.i no_row in
    let waits : r.core.wait ≡ 0 → ⊥ = λ e. c.if-word-ne0.true (wait (goal.at.returns-then-word-ne0 c).After-word ∙ e) in record {
      next = rw (fits_waiting log c.args.next r.core waits) (ap (λ (z : ℕ). accepted (z ∷ [])) (omega (arith, waiting_bit r.core waits)));
      words = rw (fits_waiting log c.args.next r.core waits) (row_kept c.requires.0 c.args.i _ (sym (waits_on (get_or log c.args.next 0) r waits)));
    }

pub returns-then-not-is_within : goal.returns-then-not-is_within
returns-then-not-is_within c =
    let core = core_at (state_of c.args.words.now).rows c.args.i in
    let bad = unfit_due c.args.log.now c.args.next core (due (goal.at.returns-then-not-is_within c).Else-word-ne0) false (sym (ranged (goal.at.returns-then-not-is_within c).After-is_within) ∙ c.if-not-is_within.true) in
    record { next = rw bad; words = rw bad }

pub returns : goal.returns
returns c =
    let core = core_at (state_of c.args.words.now).rows c.args.i in
    let now = due (goal.at.returns c).Else-word-ne0 in
    let good = unfit_due c.args.log.now c.args.next core now true (sym (ranged (goal.at.returns c).After-is_within) ∙ c.if-not-is_within.false) in
    record { next = rw good (ap (λ (z : ℕ). accepted (z ∷ [])) (omega (arith, due_bit core now))); words = rw (good, ← c.from-work.ensures) c.release_row.ensures }
