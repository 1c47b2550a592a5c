-- `dispatch::start::fresh_words` meets its contract: each way out is a case of the law, and only the last one writes.
use mathlib.Core.List.{List, [], ◌∷◌, ◌++◌}
use mathlib.Core.Path.{sym, ap, ◌∙◌}
use Prim.Native.Nat.{ℕ}
use lib.ListN.{drop}
use Rattle.law.specs.Refusal.{accepted}
use Rattle.refusal.proofs.Passed.{passed_on}
use Rattle.dispatch.proofs.Saved.{fresh_unchecked, fresh_short, fresh_laid}
use Rattle.dispatch.proofs.start.fresh_words.Goals.{Else-room-lt-STATE_WORDS}
use Rattle.dispatch.proofs.start.fresh_words.Goals as goal

pub returns-in_err-table : goal.returns-in_err-table
returns-in_err-table c =
    let e = fresh_unchecked c.args.table.now c.args.room.now _ _ c.in_err-table.ensures.refused in
    record { answer = passed_on _ _ c.from_residual.ensures.1 ∙ sym e.0; room = sym e.1 }

pub returns-then-room-lt-STATE_WORDS : goal.returns-then-room-lt-STATE_WORDS
returns-then-room-lt-STATE_WORDS c =
    let e = fresh_short c.args.table.now c.args.room.now _ c.in_ok-table.ensures.accepted c.if-room-lt-STATE_WORDS.true in
    record { answer = sym e.0; room = sym e.1 }

pub returns : goal.returns
returns c =
    let room = c.args.room.now in
    let e = fresh_laid c.args.table.now room _ c.in_ok-table.ensures.accepted c.if-room-lt-STATE_WORDS.false in
    let same = c.in_ok-table.ensures.words in
    record {
      answer = ap (λ (n : ℕ). accepted (n ∷ [])) (rw same at c.rows.ensures) ∙ sym e.0;
      room = ap (λ (z : List ℕ). z ++ drop 643 room) (rw same at c.lay_fresh.ensures) ∙ sym e.1;
    }
