-- `dispatch::counts::counts_words` meets its contract: the refusals are the law's, and the seven stores are the row's counts.
use mathlib.Core.Bool.{true}
use mathlib.Core.List.{List, ◌++◌}
use mathlib.Core.Path.{◌≡◌, sym, ap, ◌∙◌}
use Prim.Native.Nat.{ℕ}
use lib.ListN.{drop}
use Rattle.law.specs.State.{saved_well}
use Rattle.dispatch.proofs.Saved.{saved_held, counts_ill, counts_short, counts_laid}
use Rattle.dispatch.proofs.counts.counts_words.Goals.{Else-not-is_well}
use Rattle.dispatch.proofs.counts.counts_words.Goals as goal

good : (c : Else-not-is_well) → saved_well c.args.words.now ≡ true
good c = sym c.is_well.ensures ∙ c.if-not-is_well.false

pub returns-then-not-is_well : goal.returns-then-not-is_well
returns-then-not-is_well c =
    let e = counts_ill c.args.words.now c.args.i c.args.room.now (sym c.is_well.ensures ∙ c.if-not-is_well.true) in
    record { answer = sym e.0; room = sym e.1 }

pub returns-then-room-lt-COUNT_WORDS : goal.returns-then-room-lt-COUNT_WORDS
returns-then-room-lt-COUNT_WORDS c =
    let e = counts_short c.args.words.now c.args.i c.args.room.now (good (goal.at.returns-then-room-lt-COUNT_WORDS c).Else-not-is_well) c.if-room-lt-COUNT_WORDS.true in
    record { answer = sym e.0; room = sym e.1 }

pub counts_of-counts-requires : goal.counts_of-counts-requires
counts_of-counts-requires c = saved_held _ (good (goal.at.counts_of-counts-requires c).Else-not-is_well)

pub returns : goal.returns
returns c =
    let e = counts_laid c.args.words.now c.args.i c.args.room.now (good (goal.at.returns c).Else-not-is_well) c.if-room-lt-COUNT_WORDS.false in
    record { answer = sym e.0; room = ap (λ (z : List ℕ). z ++ drop 7 c.args.room.now) (c.copy_from_slice.ensures.after ∙ c.words.ensures ∙ c.counts_of-counts.ensures) ∙ sym e.1 }
