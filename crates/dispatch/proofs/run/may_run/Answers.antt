-- `dispatch::run::may_run` meets its contract: refused states and clocks are those of the law.
use mathlib.Core.Bool.{true}
use mathlib.Core.Path.{◌≡◌, sym, ◌∙◌}
use native.Mathlib.Omega.{arith}
use Rattle.law.specs.State.{saved_well}
use Rattle.rows.specs.Said.{Held}
use Rattle.rows.proofs.Words.{words_long}
use Rattle.tick.proofs.Chain.{time_word}
use Rattle.dispatch.proofs.Saved.{saved_held, run_ill, run_past, run_done}
use Rattle.dispatch.proofs.run.may_run.Goals.{Else-not-is_well}
use Rattle.dispatch.proofs.run.may_run.Goals as goal

good : (c : Else-not-is_well) → saved_well c.args.words.now ≡ true
good c = sym c.is_well.ensures ∙ c.if-not-is_well.false

held : (c : Else-not-is_well) → Held 0 c.args.words.now
held c = saved_held _ (good c)

pub returns-then-not-is_well : goal.returns-then-not-is_well
returns-then-not-is_well c =
    sym (run_ill c.args.words.now c.args.n (sym c.is_well.ensures ∙ c.if-not-is_well.true)).0

pub bounds-words-1 : goal.bounds-words-1
bounds-words-1 c = omega (arith, words_long (held (goal.at.bounds-words-1 c).Else-not-is_well).laid)

pub overflow_add-words : goal.overflow_add-words
overflow_add-words c =
    let h = (held (goal.at.overflow_add-words c).Else-not-is_well).sound in
    omega (arith, time_word c.args.words.now, h.time, c.ranges.n.fits)

pub returns-then-words-asked-gt4294967295 : goal.returns-then-words-asked-gt4294967295
returns-then-words-asked-gt4294967295 c =
    sym (run_past c.args.words.now c.args.n (good (goal.at.returns-then-words-asked-gt4294967295 c).Else-not-is_well) (omega (arith, c.from-asked.ensures, c.if-words-asked-gt4294967295.true))).0

pub returns : goal.returns
returns c =
    sym (run_done c.args.words.now c.args.n (good (goal.at.returns c).Else-not-is_well) (omega (arith, c.from-asked.ensures, c.if-words-asked-gt4294967295.false))).0
