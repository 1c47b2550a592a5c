-- `dispatch::run::run_words` meets its contract: what may not run is handed back, and the ticks are the law's run.
use mathlib.Core.List.{[]}
use mathlib.Core.Path.{◌≡◌, sym, ap, ◌∙◌}
use native.Mathlib.Omega.{arith}
use Rattle.law.specs.Refusal.{accepted}
use Rattle.law.specs.State.{run_answer}
use Rattle.law.proofs.RunAnswers.{run_well_formed, run_early}
use Rattle.rows.specs.Said.{Held}
use Rattle.tick.proofs.Chain.{time_word}
use Rattle.refusal.specs.Shown.{done}
use Rattle.refusal.proofs.Passed.{done_on}
use Rattle.dispatch.proofs.Saved.{saved_held, run_refused, run_done}
use Rattle.dispatch.proofs.run.run_words.Goals.{In_ok-may_run}
use Rattle.dispatch.proofs.run.run_words.Goals as goal

-- the words are a state, and the clock allows the ticks
allowed : (c : In_ok-may_run) → run_answer c.args.words.now c.args.n ≡ accepted []
allowed c = sym c.may_run.ensures ∙ ap done c.in_ok-may_run.was

held : (c : In_ok-may_run) → Held 0 c.args.words.now
held c = saved_held _ (run_well_formed _ c.args.n [] (allowed c))

pub returns-in_err-may_run : goal.returns-in_err-may_run
returns-in_err-may_run c =
    let s = c.args in
    let e = sym c.may_run.ensures ∙ ap done c.in_err-may_run.was in
    record { answer = done_on _ _ c.from_residual.ensures.1 ∙ sym e; words = sym (run_refused s.words.now s.n _ _ e) }

pub fetch-patterns-requires : goal.fetch-patterns-requires
fetch-patterns-requires c = held (goal.at.fetch-patterns-requires c).In_ok-may_run

pub ticks-requires : goal.ticks-requires
ticks-requires c =
    let w = c.args.words.now in
    (held (goal.at.ticks-requires c).In_ok-may_run, omega (arith, time_word w, run_early w c.args.n [] (allowed (goal.at.ticks-requires c).In_ok-may_run)), c.fetch-patterns.ensures.0)

pub returns : goal.returns
returns c =
    let w = c.args.words.now in
    let good = run_well_formed w c.args.n [] (allowed (goal.at.returns c).In_ok-may_run) in
    record { answer = sym (allowed (goal.at.returns c).In_ok-may_run); words = rw (← c.from.ensures) c.ticks.ensures ∙ sym (run_done w c.args.n good (run_early w c.args.n [] (allowed (goal.at.returns c).In_ok-may_run))).1 }
