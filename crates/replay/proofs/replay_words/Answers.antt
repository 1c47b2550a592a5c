-- `replay::replay_words` meets its contract: what may not run is handed back; the replay is made on a copy, which is handed back if it is not refused.
use mathlib.Core.List.{List, []}
use mathlib.Core.Path.{◌≡◌, sym, ap, ◌∙◌, subst}
use Prim.Native.Nat.{ℕ, ◌+◌, ◌≤◌}
use native.Mathlib.Omega.{arith}
use Rattle.law.specs.Refusal.{accepted}
use Rattle.law.specs.Tick.{clock_end}
use Rattle.law.specs.State.{state_of, laid, run_answer}
use Rattle.law.specs.Replay.{replayed, replay_told}
use Rattle.law.proofs.RunAnswers.{run_well_formed, run_early}
use Rattle.law.proofs.Replay.{replay_refused, replay_told_lem, replay_bad, replay_done}
use Rattle.rows.specs.Said.{Held, Fetched}
use Rattle.rows.proofs.Words.{words_long}
use Rattle.tick.proofs.Chain.{time_word}
use Rattle.refusal.specs.Shown.{done}
use Rattle.replay.proofs.Passed.{replay_passed_on}
use Rattle.dispatch.proofs.Saved.{saved_held}
use Rattle.replay.specs.Shown.{replayed_shown}
use Rattle.replay.proofs.replay_words.Goals.{After-replay_ticks, In_ok-may_run}
use Rattle.replay.proofs.replay_words.Goals as goal

-- the words are a state, and the clock allows the ticks
allowed : (c : In_ok-may_run) → run_answer c.args.words.now c.args.n ≡ accepted []
allowed c = sym c.may_run.ensures ∙ ap done c.in_ok-may_run.was

held : (c : In_ok-may_run) → Held 0 c.args.words.now
held c = saved_held _ (run_well_formed _ c.args.n [] (allowed c))

-- what the replay on the copy says
told : (c : After-replay_ticks) → replayed_shown c.replay_ticks.result
    ≡ replay_told c.args.log.now c.args.n (state_of c.args.words.now)
told c =
    let s = c.args in
    c.replay_ticks.ensures.answer ∙ ap (λ (z : List ℕ). replay_told s.log.now c.from.result (state_of z)) c.copy_from_slice.ensures.after
    ∙ ap (λ (n : ℕ). replay_told s.log.now n (state_of s.words.now)) c.from.ensures

pub returns-in_err-may_run : goal.returns-in_err-may_run
returns-in_err-may_run c =
    let s = c.args in
    let e = replay_refused s.words.now s.n s.log.now _ _ (sym c.may_run.ensures ∙ ap done c.in_err-may_run.was) in
    record { answer = replay_passed_on _ _ c.from_residual.ensures.1 ∙ sym e.0; words = sym e.1 }

pub fetch-patterns-requires : goal.fetch-patterns-requires
fetch-patterns-requires c = held (goal.at.fetch-patterns-requires c).In_ok-may_run

pub copy_from_slice-requires : goal.copy_from_slice-requires
copy_from_slice-requires c = sym (words_long (held (goal.at.copy_from_slice-requires c).In_ok-may_run).laid)

pub replay_ticks-requires : goal.replay_ticks-requires
replay_ticks-requires c =
    let w = c.args.words.now in
    let o = sym c.copy_from_slice.ensures.after in (
      subst (Held 0) o (held (goal.at.replay_ticks-requires c).In_ok-may_run),
      subst (λ (z : List ℕ). (state_of z).time + c.from.result ≤ clock_end) o (omega (arith, c.from.ensures, time_word w, run_early w c.args.n [] (allowed (goal.at.replay_ticks-requires c).In_ok-may_run))),
      subst (λ (z : List ℕ). Fetched (state_of z).rows c.fetch-patterns.result) o c.fetch-patterns.ensures.0,
    )

pub returns-in_err-progress : goal.returns-in_err-progress
returns-in_err-progress c =
    let s = c.args in
    let e = sym (told (goal.at.returns-in_err-progress c).After-replay_ticks) ∙ ap replayed_shown c.in_err-progress.was in
    record { answer = replay_passed_on _ _ c.from_residual-in_err-progress.ensures.1 ∙ sym (replay_told_lem s.words.now s.n s.log.now (allowed (goal.at.returns-in_err-progress c).In_ok-may_run) ∙ e); words = sym (replay_bad s.words.now s.n s.log.now (allowed (goal.at.returns-in_err-progress c).In_ok-may_run) _ _ e) }

pub returns : goal.returns
returns c =
    let s = c.args in
    let shows = ap replayed_shown c.in_ok-progress.was in
    let e = sym (told (goal.at.returns c).After-replay_ticks) ∙ shows in record {
      answer = sym (replay_told_lem s.words.now s.n s.log.now (allowed (goal.at.returns c).In_ok-may_run) ∙ e);
      words = c.copy_from_slice-2.ensures.after ∙ c.replay_ticks.ensures.words.is _ shows
          ∙ ap (λ (z : List ℕ). laid (replayed s.log.now c.from.result (state_of z)).state) c.copy_from_slice.ensures.after
          ∙ ap (λ (n : ℕ). laid (replayed s.log.now n (state_of s.words.now)).state) c.from.ensures
          ∙ sym (replay_done s.words.now s.n s.log.now (allowed (goal.at.returns c).In_ok-may_run) _ e);
    }
