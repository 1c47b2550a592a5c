-- `tick::advance_one` meets its contract: a row without a live job waits on, one whose job keeps work and time goes on, and any other is settled.
use mathlib.Core.Path.{◌≡◌, sym, ap, ◌∙◌, subst}
use Prim.Native.Nat.{ℕ, ◌-◌, ◌≤◌}
use lib.ListN.{get_or, set}
use Rattle.law.specs.Sums.{bit}
use Rattle.law.specs.Tick.{Row, no_row, work_after}
use Rattle.law.specs.State.{row_of, state_of, laid, with_row, words_of}
use Rattle.law.proofs.Laid.{going}
use Rattle.rows.proofs.Cases.{waited, is_resting, is_running, rests, goes_on_lem}
use Rattle.rows.proofs.Words.{row_read, wait_put, going_put}
use Rattle.tick.proofs.advance_one.Goals.{After-word-left, After-word-wait, After-word-work}
use Rattle.tick.proofs.advance_one.Goals as goal

-- the words read are its wait, work and time left
wait_read : (c : After-word-wait) → c.word-wait.result ≡ (get_or (state_of c.args.words.now).rows c.args.i no_row).core.wait
unfolding row_of
wait_read c = c.word-wait.ensures ∙ ap (λ (z : Row). z.core.wait) (row_read _ _ c.requires.1)

work-read : (c : After-word-work) → c.word-work.result ≡ (get_or (state_of c.args.words.now).rows c.args.i no_row).core.work
unfolding row_of
work-read c = c.word-work.ensures ∙ ap (λ (z : Row). z.core.work) (row_read _ _ c.requires.1)

left-read : (c : After-word-left) → c.word-left.result ≡ (get_or (state_of c.args.words.now).rows c.args.i no_row).core.left
unfolding row_of
left-read c = c.word-left.ensures ∙ ap (λ (z : Row). z.core.left) (row_read _ _ c.requires.1)

pub overflow_sub-wait : goal.overflow_sub-wait
overflow_sub-wait c = subst (λ (z : ℕ). 1 ≤ z) (sym (wait_read c)) c.requires.2.sound.core.wait_low

pub returns-then-work-eq0 : goal.returns-then-work-eq0
unfolding words_of
returns-then-work-eq0 c =
    let r = get_or (state_of c.args.words.now).rows c.args.i no_row in
    c.put_wait.ensures
    ∙ wait_put c.requires.0 c.args.i _ (waited r) c.requires.1 (ap (λ (z : ℕ). set (words_of r) 7 (z - 1)) (sym (wait_read (goal.at.returns-then-work-eq0 c).After-word-wait)))
    ∙ ap (λ (z : Row). laid (with_row (state_of c.args.words.now) c.args.i z))
    (rests c.args.chosen r (is_resting c.requires.2.sound.core (sym (work-read (goal.at.returns-then-work-eq0 c).After-word-work) ∙ c.if-work-eq0.true)))

pub overflow_sub-left : goal.overflow_sub-left
overflow_sub-left c =
    let q = is_running c.requires.2.sound.core (λ e. c.if-work-eq0.false (work-read (goal.at.overflow_sub-left c).After-word-work ∙ e)) in
    subst (λ (z : ℕ). 1 ≤ z) (sym (left-read (goal.at.overflow_sub-left c).After-word-left)) q.left_low

pub returns : goal.returns
returns c =
    let r = get_or (state_of c.args.words.now).rows c.args.i no_row in
    let chosen = c.args.chosen in
    let worked : c.worked-rest.result ≡ work_after chosen r.core = c.worked-rest.ensures ∙ ap (λ (z : ℕ). z - bit chosen) (work-read (goal.at.returns c).After-word-work) in
    c.put_going.ensures ∙ going_put c.requires.0 c.args.i _ _ _ c.requires.1
    ∙ ap (λ (z : Row). laid (with_row (state_of c.args.words.now) c.args.i z))
    (ap (λ (z : ℕ). going r (z - 1) c.worked-rest.result (c.word-left.result - 1)) (wait_read (goal.at.returns c).After-word-wait)
    ∙ goes_on_lem chosen r (is_running c.requires.2.sound.core (λ e. c.if-work-eq0.false (work-read (goal.at.returns c).After-word-work ∙ e)))
    (λ e. c.if-rest-eq0.false (worked ∙ e)) (λ e. c.if-left-eq1.false (left-read (goal.at.returns c).After-word-left ∙ e)) _ _ worked (ap (λ (z : ℕ). z - 1) (left-read (goal.at.returns c).After-word-left)))
