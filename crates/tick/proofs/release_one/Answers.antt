-- `tick::release_one` meets its contract: a row that waits stays as it is; else it is released with its C.
use mathlib.Core.Path.{◌≡◌, sym, ap, ◌∙◌}
use Prim.Native.Nat.{ℕ}
use lib.ListN.{get_or}
use Rattle.law.specs.Table.{task_of}
use Rattle.law.specs.Tick.{Row, no_row, release_row}
use Rattle.law.specs.State.{row_of, state_of, laid, with_row}
use Rattle.rows.proofs.Cases.{waits_on}
use Rattle.rows.proofs.Words.{row_read, row_kept}
use Rattle.tick.proofs.release_one.Goals.{After-word, After-word-work}
use Rattle.tick.proofs.release_one.Goals as goal

-- the row's wait, as it was read
wait_read : (c : After-word) → c.word.result ≡ (get_or (state_of c.args.words.now).rows c.args.i no_row).core.wait
unfolding row_of
wait_read c = c.word.ensures ∙ ap (λ (z : Row). z.core.wait) (row_read _ _ c.requires.1)

-- and its C
work-read : (c : After-word-work) → c.word-work.result ≡ (get_or (state_of c.args.words.now).rows c.args.i no_row).core.task.c
unfolding row_of task_of
work-read c = c.word-work.ensures ∙ ap (λ (z : Row). z.core.task.c) (row_read _ _ c.requires.1)

pub returns-then-word-ne0 : goal.returns-then-word-ne0
returns-then-word-ne0 c =
    let w = c.args.words.now in
    let r = get_or (state_of w).rows c.args.i no_row in
    row_kept c.requires.0 c.args.i _ (sym (waits_on r.core.task.c r (λ e. c.if-word-ne0.true (wait_read (goal.at.returns-then-word-ne0 c).After-word ∙ e))))

pub release_row-requires : goal.release_row-requires
release_row-requires c =
    (c.requires.0, c.requires.1, c.requires.2, sym (wait_read (goal.at.release_row-requires c).After-word) ∙ c.if-word-ne0.false, c.requires.3)

pub returns : goal.returns
returns c =
    let w = c.args.words.now in
    c.release_row.ensures
    ∙ ap (λ (z : ℕ). laid (with_row (state_of w) c.args.i (release_row z (get_or (state_of w).rows c.args.i no_row)))) (work-read (goal.at.returns c).After-word-work)
