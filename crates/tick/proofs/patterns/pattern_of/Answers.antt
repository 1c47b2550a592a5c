-- `tick::patterns::pattern_of` meets its contract: each kind of pattern has its word.
use mathlib.Core.Path.{◌≡◌, sym, ap, ◌∙◌, subst}
use Rattle.law.specs.Table.{Ranged, word_of}
use Rattle.law.specs.Tick.{Row, core_at}
use Rattle.law.specs.State.{state_of}
use Rattle.law.proofs.Red.{word_red, word_even}
use Rattle.table.specs.Said.{task_said}
use Rattle.rows.proofs.Words.{row_read}
use Rattle.tick.proofs.patterns.pattern_of.Goals.{After-task_of-task}
use Rattle.tick.proofs.patterns.pattern_of.Goals as goal

-- the task that is read is the row's, so it is in range
task-read : (c : After-task_of-task) → task_said c.task_of-task.result ≡ (core_at (state_of c.args.words.now).rows c.args.i).task
task-read c = c.task_of-task.ensures ∙ ap (λ (z : Row). z.core.task) (row_read _ c.args.i c.requires.1)

ranged : (c : After-task_of-task) → Ranged (task_said c.task_of-task.result)
ranged c = subst Ranged (sym (task-read c)) (c.requires.0.sound.rows c.args.i c.requires.1).core.ranged

pub returns-then-task-eq-RED : goal.returns-then-task-eq-RED
returns-then-task-eq-RED c =
    let t = (goal.at.returns-then-task-eq-RED c).After-task_of-task in
    c.low_bits.ensures ∙ sym (word_red _ (ranged t) c.if-task-eq-RED.true) ∙ ap word_of (task-read t)

pub returns : goal.returns
returns c =
    c.word.ensures ∙ sym (word_even (task_said c.task_of-task.result) c.if-task-eq-RED.false) ∙ ap word_of (task-read (goal.at.returns c).After-task_of-task)
