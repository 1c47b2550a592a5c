-- The pieces of a whole print: the state after the run, and the verdict, two lines and the rows as one.
use mathlib.Core.List.{List, ◌++◌, append_assoc}
use mathlib.Core.Path.{◌≡◌, ap, ◌∙◌}
use Prim.Native.Nat.{ℕ, ◌≤◌}
use native.Mathlib.Omega.{arith}
use lib.ListN.{length, get_or, replicate}
use Rattle.law.specs.Table.{Task, table_of}
use Rattle.law.specs.Text.{lines}
use Rattle.law.specs.Tick.{State, fresh, run, clock_end}
use Rattle.law.specs.State.{state_of, laid, tasks_of, fresh_words, run_words}
use Rattle.law.specs.Report.{ticks_key, idle_key, verdict_printed, rows_printed, state_printed}
use Rattle.law.proofs.Table.{checked_accepted}
use Rattle.law.proofs.Ticks.{run_tasks, run_sound}
use Rattle.law.proofs.Fresh.{fresh_sound, fresh_tasks}
use Rattle.rows.specs.Said.{Held}
use Rattle.rows.proofs.Words.{says}
use Rattle.tick.proofs.Chain.{held_as, idle_word}
use Rattle.dispatch.proofs.Begun.{begun_run}
use Rattle.line.specs.Put.{line_of}
use Rattle.report.specs.Said.{Good}

-- the state after the run
module _ {words : List ℕ} (good : Good words) (n : ℕ) (early : n ≤ clock_end) {first state : List ℕ}
    (f : first ≡ fresh_words words (replicate 643 0)) (r : state ≡ run_words first n) where
  pub after_laid : state ≡ laid (run n (fresh (table_of words)))
  after_laid = r ∙ ap (λ (z : List ℕ). run_words z n) f ∙ begun_run words good.values good.is n early

  pub after_is : state_of state ≡ run n (fresh (table_of words))
  after_is = says (run n (fresh (table_of words))) after_laid

  pub after_held : Held 0 state
  unfolding fresh
  after_held =
      held_as (run n (fresh (table_of words))) after_laid
      (run_sound n (fresh (table_of words)) (fresh_sound (table_of words) (checked_accepted words good.values good.is).table) (omega arith))

  pub after_tasks : tasks_of (state_of state).rows ≡ table_of words
  unfolding fresh
  after_tasks = ap (λ (z : State). tasks_of z.rows) after_is ∙ run_tasks n (fresh (table_of words)) ∙ fresh_tasks (table_of words)

  pub after_idle : get_or state 2 0 ≡ (run n (fresh (table_of words))).idle
  after_idle = idle_word state ∙ ap (λ (z : State). z.idle) after_is

  pub idle_small : get_or state 2 0 ≤ 4294967295
  idle_small = omega (arith, idle_word state, after_held.sound.idle, after_held.sound.time)

-- the pieces are the whole
pub whole_printed : (tasks : List Task) (n : ℕ) (s : State) {idle : ℕ} → idle ≡ s.idle
    → ((verdict_printed tasks ++ line_of ticks_key n) ++ line_of idle_key idle) ++ rows_printed tasks s (length tasks) ≡ state_printed tasks n s
unfolding state_printed lines line_of
whole_printed tasks n s i = rw i (simp append_assoc)
