-- What the routines read of a row: its wait and its C, by the words 7 and 1 of the row.
use mathlib.Core.Bool.{Bool, false, not}
use mathlib.Core.List.{List}
use mathlib.Core.Path.{◌≡◌, ap, ◌∙◌}
use Prim.Native.Nat.{ℕ, ◌+◌, ◌*◌, ◌<◌}
use lib.ListN.{length, get_or}
use Rattle.law.specs.Sums.{bit}
use Rattle.law.specs.Refusal.{within}
use Rattle.law.specs.Table.{task_of}
use Rattle.law.specs.Tick.{Core, Row, core_at, due}
use Rattle.law.specs.State.{row_of, state_of}
use Rattle.law.specs.Replay.{unfit}
use Rattle.law.proofs.Sound.{due_yes, due_no}
use Rattle.rows.proofs.Words.{row_read}

module _ (words : List ℕ) (i : ℕ) (h : i < length (state_of words).rows) (x : ℕ) where
  pub wait_read : x ≡ get_or words (i * 20 + (3 + 7)) 0 → x ≡ (core_at (state_of words).rows i).wait
  unfolding row_of
  wait_read e = e ∙ ap (λ (z : Row). z.core.wait) (row_read words i h)

  pub c_read : x ≡ get_or words (i * 20 + (3 + 1)) 0 → x ≡ (core_at (state_of words).rows i).task.c
  unfolding row_of task_of
  c_read e = e ∙ ap (λ (z : Row). z.core.task.c) (row_read words i h)

-- a number that is not for a job fits; else it does if it is in range
module _ (log : List ℕ) (next : ℕ) (c : Core) where
  pub fits_waiting : (c.wait ≡ 0 → ⊥) → unfit log next c ≡ false
  fits_waiting h = rw (due_no c h)

  pub unfit_due : c.wait ≡ 0 → (b : Bool) → within 1 c.task.c (get_or log next 0) ≡ b → unfit log next c ≡ not b
  unfit_due e b w = rw (due_yes c e, w)

pub due_bit : (c : Core) → c.wait ≡ 0 → bit (due c) ≡ 1
due_bit c e = ap bit (due_yes c e)

pub waiting_bit : (c : Core) → (c.wait ≡ 0 → ⊥) → bit (due c) ≡ 0
waiting_bit c h = ap bit (due_no c h)
