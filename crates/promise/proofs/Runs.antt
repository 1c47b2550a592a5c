-- What the functions hand back is the run that the theory speaks of: from the fresh words of an accepted table, every run up to the clock's end
-- is made, and its words say the state after so many ticks.
use mathlib.Core.List.{List, []}
use mathlib.Core.Path.{◌≡◌, ap, ◌∙◌}
use Prim.Native.Nat.{ℕ, ◌+◌, ◌-◌, ◌*◌, ◌≤◌}
use native.Mathlib.Omega.{arith}
use Rattle.law.specs.Refusal.{accepted}
use Rattle.law.specs.Table.{table_of, checked}
use Rattle.law.specs.Tick.{State, fresh, run, clock_end}
use Rattle.law.specs.State.{state_of, run_answer, run_words}
use Rattle.law.specs.Promise.{state_after, settling, is_met, took}
use Rattle.law.proofs.First.{first_same}
use Rattle.law.proofs.Laid.{state_laid}
use Rattle.dispatch.proofs.Begun.{begun_runs, begun_run, begun_pieces}
use Rattle.promise.specs.Promised.{begun, seen_at, row_in, took_ticks, deadline_of}

module _ (table vs : List ℕ) (good : checked table ≡ accepted vs) where
  pub runs : (t : ℕ) → t ≤ clock_end → run_answer (begun table) t ≡ accepted []
  unfolding begun
  runs t h = begun_runs table vs good t h

  pub in_pieces : (t u : ℕ) → t + u ≤ clock_end → run_words (run_words (begun table) t) u ≡ run_words (begun table) (t + u)
  unfolding begun
  in_pieces t u h = begun_pieces table vs good t u h

  -- the words say the state after t ticks
  pub seen_is : (t : ℕ) → t ≤ clock_end → seen_at table t ≡ state_after (table_of table) t
  unfolding seen_at state_after begun
  seen_is t h = ap state_of (begun_run table vs good t h) ∙ state_laid (run t (fresh (table_of table)))

  -- so a job whose deadline has come by the clock's end took what the theory says
  pub took_is : (i a : ℕ) → deadline_of table i a ≤ clock_end → took_ticks table i a ≡ took (table_of table) i a
  unfolding took
  took_is i a h =
      first_same _ _ 1 (row_in table i).d
      (λ n l q. ap (λ (z : State). is_met (settling z i)) (seen_is (a * (row_in table i).t + n - 1) (omega arith)))
