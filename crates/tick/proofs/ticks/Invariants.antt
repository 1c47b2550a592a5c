-- `tick::ticks` meets its contract: after `done` ticks the words are those of the law's run so far.
use mathlib.Core.List.{List}
use mathlib.Core.Path.{◌≡◌}
use Prim.Native.Nat.{ℕ, ◌+◌, ◌≤◌}
use Rattle.law.specs.Tick.{State, run, clock_end}
use Rattle.law.specs.State.{state_of, laid}
use Rattle.law.specs.Sound.{SoundState}
use Rattle.rows.specs.Said.{Fetched}
use Rattle.tick.proofs.ticks.Given as goal

pub record Ran (s : State) (patterns words : List ℕ) (n done : ℕ) : Type 0 where
  pub sound : SoundState 0 s
  pub early : s.time + n ≤ clock_end
  pub fetched : Fetched s.rows patterns
  pub reached : done ≤ n
  pub is : words ≡ laid (run done s)

abbrev pub invariant-loop-done : goal.invariant-loop-done
invariant-loop-done l = Ran (state_of l.initial.words) l.patterns l.words l.n l._done
