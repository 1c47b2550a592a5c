-- `replay::replay_ticks` meets its contract: each way out of the loop is a case of the law.
use Rattle.law.specs.State.{state_of}
use Rattle.replay.proofs.Walk.{Walk}
use Rattle.replay.proofs.replay_ticks.Given as goal

abbrev pub invariant-loop-done : goal.invariant-loop-done
invariant-loop-done l = Walk l.log l.patterns (state_of l.initial.words) l.words l.n l.used l.done
