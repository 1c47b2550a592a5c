-- `tally::spare` meets its contract: the newest marks are taken in, and spare is still to come, from the number of the others down.
use mathlib.Core.Path.{◌≡◌}
use Prim.Native.Nat.{◌-◌}
use Rattle.law.specs.Tick.{marks, still_hold}
use Rattle.law.proofs.First.{SearchedDown}
use Rattle.tally.proofs.spare.Given as goal

abbrev pub invariant-loop-taken : goal.invariant-loop-taken
invariant-loop-taken l = (SearchedDown (still_hold l.m l.k l.window) l.k (l.k - l.taken)) × (l.met ≡ marks l.taken l.window)
