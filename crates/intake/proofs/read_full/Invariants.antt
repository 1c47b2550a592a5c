-- What was filled so far is what was read so far.
use Rattle.std.proofs.Common.{◌≤◌, length, take}
use Rattle.std.specs.Io.KnownBytes.{Consumes}
use Rattle.intake.proofs.read_full.Given as goal

abbrev pub invariant-loop : goal.invariant-loop
invariant-loop g l = record {
  within : l.filled ≤ length l.room;
  read : Consumes (g.R.Read.remaining l.initial.from) (g.R.Read.remaining l.from) (take l.filled l.room);
}
