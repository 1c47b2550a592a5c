-- No more numbers are laid than the room has places.
use Rattle.std.proofs.Common.{◌≤◌, length}
use Rattle.vectors.proofs.numbers.numbers_of.Given as goal

abbrev pub invariant-loop-byte : goal.invariant-loop-byte
invariant-loop-byte l = l.count ≤ length l.room
