-- The digest stays below the number that it is taken by.
use Rattle.std.proofs.Common.{◌<◌}
use Rattle.vectors.proofs.show.digest.Given as goal

abbrev pub invariant-loop-word : goal.invariant-loop-word
invariant-loop-word l = l.sum < 4294967291
