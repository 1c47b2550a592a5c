-- How long the room is, over variables: a long literal is not unfolded.
use Rattle.std.proofs.Common.{◌≡◌, ℕ, sym, length, replicate}
use Rattle.std.proofs.lemmas.List.{length-replicate}
use Rattle.vectors.proofs.large_room.Goals as goal

long : (n byte : ℕ) → n ≡ length (replicate n byte)
long n byte = sym (length-replicate n byte)

pub returns : goal.returns
returns c = long 589824 0
