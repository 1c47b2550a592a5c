-- What stands on the two streams once an answer is told.
use Rattle.std.specs.Prelude.{List, ℕ, Option, ◌⊎◌, ◌<◌, codes, take}
use Rattle.std.specs.Io.KnownBytes.{Appends}
use Rattle.law.specs.Refusal.{Answer}
use Rattle.law.specs.Carry.{out_of, error_of}

-- said where the text could not be written whole
abbrev pub not_whole : List ℕ
not_whole = codes "not written whole\n"

-- the text and nothing else on the one stream, and the refusal, where there is one, on the other; or, where there is a text, there that it was not
-- written whole
abbrev pub Tells : Answer → List ℕ → Option (List ℕ) → Option (List ℕ) → Option (List ℕ) → Option (List ℕ) → Type 0
Tells a text out out' error error' =
    (Appends out out' (take (out_of a) text) × Appends error error' (error_of a)) ⊎ ((0 < out_of a) × Appends error error' not_whole)
