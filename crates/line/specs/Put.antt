-- What is put into a lent run of bytes.
use Rattle.std.specs.Prelude.{List, [], ◌∷◌, ◌++◌, ℕ, ◌+◌, length, take, drop}
use Rattle.law.specs.Reading.{decimal}

-- a run of bytes with a piece at a place, and the bytes before and after as they were
unfoldable pub put_at : List ℕ → ℕ → List ℕ → List ℕ
put_at old at piece = take at old ++ (piece ++ drop (at + length piece) old)

-- the line of a key, with a number as its value
unfoldable pub line_of : List ℕ → ℕ → List ℕ
line_of key v = key ++ (decimal v ++ (10 ∷ []))
