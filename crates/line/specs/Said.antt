-- How what is read of a line is read as the law's.
use Rattle.std.specs.Prelude.{[], ◌∷◌, ℕ, Result, Ok, Err}
use Rattle.law.specs.Reading.{Found, found, fault}
use Rattle.line.specs.declared.read.Line.{Line}
use Rattle.line.specs.declared.read.Fault.{Fault}

-- a line: its value and the place after it, or the place of a fault
abbrev pub said : Result Line Fault → Found
said (Ok line) = found (line.value ∷ []) line.next
said (Err f) = fault f.place

-- the place that a line's answer names
abbrev pub place_of : Result Line Fault → ℕ
place_of (Ok line) = line.next
place_of (Err f) = f.place
