-- How the reader's answers are read as the law's.
use Rattle.std.specs.Prelude.{List, [], ◌∷◌, ℕ, ◌*◌, take, Result, Ok, Err}
use Rattle.law.specs.Reading.{Found, found, fault}
use Rattle.refusal.specs.declared.Refusal.{Refusal}
use Rattle.line.specs.declared.read.Fault.{Fault}

-- a value, and the place that the reader stands at after it; or the place of a fault
abbrev pub value_told : Result ℕ Fault → ℕ → Found
value_told (Ok v) next = found (v ∷ []) next
value_told (Err f) next = fault next

-- a run of lines with these values, and the place that the reader stands at after them; or the place of a fault
abbrev pub told : Result Unit Fault → List ℕ → ℕ → Found
told (Ok u) values next = found values next
told (Err f) values next = fault next

-- the words of a text's rows that stand from the start of these words, so many a row; of a refused text those that were to stand there
abbrev pub stood : Result ℕ Refusal → ℕ → List ℕ → List ℕ → List ℕ
stood (Ok n) width words due = take (n * width) words
stood (Err r) width words due = due
