-- What can be told: a text of no more bytes than there are, or a refusal whose row or place is small.
use Rattle.std.specs.Prelude.{List, ℕ, ◌≤◌, length, Result, Ok, Err}
use Rattle.law.specs.Refusal.{head}
use Rattle.law.specs.Carry.{out_of}
use Rattle.refusal.specs.declared.Refusal.{Refusal}
use Rattle.refusal.specs.Shown.{also_of, answered}

-- a row or place of 32 bits, where there is one
abbrev pub Small : Result ℕ Refusal → Type 0
Small (Ok n) = 0 ≤ 0
Small (Err r) = head (also_of r) ≤ 4294967295

pub record Tellable (answer : Result ℕ Refusal) (text : List ℕ) : Type 0 where
  pub small : Small answer
  pub fits : out_of (answered answer) ≤ length text
