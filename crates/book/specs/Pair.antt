-- How the answer of the tests of a pair is read: the pair, m first; or the refusal.
use Rattle.std.specs.Prelude.{[], ◌∷◌, Result, Ok, Err}
use Rattle.law.specs.Refusal.{Answer, accepted}
use Rattle.refusal.specs.Shown.{shown}
use Rattle.refusal.specs.declared.Refusal.{Refusal}
use Rattle.book.specs.declared.Pair.{Pair}

abbrev pub pair_shown : Result Pair Refusal → Answer
pair_shown (Ok p) = accepted (p.m ∷ p.k ∷ [])
pair_shown (Err r) = shown r
