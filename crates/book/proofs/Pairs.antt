-- The tests of a pair, each by what it leads to; and a pair once tested: one that was taken is in range, and answers as the pair itself; one that
-- was refused is refused so, whatever is asked of it.
use mathlib.Core.List.{[], ◌∷◌}
use mathlib.Core.Path.{◌≡◌, sym}
use Prim.Native.Nat.{ℕ}
use Rattle.law.specs.Refusal.{Answer, accepted}
use Rattle.law.specs.Pattern.{InRange, pair_checked}
use Rattle.law.proofs.Question.{in_range, pair_k, pair_m, pair_good, pair_refused, pair_accepted, pair_is}
use Rattle.refusal.specs.Shown.{shown}
use Rattle.refusal.specs.declared.Refusal.{Refusal}
use Rattle.book.specs.declared.Pair.{Pair}

pub ruleset tests = (in_range, pair_k, pair_m, pair_good)

pub good_range : (m k : ℕ) (p : Pair) → accepted (p.m ∷ p.k ∷ []) ≡ pair_checked m k (accepted (m ∷ k ∷ [])) → InRange m k
good_range m k p e = (pair_accepted m k _ _ (sym e)).0

pub taken_so : (m k : ℕ) (p : Pair) (next : Answer) → accepted (p.m ∷ p.k ∷ []) ≡ pair_checked m k (accepted (m ∷ k ∷ []))
    → pair_checked m k next ≡ next
taken_so m k p next e = pair_is m k next (good_range m k p e)

pub refused_so : (m k : ℕ) (r : Refusal) (next : Answer) → shown r ≡ pair_checked m k (accepted (m ∷ k ∷ [])) → pair_checked m k next ≡ shown r
refused_so m k r next e = pair_refused m k _ _ _ next (sym e)

pub ruleset tested = (taken_so, refused_so)
