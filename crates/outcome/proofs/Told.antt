-- What was written to the two streams is what is to stand there once an answer is told.
use Rattle.std.proofs.Common.{◌≡◌, ℕ, ◌+◌, ◌≤◌, Bool, true, false, eqb, List, [], ◌∷◌, Result, Ok, Err, length, map, ap, ap₂, refl, sym, arith}
use native.Mathlib.Nat.{zero-add}
use Rattle.law.specs.Sums.{pick}
use Rattle.law.specs.Refusal.{Answer, head, after}
use Rattle.law.specs.Reading.{put_answer}
use Rattle.law.specs.Carry.{error_of}
use Rattle.law.specs.Report.{refusal_printed, placed}
use Rattle.law.proofs.TextAnswers.{put_says}
use Rattle.law.proofs.TextSmall.{also_in}
use Rattle.law.proofs.Verdict.{after_accepted}
use Rattle.refusal.specs.declared.Refusal.{Refusal}
use Rattle.refusal.specs.Shown.{number_of, also_of, shown, answered}
use Rattle.outcome.specs.Tellable.{Tellable}

-- a place that counts from byte 0 stays as it is
placed_zero : (n : ℕ) (also : List ℕ) → placed 0 n also ≡ also
placed_zero n also = by (eqb n 12)
  where
    same : (xs : List ℕ) → map (λ j. 0 + j) xs ≡ xs
    same [] = refl
    same (x ∷ xs) = ap₂ (λ y ys. y ∷ ys) (zero-add x) (same xs)

    by : (b : Bool) → pick b (map (λ j. 0 + j) also) also ≡ also
    by true = same also
    by false = refl

-- a refusal that is put with places from byte 0 on is what is to stand on standard error
pub said : (r : Refusal) → refusal_printed (number_of r) (placed 0 (number_of r) (also_of r)) ≡ error_of (shown r)
said r = ap (refusal_printed (number_of r)) (placed_zero (number_of r) (also_of r))

-- what a conversion answers can be told: the text that it put lies within the room
pub tellable : (a : Result ℕ Refusal) (first : Answer) (text left : List ℕ) (room : ℕ)
    → answered a ≡ after first (put_answer text room) → length left ≡ room → also_in (after first (put_answer text room)) ≤ 1836 → Tellable a left
tellable (Ok n) first text left room e long small =
    let p = put_says text room (after_accepted first _ _ (sym e)).2 in
    record { small = omega arith; fits = omega (arith, p.0, ap head p.1, long) }
tellable (Err r) first text left room e long small =
    record { small = omega (arith, small, ap also_in e); fits = omega arith }
