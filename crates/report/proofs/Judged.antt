-- The verdict on a good table, as it is printed: the two answers told apart, and the response times and the rooms that stand in runs of zeros.
use mathlib.Core.Bool.{true, false}
use mathlib.Core.List.{List, [], ◌∷◌, ◌++◌}
use mathlib.Core.Path.{◌≡◌, sym, ap, ◌∙◌}
use Prim.Native.Nat.{ℕ, ◌≤◌, ◌<◌}
use native.Mathlib.Decide.{dec_lt}
use native.Mathlib.Omega.{arith}
use lib.ListN.{length, get_or, drop, replicate, length-append, length-replicate, get_or-replicate, get_or-append}
use borrow.Author.Tests.{eqb-true, eqb-false}
use Rattle.law.specs.Refusal.{Answer, accepted, refused, code_of}
use Rattle.law.specs.Table.{table_of, row, Ranged}
use Rattle.law.specs.Verdict.{admitted, misfit, response, responses, verdict, verdict_room}
use Rattle.law.specs.Room.{rooms_lent}
use Rattle.law.specs.Report.{admitted_line, unschedulable_line, at_key, number_lines, verdict_printed, response_printed}
use Rattle.law.proofs.Tests.{passes, fails, known}
use Rattle.law.proofs.First.{build_length, build_at}
use Rattle.law.proofs.Table.{checked_accepted}
use Rattle.law.proofs.Verdict.{misfit_most, verdict_late, verdict_admitted}
use Rattle.law.proofs.Room.{rooms_at, rooms_enough}
use Rattle.report.specs.Said.{Good, Responded, Roomed}

-- what a refusal also returns
also_in : Answer → List ℕ
also_in (accepted vs) = vs
also_in (refused n also) = also

module _ {words : List ℕ} (good : Good words) where
  pub good_few : length (table_of words) ≤ 32
  good_few = (checked_accepted words good.values good.is).table.rows_high

  pub good_ranged : (i : ℕ) → i < length (table_of words) → Ranged (row (table_of words) i)
  good_ranged i h = (checked_accepted words good.values good.is).table.ranged i h

  -- the rooms stand in a run of zeros, whatever the verdict
  pub roomed : Roomed (table_of words) (rooms_lent words (replicate 32 0))
  roomed =
      let long : length (table_of words) ≤ length (replicate {A = ℕ} 32 0) = omega (arith, good_few, length-replicate {A = ℕ} 32 0) in
      record {
        enough = rooms_enough words (replicate 32 0) good.values good.is long;
        at = rooms_at words (replicate 32 0) good.values good.is long;
      }

  module _ (all : admitted (table_of words) ≡ true) where
    fit : misfit (table_of words) ≡ length (table_of words)
    unfolding admitted
    fit = eqb-true _ _ all

    yes_answer : verdict words 32 ≡ accepted (length (table_of words) ∷ [])
    yes_answer =
        ap (verdict words) (sym (length-replicate {A = ℕ} 32 0)) ∙ (verdict_admitted words (replicate 32 0) good.values good.is (omega (arith, good_few, length-replicate {A = ℕ} 32 0)) fit).0

    yes_responded : Responded (table_of words) (verdict_room words (replicate 32 0))
    unfolding responses response_printed
    yes_responded =
        let e = (verdict_admitted words (replicate 32 0) good.values good.is (omega (arith, good_few, length-replicate {A = ℕ} 32 0)) fit).1 in
        let n = build_length (response (table_of words)) (length (table_of words)) in
        record {
          enough = omega (arith, ap length e, length-append (responses (table_of words)) (drop (length (table_of words)) (replicate 32 0)), n);
          at = λ i h. ap (λ (z : List ℕ). get_or z i 0) e
              ∙ get_or-append (responses (table_of words)) _ 0 i (omega (arith, n))
              ∙ build_at (response (table_of words)) (length (table_of words)) i 0 h ∙ rw all;
        }

  module _ (none : admitted (table_of words) ≡ false) where
    late : misfit (table_of words) < length (table_of words)
    unfolding admitted
    late =
        elim (dec_lt (misfit (table_of words)) (length (table_of words))) [
          | yes h ↦ h
          | no h ↦ absurd (eqb-false (misfit (table_of words)) (length (table_of words)) none (omega (arith, misfit_most (table_of words))))
        ]

    no_answer : verdict words 32 ≡ refused 11 (misfit (table_of words) ∷ [])
    no_answer =
        ap (verdict words) (sym (length-replicate {A = ℕ} 32 0)) ∙ (verdict_late words (replicate 32 0) good.values good.is (omega (arith, good_few, length-replicate {A = ℕ} 32 0)) late).0

    no_responded : Responded (table_of words) (verdict_room words (replicate 32 0))
    unfolding response_printed
    no_responded =
        let e = (verdict_late words (replicate 32 0) good.values good.is (omega (arith, good_few, length-replicate {A = ℕ} 32 0)) late).1 in
        record {
          enough = omega (arith, ap length e, length-replicate {A = ℕ} 32 0, good_few);
          at = λ i h. ap (λ (z : List ℕ). get_or z i 0) e ∙ get_or-replicate 32 i 0 0 (omega (arith, good_few)) ∙ rw none;
        }

  -- an accepted verdict, and a refused one
  pub told_admitted : (vs : List ℕ) → accepted vs ≡ verdict words 32
      → (admitted_line ≡ verdict_printed (table_of words)) × (Responded (table_of words) (verdict_room words (replicate 32 0)))
  unfolding verdict_printed
  told_admitted vs e =
      elim (known (admitted (table_of words))) [
        | passes h ↦ (sym (rw h), yes_responded h)
        | fails h ↦ absurd (omega (arith, ap code_of (e ∙ no_answer h)))
      ]

  pub told_late : (n : ℕ) (also : List ℕ) → 1 ≤ n → refused n also ≡ verdict words 32
      → (also ≡ misfit (table_of words) ∷ []) × (unschedulable_line ++ number_lines (at_key ∷ []) (misfit (table_of words) ∷ []) ≡ verdict_printed (table_of words)) × (Responded (table_of words) (verdict_room words (replicate 32 0)))
  unfolding verdict_printed also_in
  told_late n also l e =
      elim (known (admitted (table_of words))) [
        | passes h ↦ absurd (omega (arith, ap code_of (e ∙ yes_answer h)))
        | fails h ↦ (ap also_in (e ∙ no_answer h), sym (rw h), no_responded h)
      ]
