-- What the answer of a run says: it is refused as 14 or 15 or accepted, and accepted only of well-formed words within the clock.
use mathlib.Core.Bool.{true, false}
use mathlib.Core.List.{List, []}
use mathlib.Core.Path.{◌≡◌, sym, ap, ◌∙◌}
use Prim.Native.Nat.{ℕ, ◌+◌, ◌≤◌}
use native.Mathlib.Omega.{arith}
use lib.Dec.{leb}
use lib.ListN.{get_or}
use borrow.Author.Tests.{leb-true, le-leb}
use Rattle.law.specs.Refusal.{Answer, accepted, refused, code_of}
use Rattle.law.specs.Tick.{clock_end}
use Rattle.law.specs.State.{saved_well, run_answer}
use Rattle.law.proofs.Tests.{passes, fails, known}

pub never_accepted : {x : Answer} {k : ℕ} {also values : List ℕ} → x ≡ refused k also → x ≡ accepted values → 1 ≤ k → ⊥
never_accepted p q h = omega (arith, ap code_of (sym p ∙ q))

pub run_accepted : (words : List ℕ) (n : ℕ) → saved_well words ≡ true → get_or words 1 0 + n ≤ clock_end → run_answer words n ≡ accepted []
unfolding run_answer
run_accepted words n e h = rw (e, le-leb (get_or words 1 0 + n) clock_end h)

-- a run is refused or accepted
pub data RunTold (words : List ℕ) (n : ℕ) : Type 0 where
  ran : run_answer words n ≡ accepted [] → RunTold words n
  turned : (k : ℕ) (also : List ℕ) → 1 ≤ k → run_answer words n ≡ refused k also → RunTold words n

module _ (words : List ℕ) (n : ℕ) where
  ill : saved_well words ≡ false → run_answer words n ≡ refused 14 []
  unfolding run_answer
  ill e = rw e

  past : saved_well words ≡ true → leb (get_or words 1 0 + n) clock_end ≡ false → run_answer words n ≡ refused 15 []
  unfolding run_answer
  past e f = rw (e, f)

  pub run_told : RunTold words n
  run_told =
      elim (known (saved_well words)) [
        | fails e ↦ turned 14 [] (omega arith) (ill e)
        | passes e ↦ elim (known (leb (get_or words 1 0 + n) clock_end)) [
          | fails f ↦ turned 15 [] (omega arith) (past e f)
          | passes f ↦ ran (run_accepted words n e (leb-true (get_or words 1 0 + n) clock_end f))
        ]
      ]

  module _ (values : List ℕ) (ok : run_answer words n ≡ accepted values) where
    pub run_well_formed : saved_well words ≡ true
    run_well_formed =
        elim (known (saved_well words)) [
          | passes e ↦ e
          | fails e ↦ absurd (never_accepted (ill e) ok (omega arith))
        ]

    pub run_early : get_or words 1 0 + n ≤ clock_end
    run_early =
        elim (known (leb (get_or words 1 0 + n) clock_end)) [
          | passes e ↦ leb-true (get_or words 1 0 + n) clock_end e
          | fails e ↦ absurd (never_accepted (past run_well_formed e) ok (omega arith))
        ]

    -- so is one of fewer ticks
    pub run_sooner : (t : ℕ) → t ≤ n → run_answer words t ≡ accepted []
    run_sooner t h = run_accepted words t run_well_formed (omega (arith, run_early))
