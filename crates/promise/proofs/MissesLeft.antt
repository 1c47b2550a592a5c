-- The spare that the counts question lays into a room is the law's, so it tells the misses left.
use mathlib.Core.Bool.{true}
use mathlib.Core.List.{List}
use mathlib.Core.Path.{◌≡◌, sym, ap, ◌∙◌, subst}
use Prim.Native.Nat.{ℕ, ◌≤◌, ◌<◌}
use native.Mathlib.Decide.{dec_le}
use native.Mathlib.Omega.{arith}
use lib.ListN.{length, get_or}
use Rattle.law.specs.Refusal.{accepted, code_of}
use Rattle.law.specs.Tick.{spare}
use Rattle.law.specs.State.{state_of, saved_well, counts_answer, counts_of}
use Rattle.law.specs.Promise.{MissesLeft}
use Rattle.law.proofs.Spare.{spare_exact, spare_short, spare_met}
use Rattle.law.proofs.Tests.{passes, fails, known}
use Rattle.dispatch.proofs.Saved.{saved_held, counts_ill, counts_short, counts_laid}
use Rattle.promise.specs.MissesLeft.{row_seen, marks_asked, spare_shown, SpareTells}

module _ (words : List ℕ) (i : ℕ) (room vs : List ℕ) (e : counts_answer words (length room) ≡ accepted vs) where
  good : saved_well words ≡ true
  good =
      elim (known (saved_well words)) [
        | passes f ↦ f
        | fails f ↦ absurd (omega (arith, ap code_of (sym e ∙ (counts_ill words i room f).0)))
      ]

  long : 7 ≤ length room
  long =
      elim (dec_le 7 (length room)) [
        | yes h ↦ h
        | no h ↦ absurd (omega (arith, ap code_of (sym e ∙ (counts_short words i room good (omega arith)).0)))
      ]

  shown_is : spare_shown words i room ≡ spare (marks_asked words i) (row_seen words i).core.task.k (row_seen words i).tally.window
  unfolding counts_of
  shown_is = ap (λ (z : List ℕ). get_or z 6 0) (counts_laid words i room good long).1

  pub spare_tells : i < length (state_of words).rows → SpareTells words i room
  spare_tells h =
      let r = row_seen words i in
      let pair = ((saved_held words good).sound.rows i h).core.ranged.pair in
      record {
        exact = λ now. subst (MissesLeft r.core.task r.tally) (sym shown_is) (spare_exact r.core.task r.tally pair.m_low now);
        short = λ few. shown_is ∙ spare_short r.core.task.m r.core.task.k r.tally.window few;
        no_less = omega (arith, shown_is, spare_met r.core.task.m r.core.task.k r.tally.window);
      }
