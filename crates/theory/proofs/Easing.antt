-- A lighter table is judged no worse: where every row brings no more to the rows below it and asks no more for itself, every load is no larger, so a row
-- that fits fits still, and no later. A row that is made even is lighter, for no pattern counts more than the deeply-red one.
use mathlib.Core.Bool.{Bool, true, false}
use mathlib.Core.List.{List}
use mathlib.Core.Logic.{⊎_elim}
use mathlib.Core.Path.{◌≡◌, refl, sym, ◌∙◌, subst}
use Prim.Native.Nat.{ℕ, ◌≤◌, ◌<◌}
use native.Mathlib.Nat.{mul-le-mul_left}
use native.Mathlib.Omega.{arith}
use lib.ListN.{length}
use borrow.Author.Tests.{le-leb, eq-eqb}
use Rattle.law.specs.Sums.{pick, ceil}
use Rattle.law.specs.Pattern.{count, red_count}
use Rattle.law.specs.Table.{Task, row, is_red, count_of, Ranged, WellFormed}
use Rattle.law.specs.Verdict.{demand, load, fits_at, response, fits, misfit, admitted}
use Rattle.law.specs.Easing.{even_row, Evened, Eased}
use Rattle.law.proofs.First.{first_high}
use Rattle.law.proofs.Pattern.{even}
use Rattle.law.proofs.Red.{red_most}
use Rattle.law.proofs.Sums.{sum_mono}
use Rattle.law.proofs.Tests.{known, passes, fails}
use Rattle.law.proofs.Fits.{fits_deadline, fits_load, response_least, response_low, response_late, misfit_is, admitted_fits}

-- what a row may become
pub record Lighter (old new : Task) : Type 0 where
  pub own : new.c ≤ old.c
  pub brings : (t : ℕ) → demand new t ≤ demand old t
  pub later : old.d ≤ new.d

module _ (before after : List Task) (many : length after ≡ length before)
    (each : (i : ℕ) → i < length before → Lighter (row before i) (row after i)) where
  load_less : (i t : ℕ) → i < length before → load after i t ≤ load before i t
  unfolding load
  load_less i t h =
      omega (
        arith,
        (each i h).own,
        sum_mono (λ j. demand (row after j) t) (λ j. demand (row before j) t) i (λ j l. (each j (omega arith)).brings t),
      )

  -- a row that fits at its response time fits there still
  pub no_later : (i : ℕ) → i < length before → fits before i ≡ true → response after i ≤ response before i
  no_later i h e =
      response_least after i (response before i) (response_low before i) (omega (arith, load_less i (response before i) h, fits_load before i e))

  fits_still : (i : ℕ) → i < length before → fits before i ≡ true → fits after i ≡ true
  unfolding fits
  fits_still i h e =
      le-leb (response after i) (row after i).d (omega (arith, no_later i h e, fits_deadline before i e, (each i h).later))

  pub admitted_still : admitted before ≡ true → admitted after ≡ true
  unfolding admitted
  admitted_still e =
      eq-eqb (misfit after) (length after)
      (misfit_is after (length after) (omega arith) (λ i h. fits_still i (omega arith) (admitted_fits before e i (omega arith))) (λ l. absurd (omega arith)))

-- a row made even
even_counts : (r : Task) → Ranged r → (q : ℕ) → count_of (even_row r) q ≤ count_of r q
unfolding count_of
even_counts r h q = by (is_red r)
  where
    by : (b : Bool) → count r.m r.k q ≤ pick b (red_count r.m r.k q) (count r.m r.k q)
    by true = red_most r.m r.k h.pair.m_low h.pair.m_high (even r.m r.k h.pair.m_low h.pair.m_high) q
    by false = omega arith

even_lighter : (r : Task) → Ranged r → Lighter r (even_row r)
unfolding demand
even_lighter r h =
    record {
      own = omega arith;
      brings = λ t. mul-le-mul_left r.c (even_counts r h (ceil t r.t));
      later = omega arith;
    }

same_lighter : (r : Task) → Lighter r r
same_lighter r = record { own = omega arith; brings = λ t. omega arith; later = omega arith }

-- what a row that is made even, or not, keeps
record Kept (old new : Task) : Type 0 where
  lighter : Lighter old new
  ranged : Ranged new
  id : new.id ≡ old.id
  d : new.d ≡ old.d

same_kept : (r : Task) → Ranged r → Kept r r
same_kept r h = record { lighter = same_lighter r; ranged = h; id = refl; d = refl }

even_kept : (r : Task) → Ranged r → Kept r (even_row r)
even_kept r h =
    record {
      lighter = even_lighter r h;
      ranged =
          record {
            id_low = h.id_low;
            id_high = h.id_high;
            t_low = h.t_low;
            t_high = h.t_high;
            d_low = h.d_low;
            d_high = h.d_high;
            c_low = h.c_low;
            c_high = h.c_high;
            pair = h.pair;
            p_high = omega arith;
          };
      id = refl;
      d = refl;
    }

-- "a table admitted with some rows deeply-red is admitted with those rows even", and no response time grows
module _ (before after : List Task) (w : WellFormed before) (e : Evened before after) where
  kept : (i : ℕ) → i < length before → Kept (row before i) (row after i)
  kept i h =
      ⊎_elim (λ (q : row after i ≡ row before i). subst (Kept (row before i)) (sym q) (same_kept (row before i) (w.ranged i h)))
      (λ (q : row after i ≡ even_row (row before i)). subst (Kept (row before i)) (sym q) (even_kept (row before i) (w.ranged i h)))
      (e.each i h)

  lighter : (i : ℕ) → i < length before → Lighter (row before i) (row after i)
  lighter i h = (kept i h).lighter

  shorter : (i : ℕ) → i < length before → response after i ≤ response before i
  unfolding response
  shorter i h =
      elim (known (fits before i)) [
        | passes q ↦ no_later before after e.many lighter i h q
        | fails q ↦ omega (arith, response_late before i q, first_high (fits_at after i) 1 (row after i).d, (kept i h).d)
      ]

  pub evened : Eased before after
  evened =
      record {
        well_formed =
            record {
              rows_low = omega (arith, w.rows_low, e.many);
              rows_high = omega (arith, w.rows_high, e.many);
              ranged = λ i h. (kept i (omega (arith, e.many))).ranged;
              once = λ i j hi hj q. w.once i j (omega (arith, e.many)) (omega (arith, e.many))
                  (sym (kept i (omega (arith, e.many))).id ∙ q ∙ (kept j (omega (arith, e.many))).id);
            };
        still_admitted = admitted_still before after e.many lighter;
        no_longer = shorter;
      }
