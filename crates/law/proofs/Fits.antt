-- What the verdict's words say in numbers, by the laws of the first hit.
use mathlib.Core.Bool.{true, false, not}
use mathlib.Core.List.{List}
use mathlib.Core.Path.{◌≡◌, ap}
use Prim.Native.Nat.{ℕ, ◌≤◌, ◌<◌}
use native.Mathlib.Omega.{arith}
use lib.ListN.{length}
use borrow.Author.Tests.{eqb-true, eqb-false, leb-true, leb-false, le-leb, not-true, not-false}
use Rattle.law.specs.Table.{Task, row}
use Rattle.law.specs.Verdict.{load, fits_at, response, fits, misfit, admitted}
use Rattle.law.proofs.First.{first_low, first_high, first_found_lem, first_before, first_least, first_is}

-- a row that fits has a response time up to its deadline, at which its load fits; no earlier tick does
module _ (tasks : List Task) (i : ℕ) where
  pub fits_deadline : fits tasks i ≡ true → response tasks i ≤ (row tasks i).d
  unfolding fits
  fits_deadline e = leb-true (response tasks i) (row tasks i).d e

  pub fits_load : fits tasks i ≡ true → load tasks i (response tasks i) ≤ response tasks i
  unfolding response fits_at
  fits_load e = leb-true _ _ (first_found_lem (fits_at tasks i) 1 (row tasks i).d (omega (arith, fits_deadline e)))

  pub response_low : 1 ≤ response tasks i
  unfolding response
  response_low = first_low (fits_at tasks i) 1 (row tasks i).d

  pub response_least : (n : ℕ) → 1 ≤ n → load tasks i n ≤ n → response tasks i ≤ n
  unfolding response fits_at
  response_least n l e = first_least (fits_at tasks i) 1 (row tasks i).d n l (le-leb (load tasks i n) n e)

  pub response_late : fits tasks i ≡ false → (row tasks i).d < response tasks i
  unfolding fits
  response_late e = leb-false (response tasks i) (row tasks i).d e

-- the first row that does not fit
module _ (tasks : List Task) where
  pub fits_above : (i : ℕ) → i < misfit tasks → fits tasks i ≡ true
  unfolding misfit
  fits_above i l = not-false (fits tasks i) (first_before (λ j. not (fits tasks j)) 0 (length tasks) i (omega arith) l)

  -- told by the rows down to it
  pub misfit_is : (i : ℕ) → i ≤ length tasks → ((j : ℕ) → j < i → fits tasks j ≡ true) → (i < length tasks → fits tasks i ≡ false)
      → misfit tasks ≡ i
  unfolding misfit
  misfit_is i h up own =
      first_is (λ j. not (fits tasks j)) 0 (length tasks) i (omega arith) (omega arith) (λ l. ap not (own (omega arith))) (λ j a b. ap not (up j b))

  pub misfit_fails : misfit tasks < length tasks → fits tasks (misfit tasks) ≡ false
  unfolding misfit
  misfit_fails l = not-true _ (first_found_lem (λ j. not (fits tasks j)) 0 (length tasks) (omega arith))

  pub admitted_fits : admitted tasks ≡ true → (i : ℕ) → i < length tasks → fits tasks i ≡ true
  unfolding admitted
  admitted_fits e i h = fits_above i (omega (arith, eqb-true (misfit tasks) (length tasks) e))

  pub refused_row : admitted tasks ≡ false → misfit tasks < length tasks
  unfolding admitted misfit
  refused_row e =
      let other : misfit tasks ≡ length tasks → ⊥ = eqb-false (misfit tasks) (length tasks) e in
      omega (arith, first_high (λ j. not (fits tasks j)) 0 (length tasks))
