-- Spare, document 02, 1/14: just so many further misses in a row leave m met marks in the window.
use mathlib.Core.Path.{◌≡◌, refl, ap, ◌∙◌}
use Prim.Native.Nat.{ℕ, zero, suc, ◌+◌, ◌-◌, ◌/◌, ◌%◌, ◌^◌, ◌≤◌, ◌<◌}
use native.Mathlib.Decide.{dec_lt}
use native.Mathlib.Omega.{arith}
use lib.Dec.{ltb, eqb}
use borrow.Author.Tests.{leb-true, le-leb, lt-ltb, le-ltb}
use Rattle.law.specs.Sums.{bit}
use Rattle.law.specs.Table.{Task}
use Rattle.law.specs.Tick.{Tally, marks, settled, still_hold, spare}
use Rattle.law.specs.Promise.{after_misses, MissesLeft}
use Rattle.law.proofs.First.{largest_high, largest_found, largest_passes}
use Rattle.law.proofs.Tests.{bit_most}
use Rattle.law.proofs.Window.{marks_none, marks_suc, shift_marks}

-- n further marks hold none to n further met ones
marks_more : (q n window : ℕ) → (marks q window ≤ marks (q + n) window) × (marks (q + n) window ≤ marks q window + n)
marks_more q zero window = let e : q ≡ q + 0 = omega arith in let s = ap (λ (z : ℕ). marks z window) e in (omega (arith, s), omega (arith, s))
marks_more q (suc n) window =
    let e : q + suc n ≡ suc (q + n) = omega arith in
    let s = ap (λ (z : ℕ). marks z window) e ∙ marks_suc (q + n) window in
    let one = bit_most (eqb (window / 2 ^ (q + n) % 2) 1) in
    let h = marks_more q n window in
    (omega (arith, s, one, h.0), omega (arith, s, one, h.1))

marks_at : (window : ℕ) {p q : ℕ} → p ≡ q → marks p window ≡ marks q window
marks_at window e = ap (λ (z : ℕ). marks z window) e

pub spare_high : (m k window : ℕ) → spare m k window ≤ k
unfolding spare
spare_high m k window = largest_high (still_hold m k window) k

module _ (m k window : ℕ) where
  -- where the newest k - n marks hold m, spare is no less, and its own marks hold m
  spare_passes : (n : ℕ) → n ≤ k → m ≤ marks (k - n) window
      → (m ≤ marks (k - spare m k window) window) × (n ≤ spare m k window)
  unfolding spare
  spare_passes n h l =
      let found = largest_passes (still_hold m k window) k n h (le-leb m (marks (k - n) window) l) in
      (leb-true _ _ found.0, found.1)

  pub spare_holds : m ≤ marks k window → (j : ℕ) → j ≤ spare m k window → m ≤ marks (k - j) window
  spare_holds h j l =
      let n = spare m k window in
      let whole = marks_at window {p = k} {q = k - 0} (omega arith) in
      let e : k - n + (n - j) ≡ k - j = omega (arith, spare_high m k window) in
      let held = (spare_passes 0 (omega arith) (omega (arith, whole))).0 in
      omega (arith, held, (marks_more (k - n) (n - j) window).0, marks_at window e)

  pub spare_no_more : 1 ≤ m → marks (k - suc (spare m k window)) window < m
  spare_no_more h =
      let n = spare m k window in
      elim (dec_lt (marks (k - suc n) window) m) [
        | yes l ↦ l
        | no l ↦ elim (dec_lt n k) [
          | yes f ↦ absurd (omega (arith, (spare_passes (suc n) (omega arith) (omega arith)).1))
          | no f ↦ absurd (omega (arith, marks_none window, marks_at window {p = k - suc n} {q = 0} (omega arith)))
        ]
      ]

  -- "if the whole window holds fewer than m it is 0"
  pub spare_short : marks k window < m → spare m k window ≡ 0
  unfolding spare
  spare_short h =
      let n = spare m k window in
      elim (dec_lt 0 n) [
        | yes l ↦ absurd
            (omega (
              arith,
              leb-true m (marks (k - n) window) (largest_found (still_hold m k window) k l),
              (marks_more (k - n) n window).0,
              marks_at window {p = k - n + n} {q = k} (omega (arith, spare_high m k window)),
            ))
        | no l ↦ omega arith
      ]

  -- the figure before, met marks less m, is never above it
  pub spare_met : marks k window - m ≤ spare m k window
  spare_met =
      let n = marks k window - m in
      elim (dec_lt (marks k window) m) [
        | yes l ↦ omega arith
        | no l ↦ let few : n ≤ k = omega (arith, (marks_more 0 k window).1, marks_none window, marks_at window {p = 0 + k} {q = k} (omega arith)) in
            (spare_passes n few (omega (arith, (marks_more (k - n) n window).1, marks_at window {p = k - n + n} {q = k} (omega arith)))).1
      ]

-- the newest marks after j further misses are those that were there before, j fewer
after_marks : (r : Task) (kinds : ℕ → ℕ) (j : ℕ) (y : Tally) (q : ℕ) → q ≤ r.k
    → marks q (after_misses r kinds j y).window ≡ marks (q - j) y.window
unfolding after_misses settled
after_marks r kinds zero y q h = marks_at y.window (omega arith)
after_marks r kinds (suc j) y zero h =
    omega (arith, marks_none (after_misses r kinds (suc j) y).window, marks_none y.window, marks_at y.window {p = 0 - suc j} {q = 0} (omega arith))
after_marks r kinds (suc j) y (suc q) h =
    omega (
      arith,
      shift_marks r.k (after_misses r kinds j y).window 0 q (omega arith) (omega arith),
      after_marks r kinds j y q (omega arith),
      marks_at y.window {p = suc q - suc j} {q = q - j} (omega arith),
    )

after_broken : (r : Task) (kinds : ℕ → ℕ) (j : ℕ) (y : Tally)
    → (after_misses r kinds (suc j) y).broken ≡ (after_misses r kinds j y).broken + bit (ltb (marks r.k (after_misses r kinds (suc j) y).window) r.m)
unfolding after_misses settled
after_broken r kinds j y = refl

module _ (r : Task) (y : Tally) (one : 1 ≤ r.m) (now : r.m ≤ marks r.k y.window) where
  left : ℕ
  left = spare r.m r.k y.window

  harmless : (kinds : ℕ → ℕ) (j : ℕ) → j ≤ left → r.m ≤ marks r.k (after_misses r kinds j y).window
  unfolding left
  harmless kinds j h =
      omega (arith, after_marks r kinds j y r.k (omega arith), spare_holds r.m r.k y.window now j h)

  unbroken : (kinds : ℕ → ℕ) (j : ℕ) → j ≤ left → (after_misses r kinds j y).broken ≡ y.broken
  unfolding after_misses
  unbroken kinds zero h = refl
  unbroken kinds (suc j) h =
      omega (
        arith,
        after_broken r kinds j y,
        unbroken kinds j (omega arith),
        ap bit (le-ltb (marks r.k (after_misses r kinds (suc j) y).window) r.m (harmless kinds (suc j) h)),
      )

  no_more : (kinds : ℕ → ℕ) → marks r.k (after_misses r kinds (suc left) y).window < r.m
  unfolding left
  no_more kinds =
      omega (arith, after_marks r kinds (suc left) y r.k (omega arith), spare_no_more r.m r.k y.window one)

  -- spare is the number of misses left
  pub spare_exact : MissesLeft r y (spare r.m r.k y.window)
  unfolding left
  spare_exact =
      record {
        harmless = harmless;
        unbroken = unbroken;
        no_more = no_more;
        breaks = λ kinds. omega (
          arith,
          after_broken r kinds left y,
          unbroken kinds left (omega arith),
          ap bit (lt-ltb (marks r.k (after_misses r kinds (suc left) y).window) r.m (no_more kinds)),
        );
      }
