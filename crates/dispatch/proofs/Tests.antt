-- The test of a window.
use mathlib.Core.Path.{◌≡◌, sym, ap, ◌∙◌}
use Prim.Native.Nat.{ℕ, ◌+◌, ◌-◌, ◌/◌, ◌^◌, ◌≤◌}
use native.Mathlib.Decide.{dec_lt}
use native.Mathlib.Nat.{div-eq_of_lt, le-div_iff_mul-le, one-mul}
use native.Mathlib.Omega.{arith}
use lib.Dec.{ltb, eqb}
use lib.Pow.{pow_pos, shr-shr}
use borrow.Author.Tests.{lt-ltb, le-ltb, eq-eqb, ne_eqb}

-- a word has no bit from k up
pub window_test : (window k : ℕ) → 1 ≤ k → eqb (window / 2 ^ (k - 1) / 2) 0 ≡ ltb window (2 ^ k)
window_test window k h =
    let e : k - 1 + 1 ≡ k = omega arith in
    ap (λ (z : ℕ). eqb z 0) (shr-shr window (k - 1) 1 ∙ ap (λ (z : ℕ). window / 2 ^ z) e)
    ∙ elim (dec_lt window (2 ^ k)) [
      | yes l ↦ eq-eqb (window / 2 ^ k) 0 (div-eq_of_lt l) ∙ sym (lt-ltb window (2 ^ k) l)
      | no l ↦ ne_eqb (window / 2 ^ k) 0 (λ z. omega (arith, (le-div_iff_mul-le {k = 2 ^ k} {x = 1} {y = window} (pow_pos k)).1 (omega (arith, one-mul (2 ^ k)))))
          ∙ sym (le-ltb window (2 ^ k) (omega arith))
    ]
