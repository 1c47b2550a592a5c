-- The bits of a number that is put together bit by bit: bit a is what the test says of a, and there is none from n up.
use mathlib.Core.Bool.{Bool, true, false}
use mathlib.Core.Path.{◌≡◌, sym, ap, ◌∙◌}
use Prim.Native.Nat.{ℕ, zero, suc, ◌+◌, ◌-◌, ◌*◌, ◌/◌, ◌%◌, ◌^◌, ◌≤◌, ◌<◌}
use native.Mathlib.Decide.{dec_lt}
use native.Mathlib.Nat.{add_comm, add-mul-div_right, add-mul-mod_self_right, mod-eq_of_lt, mul_assoc, pow-suc, one-mul, zero-mul}
use native.Mathlib.Omega.{arith}
use lib.Pow.{pow_pos, pow-add, high}
use Rattle.law.specs.Sums.{bit, bits_to}
use Rattle.law.proofs.Tests.{bit_most}

bit_times : (b : Bool) (x : ℕ) → bit b * x ≤ x
bit_times true x = omega (arith, one-mul x)
bit_times false x = omega (arith, zero-mul x)

module _ (p : ℕ → Bool) where
  -- "higher bits are clear"
  pub bits_low : (n : ℕ) → bits_to p n < 2 ^ n
  unfolding bits_to
  bits_low zero = omega arith
  bits_low (suc n) = omega (arith, bits_low n, bit_times (p n) (2 ^ n), pow-suc 2 n)

  top : (n : ℕ) → bits_to p (suc n) / 2 ^ n % 2 ≡ bit (p n)
  unfolding bits_to
  top n =
      ap (λ (z : ℕ). z / 2 ^ n % 2) (add_comm (bits_to p n) (bit (p n) * 2 ^ n))
      ∙ ap (λ (z : ℕ). z % 2) (high (bit (p n)) n (bits_low n)) ∙ let small : bit (p n) < 2 = omega (arith, bit_most (p n)) in mod-eq_of_lt small

  -- a bit further up does not change bit a
  under : (n a d : ℕ) → n ≡ a + suc d → bits_to p (suc n) / 2 ^ a % 2 ≡ bits_to p n / 2 ^ a % 2
  unfolding bits_to
  under n a d e =
      ap (λ (z : ℕ). (bits_to p n + z) / 2 ^ a % 2) (moved (bit (p n)))
      ∙ ap (λ (z : ℕ). z % 2) (add-mul-div_right (bits_to p n) (bit (p n) * 2 ^ d * 2) (pow_pos a))
      ∙ add-mul-mod_self_right (bits_to p n / 2 ^ a) (bit (p n) * 2 ^ d) 2
    where
      moved : (b : ℕ) → b * 2 ^ n ≡ b * 2 ^ d * 2 * 2 ^ a
      moved b =
          ap (λ (z : ℕ). b * 2 ^ z) (e ∙ add_comm a (suc d)) ∙ ap (λ (z : ℕ). b * z) (pow-add 2 (suc d) a)
          ∙ sym (mul_assoc b (2 ^ suc d) (2 ^ a)) ∙ ap (λ (z : ℕ). b * z * 2 ^ a) (pow-suc 2 d)
          ∙ ap (λ (z : ℕ). z * 2 ^ a) (sym (mul_assoc b (2 ^ d) 2))

  -- "Bit a .. is set exactly when" a passes the test
  pub bits_at : (n a : ℕ) → a < n → bits_to p n / 2 ^ a % 2 ≡ bit (p a)
  bits_at zero a h = absurd (omega arith)
  bits_at (suc n) a h =
      elim (dec_lt a n) [
        | yes l ↦ under n a (n - suc a) (omega arith) ∙ bits_at n a l
        | no l ↦ let e : a ≡ n = omega arith in rw e (top n)
      ]
