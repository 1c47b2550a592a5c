-- The quotient rounded up, by its two bounds: x ≤ ceil x b * b < x + b, and no other number has both.
use mathlib.Core.Path.{◌≡◌}
use Prim.Native.Nat.{ℕ, zero, suc, ◌+◌, ◌-◌, ◌*◌, ◌/◌, ◌≤◌, ◌<◌}
use native.Mathlib.Decide.{dec_le}
use native.Mathlib.Nat.{div-add-mod', mod-lt, add-mul, suc-mul, mul-le-mul_right, le_antisymm}
use native.Mathlib.Omega.{arith}
use Rattle.law.specs.Sums.{ceil}

-- a multiple of b that is less than one b above another is no larger
pub le_of_mul_lt : (a c b : ℕ) → a * b < c * b + b → a ≤ c
le_of_mul_lt a c b h =
    elim (dec_le a c) [
      | yes p ↦ p
      | no p ↦ let q : suc c ≤ a = omega arith in absurd (omega (arith, mul-le-mul_right b q, suc-mul c b))
    ]

pub ceil_low : (x b : ℕ) → zero < b → x ≤ ceil x b * b
unfolding ceil
ceil_low x b h = omega (arith, div-add-mod' (x + (b - 1)) b, mod-lt (x + (b - 1)) h)

pub ceil_high : (x b : ℕ) → zero < b → ceil x b * b < x + b
unfolding ceil
ceil_high x b h = omega (arith, div-add-mod' (x + (b - 1)) b)

-- the least multiple that is enough
pub ceil_least : (x b q : ℕ) → zero < b → x ≤ q * b → ceil x b ≤ q
ceil_least x b q h p = le_of_mul_lt (ceil x b) q b (omega (arith, ceil_high x b h))

pub ceil_only : (x b q : ℕ) → zero < b → x ≤ q * b → q * b < x + b → ceil x b ≡ q
ceil_only x b q h p r = le_antisymm (ceil_least x b q h p) (le_of_mul_lt q (ceil x b) b (omega (arith, ceil_low x b h)))

pub ceil_mono : (x y b : ℕ) → zero < b → x ≤ y → ceil x b ≤ ceil y b
ceil_mono x y b h p = ceil_least x b (ceil y b) h (omega (arith, ceil_low y b h))

pub ceil_zero : (b : ℕ) → zero < b → ceil 0 b ≡ 0
ceil_zero b h = ceil_only 0 b 0 h (omega arith) (omega arith)

pub ceil_add : (x y b : ℕ) → zero < b → ceil (x + y) b ≤ ceil x b + ceil y b
ceil_add x y b h =
    ceil_least (x + y) b (ceil x b + ceil y b) h
    (omega (arith, ceil_low x b h, ceil_low y b h, add-mul (ceil x b) (ceil y b) b))

-- whole multiples come out
pub ceil_turn : (x q b : ℕ) → zero < b → ceil (x + q * b) b ≡ ceil x b + q
ceil_turn x q b h =
    ceil_only (x + q * b) b (ceil x b + q) h (omega (arith, ceil_low x b h, add-mul (ceil x b) q b))
    (omega (arith, ceil_high x b h, add-mul (ceil x b) q b))

-- a floor beside a ceiling
pub ceil_floor : (x y b : ℕ) → zero < b → ceil x b + y / b ≤ ceil (x + y) b
ceil_floor x y b h =
    le_of_mul_lt (ceil x b + y / b) (ceil (x + y) b) b
    (omega (arith, ceil_high x b h, ceil_low (x + y) b h, div-add-mod' y b, add-mul (ceil x b) (y / b) b))
