-- Tests and bits: what a conjunction that passes says of its parts, and that a bit tells its test.
use mathlib.Core.Bool.{Bool, true, false}
use mathlib.Core.Path.{◌≡◌, refl, sym, ap, ◌∙◌}
use Prim.Native.Nat.{◌≤◌}
use native.Mathlib.Omega.{arith}
use Rattle.law.specs.Sums.{bit, both}

pub both_left : (a b : Bool) → both a b ≡ true → a ≡ true
both_left true b e = refl
both_left false b e = e

pub both_right : (a b : Bool) → both a b ≡ true → b ≡ true
both_right true b e = e
both_right false b e = absurd (omega (arith, ap bit e))

pub both_true : (a b : Bool) → a ≡ true → b ≡ true → both a b ≡ true
both_true a b e f = rw (e, f)

pub both_pass : (b c : Bool) → c ≡ true → both b c ≡ b
both_pass true c e = e
both_pass false c e = refl

pub both_fail : (b c : Bool) → c ≡ false → both b c ≡ false
both_fail true c e = e
both_fail false c e = refl

-- a test passes or fails, and not both
pub data Known (b : Bool) : Type 0 where
  passes : b ≡ true → Known b
  fails : b ≡ false → Known b

pub known : (b : Bool) → Known b
known true = passes refl
known false = fails refl

pub never_both : (b : Bool) → b ≡ true → b ≡ false → ⊥
never_both b p q = omega (arith, ap bit (sym p ∙ q))

pub bit_most : (b : Bool) → bit b ≤ 1
bit_most true = omega arith
bit_most false = omega arith

pub bit_mono : (b c : Bool) → (b ≡ true → c ≡ true) → bit b ≤ bit c
bit_mono true c h = rw (h refl) (omega arith)
bit_mono false c h = omega arith

pub bit_same : (x y : Bool) → bit x ≡ bit y → x ≡ y
bit_same true true e = refl
bit_same true false e = absurd (omega arith)
bit_same false true e = absurd (omega arith)
bit_same false false e = refl
