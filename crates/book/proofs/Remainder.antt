-- The rule by one remainder tells the same jobs as document 01's rule by floor and ceiling.
use mathlib.Core.Bool.{true, false}
use mathlib.Core.Path.{◌≡◌, sym}
use Prim.Native.Nat.{ℕ, suc, ◌-◌, ◌*◌, ◌/◌, ◌%◌, ◌≤◌, ◌<◌}
use native.Mathlib.Decide.{dec_lt}
use native.Mathlib.Nat.{div-add-mod', mod-lt, suc-mul, mul-le-mul}
use native.Mathlib.Omega.{arith}
use lib.Dec.{eqb, ltb}
use borrow.Author.Tests.{eq-eqb, ne_eqb, lt-ltb, le-ltb}
use Rattle.law.specs.Sums.{ceil}
use Rattle.law.specs.Pattern.{InRange, mandatory}
use Rattle.law.proofs.Ceil.{ceil_only}
use Rattle.law.proofs.Pattern.{mandatory_yes, mandatory_no}
use Rattle.book.specs.Remainder.{by_remainder}

module _ (m k a : ℕ) (h : InRange m k) where
  m_some : 0 < m
  m_some = omega (arith, h.m_low)

  k_some : 0 < k
  k_some = omega (arith, h.m_low, h.m_high)

  -- a 32-bit job number times m is far below 2^64
  pub small : a ≤ 4294967295 → a * m ≤ 4294967295 * 64
  small l = mul-le-mul {n₁ = a} {m₁ = m} {n₂ = 4294967295} {m₂ = 64} l (omega (arith, h.m_high, h.k_high))

  -- with nothing left over the multiple of k that reaches a x m is a x m itself
  whole : a * m % k ≡ 0 → ceil (a * m) k ≡ a * m / k
  whole e =
      ceil_only (a * m) k (a * m / k) k_some
      (omega (arith, div-add-mod' (a * m) k))
      (omega (arith, div-add-mod' (a * m) k, k_some))

  -- otherwise it is the next one above, k less the remainder away
  next : 0 < a * m % k → ceil (a * m) k ≡ suc (a * m / k)
  next e =
      ceil_only (a * m) k (suc (a * m / k)) k_some
      (omega (arith, div-add-mod' (a * m) k, suc-mul (a * m / k) k, mod-lt (a * m) k_some))
      (omega (arith, div-add-mod' (a * m) k, suc-mul (a * m / k) k))

  at_none : a * m % k ≡ 0 → mandatory m k a ≡ true
  at_none e = mandatory_yes m k m_some h.m_high a (rw (whole e) (omega (arith, div-add-mod' (a * m) k, m_some)))

  above : k - m < a * m % k → mandatory m k a ≡ true
  above e =
      mandatory_yes m k m_some h.m_high a
      (rw (next (omega arith)) (omega (arith, div-add-mod' (a * m) k, suc-mul (a * m / k) k, h.m_high)))

  between : 0 < a * m % k → a * m % k ≤ k - m → mandatory m k a ≡ false
  between e f =
      mandatory_no m k m_some h.m_high a
      (rw (next e) (omega (arith, div-add-mod' (a * m) k, suc-mul (a * m / k) k, h.m_high)))

  -- the rule's two tests, one after the other
  pub nothing_left : a * m % k ≡ 0 → eqb (a * m % k) 0 ≡ mandatory m k a
  nothing_left e = rw (eq-eqb (a * m % k) 0 e, at_none e)

  pub something_left : (a * m % k ≡ 0 → ⊥) → ltb (k - m) (a * m % k) ≡ mandatory m k a
  something_left n =
      elim (dec_lt (k - m) (a * m % k)) [
        | yes q ↦ rw (lt-ltb (k - m) (a * m % k) q, above q)
        | no q ↦ rw (le-ltb (k - m) (a * m % k) (omega arith), between (omega arith) (omega arith))
      ]

  -- Document 02, 6/14: "The question answers as before"
  pub one_remainder : by_remainder m k a ≡ mandatory m k a
  unfolding by_remainder
  one_remainder =
      elim (dec_lt 0 (a * m % k)) [
        | no p ↦ let e : a * m % k ≡ 0 = omega arith in rw (eq-eqb (a * m % k) 0 e, at_none e)
        | yes p ↦
            let n : a * m % k ≡ 0 → ⊥ = λ (e : a * m % k ≡ 0). omega arith in
            rw (ne_eqb (a * m % k) 0 n) (something_left n)
      ]

  -- turned round, as the proof of the code takes it
  pub told_by_rule : mandatory m k a ≡ by_remainder m k a
  told_by_rule = sym one_remainder
