-- The even pattern keeps the laws of a pattern, and what follows from these laws for any pattern.
use mathlib.Core.Bool.{Bool, true, false}
use mathlib.Core.Path.{◌≡◌, sym, ap, ◌∙◌}
use Prim.Native.Nat.{ℕ, zero, suc, ◌+◌, ◌*◌, ◌/◌, ◌%◌, ◌≤◌, ◌<◌}
use native.Mathlib.Decide.{dec_lt}
use native.Mathlib.Nat.{div-eq_of_lt-le, lt-div-mul-add, add-mul, suc-mul, add-suc, suc-add, add-zero, zero-add, zero-mul, mul_comm, mod-add-div'}
use native.Mathlib.Omega.{arith}
use borrow.Author.Tests.{eq-eqb, ne_eqb}
use Rattle.law.specs.Sums.{bit, ceil, among}
use Rattle.law.specs.Pattern.{mandatory, count, IsPattern}
use Rattle.law.proofs.Ceil.{ceil_low, ceil_high, ceil_only, ceil_zero, ceil_add, ceil_turn, ceil_floor}
use Rattle.law.proofs.Tests.{bit_same, bit_most}

module _ (m k : ℕ) (hm : zero < m) (hk : m ≤ k) where
  -- job a is mandatory exactly when the multiple of k that reaches a x m stays below (a + 1) x m
  pub mandatory_yes : (a : ℕ) → ceil (a * m) k * k < a * m + m → mandatory m k a ≡ true
  unfolding mandatory
  mandatory_yes a h =
      eq-eqb _ _
      (sym
      (div-eq_of_lt-le m (ceil_low (a * m) k (omega arith))
      (omega (arith, add-mul a 1 m))))

  pub mandatory_no : (a : ℕ) → a * m + m ≤ ceil (a * m) k * k → mandatory m k a ≡ false
  unfolding mandatory
  mandatory_no a h =
      ne_eqb a (ceil (a * m) k * k / m)
      (λ (e : a ≡ ceil (a * m) k * k / m). omega (arith, lt-div-mul-add {a = ceil (a * m) k * k} hm, ap (λ (z : ℕ). z * m) e))

  pub count_step : (a : ℕ) → count m k (suc a) ≡ count m k a + bit (mandatory m k a)
  unfolding count
  count_step a =
      elim (dec_lt (ceil (a * m) k * k) (a * m + m)) [
        | yes h ↦ rw (mandatory_yes a h) (ceil_only (suc a * m) k (ceil (a * m) k + 1) (omega arith)
            (omega (arith, suc-mul a m, ceil_low (a * m) k (omega arith), add-mul (ceil (a * m) k) 1 k))
            (omega (arith, suc-mul a m, add-mul (ceil (a * m) k) 1 k)))
        | no h ↦ rw (mandatory_no a (omega arith)) (ceil_only (suc a * m) k (ceil (a * m) k + 0) (omega arith)
            (omega (arith, suc-mul a m, add-mul (ceil (a * m) k) 0 k))
            (omega (arith, suc-mul a m, ceil_high (a * m) k (omega arith), add-mul (ceil (a * m) k) 0 k)))
      ]

  pub even : IsPattern m k (mandatory m k) (count m k)
  unfolding count
  even =
      record {
        none = simp zero-mul (ceil_zero k (omega arith));
        step = count_step;
        first = mandatory_yes 0 (simp zero-mul (rw (ceil_zero k (omega arith)) (omega (arith, zero-mul k))));
        most = λ a q. simp add-mul (ceil_add (a * m) (q * m) k (omega arith));
        turn = λ a. simp (add-mul, mul_comm k m) (ceil_turn (a * m) m k (omega arith));
      }

  count_least : (a q : ℕ) → count m k a + q * m / k ≤ count m k (a + q)
  unfolding count
  count_least a q = simp add-mul (ceil_floor (a * m) (q * m) k (omega arith))

-- what the steps of a count say of it
module _ (kind : ℕ → Bool) (counted : ℕ → ℕ) (step : (a : ℕ) → counted (suc a) ≡ counted a + bit (kind a)) where
  pub steps_among : (a q : ℕ) → counted (a + q) ≡ counted a + among kind a q
  unfolding among
  steps_among a zero = rw add-zero (omega arith)
  steps_among a (suc q) = rw (add-suc, step (a + q)) (omega (arith, steps_among a q))

  pub steps_mono : (a q : ℕ) → counted a ≤ counted (a + q)
  steps_mono a q = omega (arith, steps_among a q)

  -- among q jobs there are at most q mandatory ones
  pub steps_most : (a q : ℕ) → counted (a + q) ≤ counted a + q
  steps_most a zero = rw add-zero (omega arith)
  steps_most a (suc q) = rw (add-suc, step (a + q)) (omega (arith, steps_most a q, bit_most (kind (a + q))))

-- what any pattern keeps
module _ {m k : ℕ} {kind : ℕ → Bool} {counted : ℕ → ℕ} (p : IsPattern m k kind counted) where
  pub counted_among : (a q : ℕ) → counted (a + q) ≡ counted a + among kind a q
  counted_among = steps_among kind counted p.step

  pub counted_mono : (a q : ℕ) → counted a ≤ counted (a + q)
  counted_mono = steps_mono kind counted p.step

  pub counted_most : (q : ℕ) → counted q ≤ q
  counted_most q = omega (arith, steps_most kind counted p.step 0 q, p.none, ap counted (zero-add q))

  -- "the first q jobs hold exactly .. mandatory ones"
  pub among_first : (q : ℕ) → among kind 0 q ≡ counted q
  among_first q = omega (arith, counted_among 0 q, p.none, ap counted (zero-add q))

  -- "q jobs in a row anywhere hold no more than that"
  pub among_most : (a q : ℕ) → among kind a q ≤ counted q
  among_most a q = omega (arith, counted_among a q, p.most a q)

  -- "k in a row hold exactly m"
  pub among_turn : (a : ℕ) → among kind a k ≡ m
  among_turn a = omega (arith, counted_among a k, p.turn a)

  -- the pattern repeats after k jobs
  pub kind_turn : (a : ℕ) → kind (a + k) ≡ kind a
  kind_turn a =
      bit_same _ _ (omega (arith, p.step (a + k), p.step a, p.turn (suc a), p.turn a, ap counted (suc-add a k)))

  pub kind_turns : (a n : ℕ) → kind (a + n * k) ≡ kind a
  kind_turns a zero = simp (zero-mul, add-zero)
  kind_turns a (suc n) = ap kind (omega (arith, suc-mul n k)) ∙ kind_turn (a + n * k) ∙ kind_turns a n

  pub kind_place : (a : ℕ) → kind (a % k) ≡ kind a
  kind_place a = sym (kind_turns (a % k) (a / k)) ∙ ap kind (mod-add-div' a k)

-- "q jobs in a row anywhere hold .. no fewer than floor(q x m / k)"
pub among_least : (m k : ℕ) → zero < m → m ≤ k → (a q : ℕ) → q * m / k ≤ among (mandatory m k) a q
among_least m k hm hk a q = omega (arith, count_least m k hm hk a q, counted_among (even m k hm hk) a q)
