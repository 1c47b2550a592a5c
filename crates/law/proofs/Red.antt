-- The deeply-red pattern keeps the laws of a pattern; no pattern with the same m and k counts more; and its word is that of its first m bits.
use mathlib.Core.Bool.{Bool}
use mathlib.Core.Path.{◌≡◌, sym, ap, ◌∙◌, subst}
use Prim.Native.Nat.{ℕ, zero, suc, ◌+◌, ◌-◌, ◌*◌, ◌/◌, ◌%◌, ◌^◌, ◌≤◌, ◌<◌}
use native.Mathlib.Decide.{dec_lt, dec_le}
use native.Mathlib.Nat.{suc-mul, zero-mul, add-zero, zero-add, add-mul-div_right, add-mul-mod_self_right, div-eq_of_lt, mod-eq_of_lt, mod-add-div', mod-lt, pow-suc, one-mul}
use native.Mathlib.Omega.{arith}
use lib.Dec.{ltb}
use lib.Pow.{pow_pos}
use borrow.Author.Tests.{le-leb, lt-leb, lt-ltb, le-ltb, eq-eqb, ne_eqb}
use Rattle.law.specs.Sums.{bit, pick, smaller, bits_to}
use Rattle.law.specs.Pattern.{mandatory, word, deeply_red, red_count, IsPattern}
use Rattle.law.specs.Table.{Task, Ranged, kind_of, word_of}
use Rattle.law.proofs.Pattern.{steps_mono, steps_most}

left_smaller : (a b : ℕ) → a ≤ b → smaller a b ≡ a
left_smaller a b h = rw (le-leb a b h)

right_smaller : (a b : ℕ) → b ≤ a → smaller a b ≡ b
right_smaller a b h =
    elim (dec_le a b) [
      | yes l ↦ rw (le-leb a b l) (omega arith)
      | no l ↦ rw (lt-leb a b (omega arith))
    ]

module _ (m k : ℕ) (hm : zero < m) (hk : m ≤ k) where
  -- after n whole turns and b jobs of the next
  red_at : (n b : ℕ) → b < k → red_count m k (b + n * k) ≡ n * m + smaller b m
  unfolding red_count
  red_at n b h =
      let turns : (b + n * k) / k ≡ n = add-mul-div_right b n (omega arith) ∙ omega (arith, div-eq_of_lt h) in
      let jobs : (b + n * k) % k ≡ b = add-mul-mod_self_right b n k ∙ mod-eq_of_lt h in
      rw (turns, jobs)

  kind_at : (n b : ℕ) → b < k → deeply_red m k (b + n * k) ≡ ltb b m
  unfolding deeply_red
  kind_at n b h = ap (λ (z : ℕ). ltb z m) (add-mul-mod_self_right b n k ∙ mod-eq_of_lt h)

  -- one job more of a turn
  one_more : (b : ℕ) → smaller (suc b) m ≡ smaller b m + bit (ltb b m)
  one_more b =
      elim (dec_lt b m) [
        | yes h ↦ omega (arith, ap bit (lt-ltb b m h), left_smaller b m (omega arith), left_smaller (suc b) m (omega arith))
        | no h ↦ omega (arith, ap bit (le-ltb b m (omega arith)), right_smaller b m (omega arith), right_smaller (suc b) m (omega arith))
      ]

  step_at : (n b : ℕ) → b < k → red_count m k (suc (b + n * k)) ≡ red_count m k (b + n * k) + bit (deeply_red m k (b + n * k))
  step_at n b h =
      elim (dec_lt (suc b) k) [
        | yes l ↦
            let e : suc (b + n * k) ≡ suc b + n * k = omega arith in
            omega (arith, ap (red_count m k) e, red_at n (suc b) l, red_at n b h, one_more b, ap bit (kind_at n b h))
        | no l ↦
            let e : suc (b + n * k) ≡ 0 + suc n * k = omega (arith, suc-mul n k) in
            omega (
              arith,
              ap (red_count m k) e,
              red_at (suc n) 0 (omega arith),
              left_smaller 0 m (omega arith),
              red_at n b h,
              one_more b,
              right_smaller (suc b) m (omega arith),
              ap bit (kind_at n b h),
              suc-mul n m,
            )
      ]

  -- every number of jobs is so many turns and jobs
  whole : (a : ℕ) → a % k + a / k * k ≡ a
  whole a = mod-add-div' a k

  part : (a : ℕ) → a % k < k
  part a = mod-lt a (omega arith)

  -- Wherever every k jobs in a row hold m mandatory ones, q in a row hold no more than the deeply-red count of q: in a part of a turn there are no more
  -- than its jobs, nor than m.
  module _ (kind : ℕ → Bool) (counted : ℕ → ℕ) (step : (a : ℕ) → counted (suc a) ≡ counted a + bit (kind a))
      (turn : (a : ℕ) → counted (a + k) ≡ counted a + m) where
    turns : (a n : ℕ) → counted (a + n * k) ≡ counted a + n * m
    turns a zero = simp (zero-mul, add-zero)
    turns a (suc n) =
        let e : a + suc n * k ≡ a + n * k + k = omega (arith, suc-mul n k) in
        omega (arith, ap counted e, turn (a + n * k), turns a n, suc-mul n m)

    no_more : (a q : ℕ) → counted (a + q) ≤ counted a + red_count m k q
    no_more a q =
        let b = q % k in
        let n = q / k in
        let e : a + q ≡ a + b + n * k = omega (arith, whole q) in
        let own : red_count m k q ≡ n * m + smaller b m = ap (red_count m k) (sym (whole q)) ∙ red_at n b (part q) in
        elim (dec_le b m) [
          | yes l ↦ omega (arith, ap counted e, turns (a + b) n, own, left_smaller b m l, steps_most kind counted step a b)
          | no l ↦
              let all : a + b + (k - b) ≡ a + k = omega (arith, part q) in
              omega (arith, ap counted e, turns (a + b) n, own, right_smaller b m (omega arith), steps_mono kind counted step (a + b) (k - b), ap counted all, turn a)
        ]

  red_step : (a : ℕ) → red_count m k (suc a) ≡ red_count m k a + bit (deeply_red m k a)
  red_step a =
      subst (λ (z : ℕ). red_count m k (suc z) ≡ red_count m k z + bit (deeply_red m k z)) (whole a) (step_at (a / k) (a % k) (part a))

  red_turn : (a : ℕ) → red_count m k (a + k) ≡ red_count m k a + m
  red_turn a =
      let e : a + k ≡ a % k + suc (a / k) * k = omega (arith, whole a, suc-mul (a / k) k) in
      omega (
        arith,
        ap (red_count m k) e,
        red_at (suc (a / k)) (a % k) (part a),
        ap (red_count m k) (whole a),
        red_at (a / k) (a % k) (part a),
        suc-mul (a / k) m,
      )

  pub red : IsPattern m k (deeply_red m k) (red_count m k)
  red =
      let start : 0 ≡ 0 + 0 * k = omega (arith, zero-mul k) in
      record {
        none = omega (arith, ap (red_count m k) start, red_at 0 0 (omega arith), left_smaller 0 m (omega arith), zero-mul m);
        step = red_step;
        first = ap (deeply_red m k) start ∙ kind_at 0 0 (omega arith) ∙ lt-ltb 0 m hm;
        most = no_more (deeply_red m k) (red_count m k) red_step red_turn;
        turn = red_turn;
      }

  -- So no pattern with the same m and k has more mandatory jobs among its first q.
  pub red_most : {kind : ℕ → Bool} {counted : ℕ → ℕ} → IsPattern m k kind counted → (q : ℕ) → counted q ≤ red_count m k q
  red_most {kind} {counted} p q = omega (arith, no_more kind counted p.step p.turn 0 q, p.none, ap counted (zero-add q))

  -- its word: the first m bits are set, and no other
  bits_to_lem : (n : ℕ) → n ≤ k → bits_to (deeply_red m k) n ≡ 2 ^ smaller n m - 1
  unfolding bits_to deeply_red
  bits_to_lem zero h = rw (left_smaller 0 m (omega arith))
  bits_to_lem (suc n) h =
      let place : n % k ≡ n = mod-eq_of_lt (omega arith) in
      elim (dec_lt n m) [
        | yes l ↦
            let before : smaller n m ≡ n = left_smaller n m (omega arith) in
            let after : smaller (suc n) m ≡ suc n = left_smaller (suc n) m (omega arith) in
            let mandatory : bit (ltb (n % k) m) ≡ 1 = rw place (ap bit (lt-ltb n m l)) in
            omega (
              arith,
              bits_to_lem n (omega arith),
              ap (λ (z : ℕ). z * 2 ^ n) mandatory,
              ap (λ (z : ℕ). 2 ^ z - 1) before,
              ap (λ (z : ℕ). 2 ^ z - 1) after,
              one-mul (2 ^ n),
              pow-suc 2 n,
              pow_pos n,
            )
        | no l ↦
            let before : smaller n m ≡ m = right_smaller n m (omega arith) in
            let after : smaller (suc n) m ≡ m = right_smaller (suc n) m (omega arith) in
            let optional : bit (ltb (n % k) m) ≡ 0 = rw place (ap bit (le-ltb n m (omega arith))) in
            omega (
              arith,
              bits_to_lem n (omega arith),
              ap (λ (z : ℕ). z * 2 ^ n) optional,
              ap (λ (z : ℕ). 2 ^ z - 1) before,
              ap (λ (z : ℕ). 2 ^ z - 1) after,
              zero-mul (2 ^ n),
            )
      ]

  pub red_word : bits_to (deeply_red m k) k ≡ 2 ^ m - 1
  red_word = bits_to_lem k (omega arith) ∙ ap (λ (z : ℕ). 2 ^ z - 1) (right_smaller k m hk)

-- the word of a row's pattern, by its p
abbrev bits_by : Task → Bool → ℕ
bits_by r b = bits_to (λ a. pick b (deeply_red r.m r.k a) (mandatory r.m r.k a)) r.k

pub word_red : (r : Task) → Ranged r → r.p ≡ 1 → word_of r ≡ 2 ^ r.m - 1
unfolding word_of kind_of
word_red r h e = ap (bits_by r) (eq-eqb r.p 1 e) ∙ red_word r.m r.k h.pair.m_low h.pair.m_high

pub word_even : (r : Task) → (r.p ≡ 1 → ⊥) → word_of r ≡ word r.m r.k
unfolding word_of kind_of word
word_even r h = ap (bits_by r) (ne_eqb r.p 1 h)
