-- A row's wait, place and releases follow from the tick alone, for they step as the ceiling of t / T does; and so does what it asks for.
use mathlib.Core.Bool.{Bool, true, false}
use mathlib.Core.Path.{◌≡◌, refl, sym, ap, ◌∙◌}
use Prim.Native.Nat.{ℕ, zero, suc, ◌+◌, ◌-◌, ◌*◌, ◌%◌, ◌≤◌, ◌<◌}
use native.Mathlib.Decide.{dec_le, ℕ_discrete}
use native.Mathlib.Nat.{le_trans, zero-mul, suc-mul, mul-zero, mul-one, mul-add, mul-le-mul_left, mul-le-mul_right}
use native.Mathlib.Nat.{mod-lt, mod_self, mod-eq_of_lt, suc-mod, zero-mod}
use native.Mathlib.Omega.{arith}
use borrow.Author.Tests.{eq-eqb, ne_eqb}
use Rattle.law.specs.Sums.{bit, ceil}
use Rattle.law.specs.Table.{Task, Ranged, kind_of, count_of}
use Rattle.law.specs.Verdict.{demand}
use Rattle.law.specs.Tick.{Core, fresh_core, next_place, release, advance, urgent}
use Rattle.law.proofs.Ceil.{ceil_high, ceil_only, ceil_zero, ceil_add}
use Rattle.law.proofs.Verdict.{pattern_of}
use Rattle.law.proofs.Pattern.{counted_mono, kind_place}
use Rattle.law.proofs.Tests.{passes, fails, known}
use Rattle.theory.proofs.Rows.{begun, release_due, release_none, owed, owed_urgent, owed_none, owed_most, urgent_is, urgent_kind}

-- the ceiling goes up after each multiple
pub ceil_up : (t b : ℕ) → zero < b → ceil t b * b ≡ t → ceil (suc t) b ≡ suc (ceil t b)
ceil_up t b h e =
    ceil_only (suc t) b (suc (ceil t b)) h (omega (arith, suc-mul (ceil t b) b)) (omega (arith, suc-mul (ceil t b) b))

pub ceil_same : (t b : ℕ) → zero < b → t < ceil t b * b → ceil (suc t) b ≡ ceil t b
ceil_same t b h l = ceil_only (suc t) b (ceil t b) h l (omega (arith, ceil_high t b h))

-- in the n-th tick after the a-th multiple
pub ceil_at : (a b n : ℕ) → n < b → ceil (suc (a * b + n)) b ≡ suc a
ceil_at a b n h = ceil_only (suc (a * b + n)) b (suc a) (omega arith) (omega (arith, suc-mul a b)) (omega (arith, suc-mul a b))

pub ceil_multiple : (a b : ℕ) → zero < b → ceil (a * b) b ≡ a
ceil_multiple a b h = ceil_only (a * b) b a h (omega arith) (omega arith)

-- row r at the start of tick t, as far as the clock tells: ceil t T jobs are released
pub record OnClock (r : Task) (t : ℕ) (c : Core) : Type 0 where
  pub task_is : c.task ≡ r
  pub wait_is : c.wait + t ≡ ceil t r.t * r.t
  pub place_is : c.place ≡ ceil t r.t % r.k

place_end : (q k : ℕ) → q % k + 1 ≡ k → suc q % k ≡ 0
place_end q k e = let same : suc (q % k) ≡ k = omega arith in suc-mod q k ∙ ap (λ (z : ℕ). z % k) same ∙ mod_self k

place_on : (q k : ℕ) → zero < k → (q % k + 1 ≡ k → ⊥) → suc q % k ≡ q % k + 1
place_on q k h e = suc-mod q k ∙ mod-eq_of_lt (omega (arith, mod-lt q h)) ∙ omega arith

next_place_lem : (r : Task) (q : ℕ) → zero < r.k → next_place r (q % r.k) ≡ suc q % r.k
unfolding next_place
next_place_lem r q h =
    elim (ℕ_discrete (q % r.k + 1) r.k) [
      | yes e ↦ rw (eq-eqb (q % r.k + 1) r.k e) (sym (place_end q r.k e))
      | no e ↦ rw (ne_eqb (q % r.k + 1) r.k e) (sym (place_on q r.k h e))
    ]

pub clock_start : (r : Task) → Ranged r → OnClock r 0 (fresh_core r)
clock_start r h =
    record {
      task_is = refl;
      wait_is = simp (ceil_zero r.t h.t_low, zero-mul);
      place_is = simp (ceil_zero r.t h.t_low, zero-mod);
    }

module _ {r : Task} {t : ℕ} {c : Core} (h : Ranged r) (o : OnClock r t c) where
  pub ceil_due : c.wait ≡ 0 → ceil (suc t) r.t ≡ suc (ceil t r.t)
  ceil_due e = ceil_up t r.t h.t_low (omega arith)

  pub ceil_else : 1 ≤ c.wait → ceil (suc t) r.t ≡ ceil t r.t
  ceil_else l = ceil_same t r.t h.t_low (omega arith)

  step_due : (b : Bool) (work : ℕ) → c.wait ≡ 0 → OnClock r (suc t) (advance b (release work c))
  unfolding advance
  step_due b work e =
      rw (release_due work c e)
      (record {
        task_is = o.task_is;
        wait_is = rw (o.task_is, ceil_due e) (omega (arith, suc-mul (ceil t r.t) r.t));
        place_is = rw (o.task_is, o.place_is, ceil_due e) (next_place_lem r (ceil t r.t) (omega arith));
      })

  step_none : (b : Bool) (work : ℕ) → 1 ≤ c.wait → OnClock r (suc t) (advance b (release work c))
  unfolding advance
  step_none b work l =
      rw (release_none work c l)
      (record {
        task_is = o.task_is;
        wait_is = rw (ceil_else l) (omega arith);
        place_is = rw (ceil_else l) o.place_is;
      })

  pub clock_step : (b : Bool) (work : ℕ) → OnClock r (suc t) (advance b (release work c))
  clock_step b work =
      elim (dec_le 1 c.wait) [
        | yes l ↦ step_none b work l
        | no l ↦ step_due b work (omega arith)
      ]

  -- the kind of the job that is released next
  pub next_kind : bit (kind_of c.task c.place) ≡ bit (kind_of r (ceil t r.t))
  next_kind = rw (o.task_is, o.place_is) (ap bit (kind_place (pattern_of h) (ceil t r.t)))

-- job a is released in tick a x T, and in the T - 1 ticks after it no other
pub due_at : {r : Task} {c : Core} (a : ℕ) → Ranged r → OnClock r (a * r.t) c → c.wait ≡ 0
due_at {r} a h o = omega (arith, ap (λ (z : ℕ). z * r.t) (ceil_multiple a r.t h.t_low))

pub wait_at : {r : Task} {c : Core} (a n : ℕ) → n < r.t → OnClock r (suc (a * r.t + n)) c → c.wait + suc n ≡ r.t
wait_at {r} a n l o = omega (arith, ap (λ (z : ℕ). z * r.t) (ceil_at a r.t n l), suc-mul a r.t)

-- an earlier job's deadline comes earlier
pub deadline_sooner : (r : Task) (a b t : ℕ) → a ≤ b → b * r.t + r.d ≤ t → a * r.t + r.d ≤ t
deadline_sooner r a b t l h = omega (arith, mul-le-mul_right r.t l)

-- what a row asks for
module _ (r : Task) (h : Ranged r) where
  pub demand_none : demand r 0 ≡ 0
  unfolding demand
  demand_none = simp (ceil_zero r.t h.t_low, (pattern_of h).none, mul-zero)

  count_mono : (x y : ℕ) → x ≤ y → count_of r x ≤ count_of r y
  count_mono x y l = let e : x + (y - x) ≡ y = omega arith in rw e at (counted_mono (pattern_of h) x (y - x))

  pub demand_add : (s n : ℕ) → demand r (s + n) ≤ demand r s + demand r n
  unfolding demand
  demand_add s n =
      rw (← mul-add r.c (count_of r (ceil s r.t)) (count_of r (ceil n r.t)))
      (mul-le-mul_left r.c
      (le_trans (count_mono (ceil (s + n) r.t) (ceil s r.t + ceil n r.t) (ceil_add s n r.t h.t_low))
      ((pattern_of h).most (ceil s r.t) (ceil n r.t))))

  module _ {t : ℕ} {c : Core} (o : OnClock r t c) where
    demand_same : 1 ≤ c.wait → demand r (suc t) ≡ demand r t
    unfolding demand
    demand_same l = ap (λ (z : ℕ). r.c * count_of r z) (ceil_else h o l)

    demand_up : c.wait ≡ 0 → demand r (suc t) ≡ demand r t + r.c * bit (kind_of r (ceil t r.t))
    unfolding demand
    demand_up e =
        ap (λ (z : ℕ). r.c * count_of r z) (ceil_due h o e) ∙ ap (λ (z : ℕ). r.c * z) ((pattern_of h).step (ceil t r.t))
        ∙ mul-add r.c (count_of r (ceil t r.t)) (bit (kind_of r (ceil t r.t)))

    kind_known : (b : Bool) → kind_of r (ceil t r.t) ≡ b → bit (kind_of c.task c.place) ≡ bit b
    kind_known b e = next_kind h o ∙ ap bit e

    begun_owed : (work : ℕ) → 1 ≤ work → owed (begun work c) ≡ work * bit (kind_of r (ceil t r.t))
    begun_owed work l =
        elim (known (kind_of r (ceil t r.t))) [
          | passes e ↦ owed_urgent (begun work c) (urgent_is (begun work c) l (kind_known true e)) ∙ rw e (sym (mul-one work))
          | fails e ↦ elim (known (urgent (begun work c))) [
            | passes u ↦ absurd (omega (arith, urgent_kind (begun work c) u, kind_known false e))
            | fails u ↦ owed_none (begun work c) u ∙ rw e (sym (mul-zero work))
          ]
        ]

    -- what is owed after the releases of a tick grows no more than the demand ..
    pub arrived_most : (work : ℕ) → 1 ≤ work → work ≤ r.c → owed (release work c) + demand r t ≤ owed c + demand r (suc t)
    arrived_most work l k =
        elim (dec_le 1 c.wait) [
          | yes w ↦ rw (release_none work c w, demand_same w) (omega arith)
          | no w ↦ rw (release_due work c (omega arith))
              (omega (arith, begun_owed work l, demand_up (omega arith), mul-le-mul_right (bit (kind_of r (ceil t r.t))) k))
        ]

    -- .. and no less, at full length
    pub arrived_least : (work : ℕ) → work ≡ r.c → (c.wait ≡ 0 → c.work ≡ 0)
        → owed c + demand r (suc t) ≤ owed (release work c) + demand r t
    arrived_least work k rests =
        elim (dec_le 1 c.wait) [
          | yes w ↦ rw (release_none work c w, demand_same w) (omega arith)
          | no w ↦ rw (release_due work c (omega arith))
              (omega (
                arith,
                begun_owed work (omega arith),
                demand_up (omega arith),
                owed_most c,
                rests (omega arith),
                ap (λ (z : ℕ). z * bit (kind_of r (ceil t r.t))) k,
              ))
        ]
