-- The verdict: loads grow with t, so a search may leap from t to the load at t; loads stay far below 64 bits; and the verdict by its cases.
use mathlib.Core.Bool.{Bool, true, false, not}
use mathlib.Core.List.{List, [], ◌∷◌, ◌++◌}
use mathlib.Core.Path.{◌≡◌, refl, ap, ◌∙◌}
use Prim.Native.Nat.{ℕ, zero, suc, ◌+◌, ◌-◌, ◌*◌, ◌/◌, ◌%◌, ◌≤◌, ◌<◌}
use native.Mathlib.Decide.{dec_lt}
use native.Mathlib.Nat.{mul-le-mul_left, mul-le-mul, mul-one}
use native.Mathlib.Omega.{arith}
use lib.Dec.{leb, ltb, eqb}
use lib.ListN.{length, drop}
use borrow.Author.Tests.{le-leb, lt-leb, leb-true, eq-eqb, ne_eqb, eqb-false}
use Rattle.law.specs.Sums.{pick, ceil, sum}
use Rattle.law.specs.Refusal.{Answer, accepted, refused, or_refused, after}
use Rattle.law.specs.Pattern.{IsPattern, mandatory, count, deeply_red, red_count}
use Rattle.law.specs.Table.{Task, row, width, is_red, kind_of, count_of, Ranged, WellFormed, table_of, rows_checked, checked}
use Rattle.law.specs.Verdict.{demand, above, load, fits_at, response, fits, misfit, admitted, responses, verdict, verdict_room}
use Rattle.law.proofs.Ceil.{ceil_mono, ceil_least}
use Rattle.law.proofs.Pattern.{even, counted_mono, counted_most}
use Rattle.law.proofs.Red.{red}
use Rattle.law.proofs.First.{first_is, first_high}
use Rattle.law.proofs.Sums.{sum_mono}
use Rattle.law.proofs.Table.{rows_number, row_number_not, passed_on}

-- the pattern of a row keeps the laws of a pattern: the one place that knows which patterns there are
pub pattern_of : {r : Task} → Ranged r → IsPattern r.m r.k (kind_of r) (count_of r)
unfolding kind_of count_of
pattern_of {r} h = by (is_red r)
  where
    by : (b : Bool)
        → IsPattern r.m r.k (λ a. pick b (deeply_red r.m r.k a) (mandatory r.m r.k a)) (λ q. pick b (red_count r.m r.k q) (count r.m r.k q))
    by true = red r.m r.k h.pair.m_low h.pair.m_high
    by false = even r.m r.k h.pair.m_low h.pair.m_high

module _ (r : Task) (h : Ranged r) where
  pub demand_mono : (s t : ℕ) → s ≤ t → demand r s ≤ demand r t
  unfolding demand
  demand_mono s t l =
      let q = ceil s r.t in
      let more = ceil_mono s t r.t h.t_low l in
      let e : q + (ceil t r.t - q) ≡ ceil t r.t = omega arith in
      mul-le-mul_left r.c (rw e at (counted_mono (pattern_of h) q (ceil t r.t - q)))

  -- by t at most t jobs are released
  jobs_few : (t : ℕ) → count_of r (ceil t r.t) ≤ t
  jobs_few t =
      omega (arith, counted_most (pattern_of h) (ceil t r.t), ceil_least t r.t t h.t_low (omega (arith, mul-le-mul_left t h.t_low, mul-one t)))

  pub demand_small : (t : ℕ) → t ≤ 65535 → demand r t ≤ 65535 * 65535
  unfolding demand
  demand_small t l =
      mul-le-mul {n₁ = r.c} {m₁ = count_of r (ceil t r.t)} {n₂ = 65535} {m₂ = 65535} h.c_high (omega (arith, jobs_few t))

-- what rows above bring stays far below 64 bits
pub above_small : (tasks : List Task) → WellFormed tasks → (i : ℕ) → i ≤ length tasks → (t : ℕ) → t ≤ 65535
    → above tasks i t ≤ i * (65535 * 65535)
unfolding sum
above_small tasks w zero h t l = omega arith
above_small tasks w (suc i) h t l =
    omega (arith, above_small tasks w i (omega arith) t l, demand_small (row tasks i) (w.ranged i h) t l)

module _ (tasks : List Task) (w : WellFormed tasks) (i : ℕ) (h : i < length tasks) where
  -- what rows above bring never falls
  pub above_mono : (s t : ℕ) → s ≤ t → above tasks i s ≤ above tasks i t
  above_mono s t l =
      sum_mono (λ j. demand (row tasks j) s) (λ j. demand (row tasks j) t) i (λ j q. demand_mono (row tasks j) (w.ranged j (omega arith)) s t l)

  pub load_mono : (s t : ℕ) → s ≤ t → load tasks i s ≤ load tasks i t
  unfolding load
  load_mono s t l = omega (arith, above_mono s t l)

  -- where the load at t is above t, no tick from t up to it fits
  pub no_fit_before_load : (t s : ℕ) → t ≤ s → s < load tasks i t → fits_at tasks i s ≡ false
  unfolding fits_at
  no_fit_before_load t s l k = lt-leb _ s (omega (arith, load_mono t s l))

-- what a search that has come to t knows: no tick before t fits
pub record Sought (tasks : List Task) (i t : ℕ) : Type 0 where
  pub started : 1 ≤ t
  pub before : (s : ℕ) → 1 ≤ s → s < t → fits_at tasks i s ≡ false

pub sought_start : (tasks : List Task) (i : ℕ) → Sought tasks i 1
sought_start tasks i = record { started = omega arith; before = λ s l k. absurd (omega arith) }

pub sought_fits : (tasks : List Task) (i t : ℕ) → Sought tasks i t → t ≤ (row tasks i).d → load tasks i t ≤ t → response tasks i ≡ t
unfolding response fits_at
sought_fits tasks i t s l f =
    first_is (fits_at tasks i) 1 (row tasks i).d t s.started (omega arith) (λ q. le-leb _ t f) s.before

pub sought_leap : (tasks : List Task) → WellFormed tasks → (i : ℕ) → i < length tasks → (t : ℕ) → Sought tasks i t → t < load tasks i t
    → Sought tasks i (load tasks i t)
sought_leap tasks w i h t s l =
    record {
      started = omega (arith, s.started);
      before = λ u a b. elim (dec_lt u t) [
        | yes q ↦ s.before u a q
        | no q ↦ no_fit_before_load tasks w i h t u (omega arith) b
      ];
    }

-- a row fits when its response time is at most D
pub fits_yes : (tasks : List Task) (i : ℕ) → response tasks i ≤ (row tasks i).d → fits tasks i ≡ true
unfolding fits
fits_yes tasks i h = le-leb _ _ h

pub misfit_most : (tasks : List Task) → misfit tasks ≤ length tasks
unfolding misfit
misfit_most tasks = omega (arith, first_high (λ i. not (fits tasks i)) 0 (length tasks))

admitted_is : (tasks : List Task) → admitted tasks ≡ false → eqb (misfit tasks) (length tasks) ≡ false
unfolding admitted
admitted_is tasks e = e

-- the verdict by its cases; the words were checked before
module _ (words : List ℕ) (room : List ℕ) where
  pub verdict_unchecked : (n : ℕ) (also : List ℕ) → checked words ≡ refused n also
      → (verdict words (length room) ≡ refused n also) × (verdict_room words room ≡ room)
  unfolding verdict verdict_room
  verdict_unchecked n also e = (rw e, rw e)

  module _ (vs : List ℕ) (good : checked words ≡ accepted vs) where
    pub verdict_short : length room < length (table_of words)
        → (verdict words (length room) ≡ refused 13 []) × (verdict_room words room ≡ room)
    unfolding verdict verdict_room
    verdict_short h =
        let e = lt-leb (length (table_of words)) (length room) h in
        (rw (good, e), rw (good, e))

    pub verdict_late : length (table_of words) ≤ length room → misfit (table_of words) < length (table_of words)
        → (verdict words (length room) ≡ refused 11 (misfit (table_of words) ∷ [])) × (verdict_room words room ≡ room)
    unfolding verdict verdict_room admitted
    verdict_late h l =
        let e = le-leb (length (table_of words)) (length room) h in
        let f = ne_eqb (misfit (table_of words)) (length (table_of words)) (λ (q : misfit (table_of words) ≡ length (table_of words)). omega arith) in
        (rw (good, e, f), rw (good, e, f))

    pub verdict_admitted : length (table_of words) ≤ length room → misfit (table_of words) ≡ length (table_of words)
        → (verdict words (length room) ≡ accepted (length (table_of words) ∷ []))
        × (verdict_room words room ≡ responses (table_of words) ++ drop (length (table_of words)) room)
    unfolding verdict verdict_room admitted
    verdict_admitted h l =
        let e = le-leb (length (table_of words)) (length room) h in
        let f = eq-eqb (misfit (table_of words)) (length (table_of words)) l in
        (rw (good, e, f), rw (good, e, f))

-- what an answer of the verdict says
pub after_accepted : (a next : Answer) (vs : List ℕ) → after a next ≡ accepted vs → (ws : List ℕ) × (a ≡ accepted ws) × (next ≡ accepted vs)
after_accepted (accepted ws) next vs e = (ws, refl, e)
after_accepted (refused n also) next vs e = absurd (let z : ◌≡◌ {A = ℕ} 0 1 = cc in omega arith)

pub record AdmittedBy (words : List ℕ) (room : ℕ) : Type 0 where
  pub vs : List ℕ
  pub good : checked words ≡ accepted vs
  pub fits : length (table_of words) ≤ room
  pub all : admitted (table_of words) ≡ true

pub admitted_says : (words : List ℕ) (room : ℕ) (vs : List ℕ) → verdict words room ≡ accepted vs → AdmittedBy words room
unfolding verdict
admitted_says words room vs e =
    let a = after_accepted (checked words) _ vs e in
    let r = passed_on (leb (length (table_of words)) room) 13 [] vs _ a.2 in
    let m = passed_on (admitted (table_of words)) 11 (misfit (table_of words) ∷ []) vs _ r.1 in
    record { vs = a.0; good = a.1; fits = leb-true (length (table_of words)) room r.0; all = m.0 }

pub record LateBy (words : List ℕ) (i : ℕ) : Type 0 where
  pub vs : List ℕ
  pub good : checked words ≡ accepted vs
  pub is : misfit (table_of words) ≡ i
  pub in_table : i < length (table_of words)

-- the number of a refusal; the checks of words never give 11
numbered : Answer → ℕ
numbered (accepted vs) = 0
numbered (refused n also) = n

rows_not_late : (tasks : List Task) → numbered (rows_checked tasks) ≡ 11 → ⊥
unfolding numbered
rows_not_late tasks = by (rows_checked tasks) refl
  where
    by : (a : Answer) → rows_checked tasks ≡ a → numbered a ≡ 11 → ⊥
    by (accepted vs) e f = omega arith
    by (refused n also) e f = row_number_not (rows_number tasks n also e) (omega arith) (omega arith)

checked_not_late : (words : List ℕ) → numbered (checked words) ≡ 11 → ⊥
unfolding checked numbered
checked_not_late words = three (eqb (length words % width) 0) (ltb 0 (length words / width)) (leb (length words / width) 32)
  where
    three : (a b c : Bool)
        → numbered (or_refused a (refused 1 []) (or_refused b (refused 2 []) (or_refused c (refused 3 []) (rows_checked (table_of words))))) ≡ 11 → ⊥
    three true true true e = rows_not_late (table_of words) e
    three true true false e = omega arith
    three true false c e = omega arith
    three false b c e = omega arith

pub late_says : (words : List ℕ) (room i : ℕ) → verdict words room ≡ refused 11 (i ∷ []) → LateBy words i
unfolding verdict numbered
late_says words room i e = by (checked words) refl e
  where
    table : List Task
    table = table_of words

    last : (vs : List ℕ) → checked words ≡ accepted vs → (b : Bool) → admitted table ≡ b
        → or_refused b (refused 11 (misfit table ∷ [])) (accepted (length table ∷ [])) ≡ refused 11 (i ∷ []) → LateBy words i
    last vs g true q f = absurd (let z : ◌≡◌ {A = ℕ} 0 1 = cc in omega arith)
    last vs g false q f =
        let is : misfit table ≡ i = cc in
        record { vs = vs; good = g; is = is; in_table = omega (arith, misfit_most table, eqb-false (misfit table) (length table) (admitted_is table q)) }

    roomy : (vs : List ℕ) → checked words ≡ accepted vs → (b : Bool)
        → or_refused b (refused 13 []) (or_refused (admitted table) (refused 11 (misfit table ∷ [])) (accepted (length table ∷ []))) ≡ refused 11 (i ∷ []) → LateBy words i
    roomy vs g true f = last vs g (admitted table) refl f
    roomy vs g false f = absurd (omega (arith, ap numbered f))

    by : (a : Answer) → checked words ≡ a
        → after a (or_refused (leb (length table) room) (refused 13 []) (or_refused (admitted table) (refused 11 (misfit table ∷ [])) (accepted (length table ∷ [])))) ≡ refused 11 (i ∷ []) → LateBy words i
    by (accepted vs) g f = roomy vs g (leb (length table) room) f
    by (refused n also) g f = absurd (checked_not_late words (ap numbered g ∙ ap numbered f))
