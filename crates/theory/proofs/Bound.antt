-- Within which time a row meets its mandatory jobs, and when its first job ends: the queue's argument over what the rows above owe, ask for and get.
use mathlib.Core.Bool.{Bool, true, false}
use mathlib.Core.Path.{◌≡◌, refl, sym, ap, ◌∙◌}
use Prim.Native.Nat.{ℕ, zero, suc, ◌+◌, ◌-◌, ◌*◌, ◌≤◌, ◌<◌}
use native.Mathlib.Decide.{dec_le, dec_lt}
use native.Mathlib.Nat.{add-suc, zero-mul}
use native.Mathlib.Omega.{arith}
use lib.Dec.{eqb, ltb}
use lib.ListN.{length}
use borrow.Author.Tests.{eqb-true, eq-eqb, ne_eqb, lt-ltb, le-ltb}
use Rattle.law.specs.Sums.{bit, both, sum}
use Rattle.law.specs.Table.{kind_of}
use Rattle.law.specs.Verdict.{demand, load, response, fits}
use Rattle.law.specs.Tick.{met, fresh_core, urgent, work_after}
use Rattle.law.proofs.Sums.{sum_mono, sum_add, sum_none, sum_only}
use Rattle.law.proofs.Tests.{passes, fails, known, never_both, bit_most}
use Rattle.law.proofs.Verdict.{pattern_of}
use Rattle.theory.proofs.Queue.{Tick, busy, calm, Stretch, busy_start, not_lasting, not_sooner}
use Rattle.theory.proofs.Rows.{met_over, met_chosen, owed, owed_none, urgent_is, urgent_live, done, spent_most, spent_least}
use Rattle.theory.proofs.Clock.{demand_none, demand_add, arrived_most, arrived_least}
use Rattle.law.proofs.Fits.{fits_load, fits_deadline, response_least}
use Rattle.theory.proofs.Trace.{Course, task_in_lem, in_tick, is_chosen, ending, Trace}
use Rattle.theory.proofs.Life.{took_in, Unmissed, Keeps, took_in_time, life_in, tick_of, core_in, work_in, end_in, on_clock}
use Rattle.theory.proofs.Life.{took_low, met_then, begins, begins_work, work_left, alive, continues_as, rests_due, never_missed}

-- The work above row i: what waits at the start of a tick, what was released before it, and what is done in it.
abbrev pub waits_in : Course → ℕ → ℕ → ℕ
waits_in x i t = sum (λ j. owed (x.core t j)) i

abbrev pub asked_in : Course → ℕ → ℕ → ℕ
asked_in x i t = sum (λ j. demand (task_in_lem x j) t) i

abbrev pub done_by : Course → ℕ → ℕ → ℕ
done_by x t j = done (is_chosen x t j) (in_tick x t j)

abbrev pub done_in : Course → ℕ → ℕ → ℕ
done_in x i t = sum (done_by x t) i

module _ {x : Course} (tr : Trace x) (t : ℕ) where
  -- what a row owes falls by no less than the work done, as far as nothing more is asked ..
  row_most : (j : ℕ) → j < length x.tasks
      → owed (x.core (suc t) j) + done_by x t j + demand (task_in_lem x j) t ≤ owed (x.core t j) + demand (task_in_lem x j) (suc t)
  row_most j h =
      rw (tr.next t j h)
      (omega (
        arith,
        spent_most (is_chosen x t j) (in_tick x t j),
        arrived_most (task_in_lem x j) (tr.ranged j h) (on_clock tr j h t) (x.work t j) (tr.shortest t j h) (tr.longest t j h),
      ))

  -- .. and by no more, at full length and where no mandatory job is dropped
  row_least : (j : ℕ) → j < length x.tasks → x.work t j ≡ (task_in_lem x j).c → Unmissed x t j
      → owed (x.core t j) + demand (task_in_lem x j) (suc t) ≤ owed (x.core (suc t) j) + done_by x t j + demand (task_in_lem x j) t
  row_least j h full kept =
      rw (tr.next t j h)
      (omega (
        arith,
        spent_least (is_chosen x t j) (in_tick x t j) kept,
        arrived_least (task_in_lem x j) (tr.ranged j h) (on_clock tr j h t) (x.work t j) full (λ e. (rests_due tr j h t e).no_work),
      ))

  module _ (i : ℕ) (low : i ≤ length x.tasks) where
    -- both sides of the sums
    before : sum (λ j. owed (x.core t j) + demand (task_in_lem x j) (suc t)) i ≡ waits_in x i t + asked_in x i (suc t)
    before = sum_add (λ j. owed (x.core t j)) (λ j. demand (task_in_lem x j) (suc t)) i

    behind : sum (λ j. owed (x.core (suc t) j) + done_by x t j + demand (task_in_lem x j) t) i ≡ waits_in x i (suc t) + done_in x i t + asked_in x i t
    behind =
        sum_add (λ j. owed (x.core (suc t) j) + done_by x t j) (λ j. demand (task_in_lem x j) t) i
        ∙ ap (λ (z : ℕ). z + asked_in x i t) (sum_add (λ j. owed (x.core (suc t) j)) (done_by x t) i)

    above_most : waits_in x i (suc t) + done_in x i t + asked_in x i t ≤ waits_in x i t + asked_in x i (suc t)
    above_most = omega (arith, before, behind, sum_mono _ _ i (λ j l. row_most j (omega arith)))

    above_least : ((j : ℕ) → j < i → x.work t j ≡ (task_in_lem x j).c) → ((j : ℕ) → j < i → Unmissed x t j)
        → waits_in x i t + asked_in x i (suc t) ≤ waits_in x i (suc t) + done_in x i t + asked_in x i t
    above_least full kept =
        omega (arith, before, behind, sum_mono _ _ i (λ j l. row_least j (omega arith) (full j l) (kept j l)))

    done_is : done_in x i t ≡ bit (both (ltb (x.chosen t) i) (urgent (in_tick x t (x.chosen t))))
    done_is = sum_only (x.chosen t) (λ j. urgent (in_tick x t j)) i

    done_one : x.chosen t < i → urgent (in_tick x t (x.chosen t)) ≡ true → done_in x i t ≡ 1
    done_one l e = done_is ∙ rw (lt-ltb (x.chosen t) i l, e)

    done_below : i ≤ x.chosen t → done_in x i t ≡ 0
    done_below l = done_is ∙ rw (le-ltb (x.chosen t) i l)

    done_most : done_in x i t ≤ 1
    done_most = omega (arith, done_is, bit_most (both (ltb (x.chosen t) i) (urgent (in_tick x t (x.chosen t)))))

    chosen_bit : (b : Bool) → eqb i (x.chosen t) ≡ b → work_after (is_chosen x t i) (in_tick x t i) ≡ (in_tick x t i).work - bit b
    chosen_bit b e = ap (λ (z : Bool). (in_tick x t i).work - bit z) e

    -- the rows above and row i together get at most one unit ..
    share_most : (in_tick x t i).work + done_in x i t ≤ work_after (is_chosen x t i) (in_tick x t i) + 1
    share_most =
        elim (dec_lt (x.chosen t) i) [
          | yes l ↦ omega (arith, done_most, chosen_bit false (ne_eqb i (x.chosen t) (λ e. omega arith)))
          | no l ↦ omega (arith, done_below (omega arith), bit_most (is_chosen x t i))
        ]

    -- .. and just one if row i is urgent
    share_least : i < length x.tasks → urgent (in_tick x t i) ≡ true
        → work_after (is_chosen x t i) (in_tick x t i) + 1 ≤ (in_tick x t i).work + done_in x i t
    share_least h u =
        elim (dec_lt (x.chosen t) i) [
          | yes l ↦ omega (arith, done_one l (tr.chosen_urgent t i h u))
          | no l ↦ omega (arith, urgent_live (in_tick x t i) u, chosen_bit true (eq-eqb i (x.chosen t) (omega (arith, tr.chosen_high t i h u))))
        ]

    -- nothing is owed above once no row above is urgent
    calm_above : ((j : ℕ) → j < i → urgent (in_tick x t j) ≡ true → ⊥) → waits_in x i (suc t) ≡ 0
    calm_above none =
        sum_none _ i
        (λ j l. rw (tr.next t j (omega arith)) (omega (arith, spent_most (is_chosen x t j) (in_tick x t j), nothing_owed j l)))
      where
        nothing_owed : (j : ℕ) → j < i → owed (in_tick x t j) ≡ 0
        nothing_owed j l =
            elim (known (urgent (in_tick x t j))) [
              | passes e ↦ absurd (none j l e)
              | fails e ↦ owed_none (in_tick x t j) e
            ]

    tick_given : x.chosen t < i → Tick (waits_in x i) (asked_in x i) t
    tick_given l =
        elim (known (urgent (in_tick x t (x.chosen t)))) [
          | passes e ↦ busy (omega (arith, above_most, done_one l e))
          | fails e ↦ calm (calm_above (λ j k u. never_both _ (tr.chosen_urgent t j (omega arith) u) e))
        ]

    tick_above : Tick (waits_in x i) (asked_in x i) t
    tick_above =
        elim (dec_lt (x.chosen t) i) [
          | yes l ↦ tick_given l
          | no l ↦ calm (calm_above (λ j k u. omega (arith, tr.chosen_high t j (omega arith) u)))
        ]

-- what is left of job a of row i n ticks after its release, as long as it lives
abbrev pub rest_in : Course → ℕ → ℕ → ℕ → ℕ
rest_in x i a zero = (core_in x i a 0).work
rest_in x i a (suc n) = work_in x i a n

module _ {x : Course} (tr : Trace x) (i : ℕ) (h : i < length x.tasks) where
  load_is : (t : ℕ) → load x.tasks i t ≡ (task_in_lem x i).c + asked_in x i t
  unfolding load
  load_is t = refl

  asked_add : (s n : ℕ) → asked_in x i (s + n) ≤ asked_in x i s + asked_in x i n
  asked_add s n =
      omega (
        arith,
        sum_add (λ j. demand (task_in_lem x j) s) (λ j. demand (task_in_lem x j) n) i,
        sum_mono _ _ i (λ j l. demand_add (task_in_lem x j) (tr.ranged j (omega arith)) s n),
      )

  asked_none : asked_in x i 0 ≡ 0
  asked_none = sum_none _ i (λ j l. demand_none (task_in_lem x j) (tr.ranged j (omega arith)))

  waits_none : waits_in x i 0 ≡ 0
  waits_none = sum_none _ i (λ j l. rw (tr.start j (omega arith)) (owed_none (fresh_core (task_in_lem x j)) refl))

  module _ (a : ℕ) where
    rest_is : (n : ℕ) → n < life_in x i a → rest_in x i a n ≡ (core_in x i a n).work
    rest_is zero l = refl
    rest_is (suc n) l = sym (ap (λ c. c.work) (continues_as tr i h a n l))

    rest_lasts : (n : ℕ) → n < took_in x i a → n ≤ (task_in_lem x i).d → 1 ≤ rest_in x i a n
    rest_lasts zero l d = (begins tr i h a).has_work
    rest_lasts (suc n) l d = work_left tr i h a n (alive tr i h a n (omega arith)) l

    urgent_alive : kind_of (task_in_lem x i) a ≡ true → (n : ℕ) → n < life_in x i a → urgent (core_in x i a n) ≡ true
    urgent_alive e n l = urgent_is (core_in x i a n) (alive tr i h a n l).has_work ((alive tr i h a n l).kind_is ∙ ap bit e)

    -- a tick in a mandatory job's life goes to the job or to mandatory work above
    held_most : kind_of (task_in_lem x i) a ≡ true → (n : ℕ) → n < life_in x i a
        → waits_in x i (suc (tick_of x i a n)) + rest_in x i a (suc n) + 1 + asked_in x i (tick_of x i a n)
        ≤ waits_in x i (tick_of x i a n) + rest_in x i a n + asked_in x i (suc (tick_of x i a n))
    held_most e n l =
        omega (
          arith,
          rest_is n l,
          above_most tr (tick_of x i a n) i (omega arith),
          share_least tr (tick_of x i a n) i (omega arith) h (urgent_alive e n l),
        )

    stretch_before : (s : ℕ) × Stretch (waits_in x i) (asked_in x i) s (a * (task_in_lem x i).t)
    stretch_before =
        busy_start (waits_in x i) (asked_in x i) waits_none (λ t. tick_above tr t i (omega arith)) (a * (task_in_lem x i).t)

    not_longer : (span : ℕ) → kind_of (task_in_lem x i) a ≡ true → load x.tasks i span ≤ span → span ≤ (task_in_lem x i).d → span < took_in x i a → ⊥
    not_longer span e fit d l =
        not_lasting (waits_in x i) (asked_in x i) (a * (task_in_lem x i).t) (task_in_lem x i).c span (rest_in x i a)
        (omega (arith, begins_work tr i h a, tr.longest (a * (task_in_lem x i).t) i h)) (λ n k. held_most e n (omega arith))
        stretch_before.0 stretch_before.1 (asked_add stretch_before.0 span) (omega (arith, load_is span))
        (λ n k. rest_lasts n (omega arith) (omega arith))

    -- Within a span in which the load fits, up to the deadline, a mandatory job is met.
    pub met_within : (span : ℕ) → kind_of (task_in_lem x i) a ≡ true → load x.tasks i span ≤ span → span ≤ (task_in_lem x i).d → took_in x i a ≤ span
    met_within span e fit d =
        elim (dec_le (took_in x i a) span) [
          | yes l ↦ l
          | no l ↦ absurd (not_longer span e fit d (omega arith))
        ]

  -- So a row that fits meets its mandatory jobs within its response time, and in time.
  module _ (e : fits x.tasks i ≡ true) where
    pub met_in_response : (a : ℕ) → kind_of (task_in_lem x i) a ≡ true → took_in x i a ≤ response x.tasks i
    met_in_response a k = met_within a (response x.tasks i) k (fits_load x.tasks i e) (fits_deadline x.tasks i e)

    pub fits_keeps : Keeps x i
    fits_keeps a k = took_in_time x i a (omega (arith, met_in_response a k, fits_deadline x.tasks i e))

  -- At full length, below rows that miss nothing mandatory, the first job is not met before the load fits.
  module _ (full : (t j : ℕ) → j < length x.tasks → x.work t j ≡ (task_in_lem x j).c) (kept : (j : ℕ) → j < i → Keeps x j) where
    -- a tick takes one unit of this work at most
    held_least : (a n : ℕ) → n < life_in x i a
        → waits_in x i (tick_of x i a n) + rest_in x i a n + asked_in x i (suc (tick_of x i a n))
        ≤ waits_in x i (suc (tick_of x i a n)) + rest_in x i a (suc n) + 1 + asked_in x i (tick_of x i a n)
    held_least a n l =
        omega (
          arith,
          rest_is a n l,
          share_most tr (tick_of x i a n) i (omega arith),
          above_least tr (tick_of x i a n) i (omega arith) (λ j k. full _ j (omega arith)) (λ j k. never_missed tr j (omega arith) (kept j k) _),
        )

    calm_when_met : (t : ℕ) → ending x t i ≡ met → waits_in x i (suc t) ≡ 0
    calm_when_met t e =
        calm_above tr t i (omega arith)
        (λ j l u. omega (arith, tr.chosen_high t j (omega arith) u, eqb-true i (x.chosen t) (met_chosen (is_chosen x t i) (in_tick x t i) e)))

    first_begins : (task_in_lem x i).c + asked_in x i (0 * (task_in_lem x i).t) ≤ waits_in x i (0 * (task_in_lem x i).t) + rest_in x i 0 0 + 0 * (task_in_lem x i).t
    first_begins =
        omega (arith, begins_work tr i h 0, full (0 * (task_in_lem x i).t) i h, ap (asked_in x i) (zero-mul (task_in_lem x i).t) ∙ asked_none)

    first_ends : (n : ℕ) → suc n ≡ took_in x i 0 → took_in x i 0 ≤ (task_in_lem x i).d
        → (task_in_lem x i).c + asked_in x i (tick_of x i 0 (suc n)) ≤ tick_of x i 0 (suc n)
    first_ends n e d =
        let ended : end_in x i 0 n ≡ met = met_then tr i h 0 n e d in
        omega (
          arith,
          met_over _ _ ended,
          rw (← add-suc (0 * (task_in_lem x i).t) n) at (calm_when_met (tick_of x i 0 n) ended),
          not_sooner (waits_in x i) (asked_in x i) (0 * (task_in_lem x i).t) (task_in_lem x i).c (suc n) (rest_in x i 0) first_begins
              (λ k l. held_least 0 k (omega arith)) (suc n) (omega arith),
        )

    pub first_load : took_in x i 0 ≤ (task_in_lem x i).d → load x.tasks i (took_in x i 0) ≤ took_in x i 0
    first_load d =
        let e : tick_of x i 0 (suc (took_in x i 0 - 1)) ≡ took_in x i 0 = omega (arith, took_low tr i h 0) in
        omega (arith, load_is (took_in x i 0), rw e at (first_ends (took_in x i 0 - 1) (omega (arith, took_low tr i h 0)) d))

    -- So it takes no less than the response time; and just that if its row fits.
    pub first_no_sooner : took_in x i 0 ≤ (task_in_lem x i).d → response x.tasks i ≤ took_in x i 0
    first_no_sooner d = response_least x.tasks i (took_in x i 0) (took_low tr i h 0) (first_load d)

    pub first_takes : fits x.tasks i ≡ true → took_in x i 0 ≡ response x.tasks i
    first_takes e =
        let most : took_in x i 0 ≤ response x.tasks i = met_in_response e 0 (pattern_of (tr.ranged i h)).first in
        omega (arith, first_no_sooner (omega (arith, fits_deadline x.tasks i e)))
