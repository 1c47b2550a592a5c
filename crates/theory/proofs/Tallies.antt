-- The tallies of any run from a clean start, by the stages of its jobs: released counts, windows that show the settled jobs, misses and breaks that stay.
use mathlib.Core.Bool.{false}
use mathlib.Core.List.{List}
use mathlib.Core.Path.{◌≡◌, refl, sym, ap, ◌∙◌}
use Prim.Native.Nat.{ℕ, zero, suc, ◌+◌, ◌-◌, ◌*◌, ◌≤◌, ◌<◌}
use native.Mathlib.Decide.{dec_le}
use native.Mathlib.Nat.{add-zero, add-suc}
use native.Mathlib.Omega.{arith}
use lib.Dec.{eqb, ltb}
use lib.ListN.{length, get_or}
use borrow.Author.Tests.{eqb-true, eq-eqb, ne_eqb, lt-ltb, le-ltb}
use Rattle.law.specs.Sums.{bit, ceil}
use Rattle.law.specs.Table.{Task}
use Rattle.law.specs.Tick.{Core, Tally, Row, Outcome, nothing, met, missed, fresh_tally, no_row, due, release, live, settled, amended, counted_release, marks}
use Rattle.law.proofs.Ceil.{ceil_zero}
use Rattle.law.proofs.Tests.{passes, fails, known, both_fail}
use Rattle.law.proofs.Verdict.{pattern_of}
use Rattle.theory.proofs.Rows.{run_with, stepped_at, nothing_missed, settled_live, urgent_is}
use Rattle.theory.proofs.Clock.{ceil_due, ceil_else, ceil_at, ceil_multiple}
use Rattle.theory.proofs.Trace.{Course, task_in_lem, in_tick, ending, Trace, Clean, course_of, still_row}
use Rattle.theory.proofs.Life.{in_time_in, Keeps, took_in_time, took_late, life_in, Rests, running, resting, PhaseIn, tick_of, core_in}
use Rattle.theory.proofs.Life.{RunsIn, Stage, going, meets, misses, over, on_clock, begins, continues, phase_after, stage, rests_at}
use Rattle.theory.proofs.Life.{each_tick, never_missed}
use Rattle.theory.proofs.Marks.{Shows, fresh_shows, shift_shows, enough_marks}

-- tallies that step as the ticks do, beside a course
pub record Tallied (x : Course) (tally : ℕ → ℕ → Tally) : Type 0 where
  pub counts : (t i : ℕ) → i < length x.tasks
      → tally (suc t) i ≡ amended (ending x t i) (in_tick x t i).task (in_tick x t i).kind (counted_release (due (x.core t i)) (tally t i))

-- those of the run with given lengths
abbrev pub tally_of : (ℕ → ℕ → ℕ) → List Row → ℕ → ℕ → Tally
tally_of work rows t i = (get_or (run_with work t rows) i no_row).tally

pub tallied_of : (tasks : List Task) (work : ℕ → ℕ → ℕ) (rows : List Row) → Clean tasks rows
    → Tallied (course_of tasks work rows) (tally_of work rows)
unfolding run_with
tallied_of tasks work rows clean =
    record {
      counts = λ t i h. ap (λ r. r.tally) (stepped_at (work t) (run_with work t rows) i (still_row tasks work rows clean t i h));
    }

-- the number of row i's jobs that are settled at the start of tick t
unfoldable pub settled_in_lem : Course → ℕ → ℕ → ℕ
settled_in_lem x i t = ceil t (task_in_lem x i).t - bit (live (x.core t i))

live_bit : (c : Core) → 1 ≤ c.work → bit (live c) ≡ 1
live_bit c h = ap bit (lt-ltb 0 c.work h)

rest_bit : (c : Core) → c.work ≡ 0 → bit (live c) ≡ 0
rest_bit c e = ap bit (le-ltb 0 c.work (omega arith))

module _ {x : Course} (tr : Trace x) (i : ℕ) (h : i < length x.tasks) (a : ℕ) where
  -- in the ticks from its release to the next, job a is settled if it is not live
  settled_now : (n : ℕ) → n < (task_in_lem x i).t → settled_in_lem x i (tick_of x i a n) ≡ suc a - bit (live (core_in x i a n))
  unfolding settled_in_lem
  settled_now zero l =
      rw add-zero
      (omega (
        arith,
        ceil_multiple a (task_in_lem x i).t l,
        rest_bit (x.core (a * (task_in_lem x i).t) i) (rests_at tr i h a).no_work,
        rw add-zero at (live_bit (core_in x i a 0) (begins tr i h a).has_work),
      ))
  settled_now (suc n) l =
      rw (continues tr i h a n l, add-suc (a * (task_in_lem x i).t) n, ceil_at a (task_in_lem x i).t n (omega arith))

  settled_next : (n : ℕ) → n < (task_in_lem x i).t → settled_in_lem x i (suc (tick_of x i a n)) ≡ suc a - bit (live (x.core (suc (tick_of x i a n)) i))
  unfolding settled_in_lem
  settled_next n l = rw (ceil_at a (task_in_lem x i).t n l)

  module _ (n : ℕ) (l : n < (task_in_lem x i).t) where
    not_settled : RunsIn x i a n → settled_in_lem x i (tick_of x i a n) ≡ a
    not_settled u = omega (arith, settled_now n l, live_bit (core_in x i a n) u.has_work)

    long_settled : Rests (core_in x i a n) → settled_in_lem x i (tick_of x i a n) ≡ suc a
    long_settled u = omega (arith, settled_now n l, rest_bit (core_in x i a n) u.no_work)

    still_open : suc n < life_in x i a → Stage x i a n → settled_in_lem x i (suc (tick_of x i a n)) ≡ a
    still_open k s = go (phase_after tr i h a n s)
      where
        go : PhaseIn x i a (suc n) (x.core (suc (tick_of x i a n)) i) → settled_in_lem x i (suc (tick_of x i a n)) ≡ a
        go (running k' u) = omega (arith, settled_next n l, live_bit (x.core (suc (tick_of x i a n)) i) u.has_work)
        go (resting k' u) = absurd (omega arith)

    now_settled : life_in x i a ≤ suc n → Stage x i a n → settled_in_lem x i (suc (tick_of x i a n)) ≡ suc a
    now_settled k s = go (phase_after tr i h a n s)
      where
        go : PhaseIn x i a (suc n) (x.core (suc (tick_of x i a n)) i) → settled_in_lem x i (suc (tick_of x i a n)) ≡ suc a
        go (running k' u) = absurd (omega arith)
        go (resting k' u) = omega (arith, settled_next n l, rest_bit (x.core (suc (tick_of x i a n)) i) u.no_work)

-- row i's window at the start of tick t shows its settled jobs
abbrev pub ShowsIn : Course → (ℕ → ℕ → Tally) → ℕ → ℕ → Type 0
ShowsIn x tally i t = Shows (task_in_lem x i).k (tally t i).window (in_time_in x i) (settled_in_lem x i t)

amended_released : (o : Outcome) (r : Task) (kind : ℕ) (y : Tally) → (amended o r kind y).released ≡ y.released
unfolding settled
amended_released nothing r kind y = refl
amended_released met r kind y = refl
amended_released missed r kind y = refl

module _ {x : Course} (tr : Trace x) {tally : ℕ → ℕ → Tally} (ta : Tallied x tally) (i : ℕ) (h : i < length x.tasks) where
  -- released jobs, before a tick and in it
  released_step : (t : ℕ) → ceil (suc t) (task_in_lem x i).t ≡ ceil t (task_in_lem x i).t + bit (due (x.core t i))
  released_step t =
      elim (dec_le 1 (x.core t i).wait) [
        | yes l ↦ rw (ne_eqb (x.core t i).wait 0 (λ e. omega arith)) (omega (arith, ceil_else (tr.ranged i h) (on_clock tr i h t) l))
        | no l ↦ rw (eq-eqb (x.core t i).wait 0 (omega arith)) (omega (arith, ceil_due (tr.ranged i h) (on_clock tr i h t) (omega arith)))
      ]

  pub released_is : (t : ℕ) → (tally t i).released ≡ (tally 0 i).released + ceil t (task_in_lem x i).t
  released_is zero = omega (arith, ceil_zero (task_in_lem x i).t (tr.ranged i h).t_low)
  released_is (suc t) =
      ap (λ y. y.released) (ta.counts t i h) ∙ amended_released (ending x t i) _ _ _ ∙ omega (arith, released_is t, released_step t)

  -- in the n-th tick after its release job a is the last that was released
  pub released_in : (a n : ℕ) → n < (task_in_lem x i).t
      → (counted_release (due (x.core (tick_of x i a n) i)) (tally (tick_of x i a n) i)).released ≡ (tally 0 i).released + (a + 1)
  released_in a n l =
      omega (arith, released_is (tick_of x i a n), released_step (tick_of x i a n), ceil_at a (task_in_lem x i).t n l)

  task_in : (t : ℕ) → (in_tick x t i).task ≡ task_in_lem x i
  unfolding release
  task_in t = (on_clock tr i h t).task_is

  tally_after_lem : (t : ℕ) (o : Outcome) → ending x t i ≡ o
      → tally (suc t) i ≡ amended o (task_in_lem x i) (in_tick x t i).kind (counted_release (due (x.core t i)) (tally t i))
  tally_after_lem t o e = ta.counts t i h ∙ rw (e, task_in t)

  -- a settled job is shown from then on
  shows_step : (a n : ℕ) → n < (task_in_lem x i).t → Stage x i a n → ShowsIn x tally i (tick_of x i a n) → ShowsIn x tally i (suc (tick_of x i a n))
  unfolding settled
  shows_step a n l (going k u w e) s =
      rw (tally_after_lem (tick_of x i a n) nothing e, still_open tr i h a n l k (going k u w e))
      (rw (not_settled tr i h a n l u) at s)
  shows_step a n l (meets e k u m) s =
      rw (tally_after_lem (tick_of x i a n) met m, now_settled tr i h a n l (omega arith) (meets e k u m))
      (shift_shows (rw (not_settled tr i h a n l u) at s) 1 (sym (ap bit (took_in_time x i a k))))
  shows_step a n l (misses e k u m) s =
      rw (tally_after_lem (tick_of x i a n) missed m, now_settled tr i h a n l (omega arith) (misses e k u m))
      (shift_shows (rw (not_settled tr i h a n l u) at s) 0 (sym (ap bit (took_late x i a k))))
  shows_step a n l (over k u e) s =
      rw (tally_after_lem (tick_of x i a n) nothing e, now_settled tr i h a n l (omega arith) (over k u e))
      (rw (long_settled tr i h a n l u) at s)

  -- a row that keeps its mandatory jobs in time never counts a mandatory miss
  module _ (kept : Keeps x i) where
    missed_optional : (t : ℕ) → ending x t i ≡ missed → eqb (in_tick x t i).kind 1 ≡ false
    missed_optional t e =
        elim (known (eqb (in_tick x t i).kind 1)) [
          | passes k ↦ absurd
              (never_missed tr i h kept t (urgent_is (in_tick x t i) (settled_live _ _ (λ n. nothing_missed n e)) (eqb-true _ 1 k)) e)
          | fails k ↦ k
        ]

    misses_same : (t : ℕ) (o : Outcome) → ending x t i ≡ o → (tally (suc t) i).mx ≡ (tally t i).mx
    unfolding settled
    misses_same t nothing e = rw (tally_after_lem t nothing e)
    misses_same t met e = rw (tally_after_lem t met e, both_fail (eqb (in_tick x t i).kind 1) false refl) (omega arith)
    misses_same t missed e = rw (tally_after_lem t missed e, missed_optional t e) (omega arith)

    pub misses_stay : (t : ℕ) → (tally t i).mx ≡ (tally 0 i).mx
    misses_stay zero = refl
    misses_stay (suc t) = misses_same t (ending x t i) refl ∙ misses_stay t

  -- from a fresh window on
  module _ (fresh_start : (tally 0 i).window ≡ (fresh_tally (task_in_lem x i)).window) where
    shows_start : ShowsIn x tally i 0
    unfolding settled_in_lem
    shows_start =
        rw (fresh_start, tr.start i h, ceil_zero (task_in_lem x i).t (tr.ranged i h).t_low) (fresh_shows (task_in_lem x i).k (in_time_in x i))

    pub shows : (t : ℕ) → ShowsIn x tally i t
    shows zero = shows_start
    shows (suc t) =
        each_tick tr i h (λ t. ShowsIn x tally i t → ShowsIn x tally i (suc t))
        (λ a n l. shows_step a n l (stage tr i h a n l)) t (shows t)

    -- and there every window holds m marks, and none is broken
    module _ (kept : Keeps x i) where
      pub marks_enough : (t : ℕ) → (task_in_lem x i).m ≤ marks (task_in_lem x i).k (tally t i).window
      marks_enough t = enough_marks (pattern_of (tr.ranged i h)) (shows t) kept

      unbroken : (w : ℕ) → (task_in_lem x i).m ≤ marks (task_in_lem x i).k w → bit (ltb (marks (task_in_lem x i).k w) (task_in_lem x i).m) ≡ 0
      unbroken w l = ap bit (le-ltb (marks (task_in_lem x i).k w) (task_in_lem x i).m l)

      breaks_same : (t : ℕ) (o : Outcome) → ending x t i ≡ o → (tally (suc t) i).broken ≡ (tally t i).broken
      unfolding settled
      breaks_same t nothing e = rw (tally_after_lem t nothing e)
      breaks_same t met e = rw (tally_after_lem t met e) (omega (arith, unbroken _ (rw (tally_after_lem t met e) at (marks_enough (suc t)))))
      breaks_same t missed e = rw (tally_after_lem t missed e) (omega (arith, unbroken _ (rw (tally_after_lem t missed e) at (marks_enough (suc t)))))

      pub breaks_stay : (t : ℕ) → (tally t i).broken ≡ (tally 0 i).broken
      breaks_stay zero = refl
      breaks_stay (suc t) = breaks_same t (ending x t i) refl ∙ breaks_stay t
