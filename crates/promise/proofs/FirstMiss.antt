-- What a user sees of a first miss: after D ticks the row's count of missed mandatory jobs is 1.
use mathlib.Core.Bool.{Bool, true, false}
use mathlib.Core.List.{List}
use mathlib.Core.Path.{◌≡◌, refl, sym, ap, ◌∙◌}
use Prim.Native.Nat.{ℕ, suc, ◌+◌, ◌-◌, ◌*◌, ◌<◌}
use native.Mathlib.Omega.{arith}
use lib.Dec.{eqb}
use lib.ListN.{length, get_or, length-map}
use borrow.Author.Tests.{eq-eqb}
use Rattle.law.specs.Sums.{bit}
use Rattle.law.specs.Table.{Task, row, Ranged, WellFormed}
use Rattle.law.specs.Tick.{Row, Core, State, Outcome, nothing, met, missed, no_row, fresh_row, core_at, live, outcome, settles, choose, full_length, begin, advance_row, settled, finish, tick, run, fresh, work_after, clock_end}
use Rattle.law.specs.Sound.{SoundRow}
use Rattle.law.specs.Promise.{state_after, during, settling, MissedFirst, Named}
use Rattle.law.proofs.Verdict.{pattern_of}
use Rattle.law.proofs.Ticks.{begun_length, finished_at, begin_sound, full_lengths_lem, run_sound, run_time, run_length}
use Rattle.law.proofs.Fresh.{fresh_sound}
use Rattle.theory.proofs.Demand.{named}

-- the outcome as a number, to tell them apart
outcome_number : Outcome → ℕ
outcome_number nothing = 0
outcome_number met = 1
outcome_number missed = 2

-- only a live job is missed
missed_live : (chosen : Bool) (c : Core) → outcome chosen c ≡ missed → live c ≡ true
unfolding outcome outcome_number
missed_live chosen c e = by (live c) e
  where
    by : (b : Bool) → settles b (eqb (work_after chosen c) 0) (eqb (c.left - 1) 0) ≡ missed → b ≡ true
    by true e = refl
    by false e = absurd (omega (arith, ap outcome_number e))

-- a missed mandatory job is counted
missed_counted : (chosen : Bool) (r : Row) → outcome chosen r.core ≡ missed → r.core.kind ≡ 1 → r.tally.mx ≡ 0 → (advance_row chosen r).tally.mx ≡ 1
unfolding settled
missed_counted chosen r e k z = rw (e, eq-eqb r.core.kind 1 k, z)

module _ (tasks : List Task) (well : WellFormed tasks) (i : ℕ) (late : MissedFirst tasks i) where
  s : State
  s = state_after tasks ((row tasks i).d - 1)

  r : Row
  r = get_or (during s) i no_row

  g : Ranged (row tasks i)
  g = well.ranged i late.is_row

  many : length s.rows ≡ length tasks
  unfolding s state_after fresh
  many = run_length ((row tasks i).d - 1) (fresh tasks) ∙ length-map tasks fresh_row

  there : i < length (during s)
  unfolding during
  there = omega (arith, begun_length (full_length s.rows) s.rows, many, late.is_row)

  sound : SoundRow 1 s.time r
  unfolding s r state_after during fresh begin
  sound =
      let f = run_sound ((row tasks i).d - 1) (fresh tasks) (fresh_sound tasks well) (omega (arith, g.d_high, g.t_high)) in
      let early : (state_after tasks ((row tasks i).d - 1)).time < clock_end = omega (arith, run_time ((row tasks i).d - 1) (fresh tasks), g.d_high, g.t_high) in
      (begin_sound (full_length s.rows) s f early (full_lengths_lem s f)).rows i there

  named_first : Named tasks i 0
  named_first = named tasks well.ranged i 0 late.is_row

  at : 0 * (row tasks i).t + ((row tasks i).d - 1) ≡ (row tasks i).d - 1
  at = omega arith

  one : r.tally.released ≡ 1
  unfolding r s
  one =
      ap (λ (t : ℕ). (get_or (during (state_after tasks t)) i no_row).tally.released) (sym at)
      ∙ named_first.released ((row tasks i).d - 1) (omega (arith, g.d_low, g.d_high))

  running : live r.core ≡ true
  unfolding r s settling
  running = missed_live _ _ late.miss

  mandatory_job : r.core.kind ≡ 1
  unfolding r s
  mandatory_job =
      ap (λ (t : ℕ). (core_at (during (state_after tasks t)) i).kind) (sym at)
      ∙ named_first.kind ((row tasks i).d - 1) (omega (arith, g.d_low, g.d_high)) (ap (λ (t : ℕ). live (core_at (during (state_after tasks t)) i)) at ∙ running)
      ∙ ap bit (pattern_of g).first

  none : r.tally.mx ≡ 0
  none = omega (arith, sound.tally.balance, one, ap bit running)

  ticked : get_or (state_after tasks (suc ((row tasks i).d - 1))).rows i no_row ≡ advance_row (eqb i (choose (during s))) r
  unfolding s r state_after run tick finish begin during
  ticked = finished_at (choose (during s)) (during s) i there

  pub first_miss : (get_or (state_after tasks (row tasks i).d).rows i no_row).tally.mx ≡ 1
  unfolding s r settling
  first_miss =
      let e : (row tasks i).d ≡ suc ((row tasks i).d - 1) = omega (arith, g.d_low) in
      ap (λ (t : ℕ). (get_or (state_after tasks t).rows i no_row).tally.mx) e ∙ ap (λ (z : Row). z.tally.mx) ticked
      ∙ missed_counted _ r late.miss mandatory_job none
