-- A well-formed state stays one: what the tests say as facts, and what releases and work do to the facts of a row.
use mathlib.Core.Bool.{Bool, true, false}
use mathlib.Core.Logic.{◌⊎◌, inl, inr, ⊎_elim}
use mathlib.Core.Path.{◌≡◌, refl, ap}
use Prim.Native.Nat.{ℕ, zero, suc, ◌+◌, ◌-◌, ◌^◌, ◌≤◌, ◌<◌}
use native.Mathlib.Decide.{ℕ_discrete}
use native.Mathlib.Omega.{arith}
use lib.Dec.{leb, ltb, eqb}
use borrow.Author.Tests.{leb-true, ltb-true, ltb-false, eqb-true, eqb-false, le-leb, lt-ltb, le-ltb, eq-eqb, ne_eqb}
use Rattle.law.specs.Sums.{bit, both, pick}
use Rattle.law.specs.Refusal.{within}
use Rattle.law.specs.Table.{Task, Ranged, kind_of}
use Rattle.law.specs.Tick.{Core, Tally, Row, nothing, met, missed, live, due, next_place, release, release_row, outcome, advance, advance_row, work_after, settled, shifted, marks}
use Rattle.law.specs.State.{settled_counts, job_well, core_well, tally_well, row_well}
use Rattle.law.specs.Sound.{Resting, Running, SoundCore, SoundTally, SoundRow}
use Rattle.law.proofs.Tests.{both_left, both_right, both_true, bit_most, known, passes, fails}
use Rattle.law.proofs.Question.{within_low, within_high, within_is}
use Rattle.law.proofs.Window.{shifted_low}

-- ---- a row's tests are the facts at phase 0

pub live_yes : (c : Core) → 1 ≤ c.work → live c ≡ true
live_yes c h = lt-ltb 0 c.work h

pub live_no : (c : Core) → c.work ≡ 0 → live c ≡ false
live_no c e = le-ltb 0 c.work (omega arith)

job_facts : (c : Core) → job_well c ≡ true → Resting c ⊎ Running c
unfolding job_well
job_facts c e = by (live c) refl e
  where
    by : (b : Bool) → live c ≡ b
        → pick b (both (within 1 c.wait c.left) (leb c.kind 1)) (both (eqb c.left 0) (eqb c.kind 0)) ≡ true
        → Resting c ⊎ Running c
    by true l e =
        inr
        (record {
          work = ltb-true 0 c.work l;
          left_low = within_low 1 c.wait c.left (both_left _ _ e);
          left_high = within_high 1 c.wait c.left (both_left _ _ e);
          kind = leb-true c.kind 1 (both_right (within 1 c.wait c.left) _ e);
        })
    by false l e =
        inl
        (record {
          work = omega (arith, ltb-false 0 c.work l);
          left = eqb-true c.left 0 (both_left _ _ e);
          kind = eqb-true c.kind 0 (both_right (eqb c.left 0) _ e);
        })

job_tests : (c : Core) → Resting c ⊎ Running c → job_well c ≡ true
unfolding job_well
job_tests c j = ⊎_elim rest run j
  where
    rest : Resting c → pick (live c) (both (within 1 c.wait c.left) (leb c.kind 1)) (both (eqb c.left 0) (eqb c.kind 0)) ≡ true
    rest r = rw (live_no c r.work) (both_true _ _ (eq-eqb c.left 0 r.left) (eq-eqb c.kind 0 r.kind))

    run : Running c → pick (live c) (both (within 1 c.wait c.left) (leb c.kind 1)) (both (eqb c.left 0) (eqb c.kind 0)) ≡ true
    run r =
        rw (live_yes c r.work)
        (both_true _ _ (within_is 1 c.wait c.left r.left_low r.left_high) (le-leb c.kind 1 r.kind))

core_facts : (c : Core) → Ranged c.task → core_well c ≡ true → SoundCore 0 c
unfolding core_well
core_facts c g e =
    let w = both_right (ltb c.wait c.task.t) _ e in
    let p = both_right (ltb c.place c.task.k) _ w in
    record {
      ranged = g;
      wait_low = omega arith;
      wait_high = omega (arith, ltb-true c.wait c.task.t (both_left _ _ e));
      place = ltb-true c.place c.task.k (both_left _ _ w);
      work = leb-true c.work c.task.c (both_left _ _ p);
      job = job_facts c (both_right (leb c.work c.task.c) _ p);
    }

core_tests : (c : Core) → SoundCore 0 c → core_well c ≡ true
unfolding core_well
core_tests c s =
    both_true _ _ (lt-ltb c.wait c.task.t (omega (arith, s.wait_high)))
    (both_true _ _ (lt-ltb c.place c.task.k s.place)
    (both_true _ _ (le-leb c.work c.task.c s.work) (job_tests c s.job)))

tally_facts : (time : ℕ) (c : Core) (y : Tally) → tally_well time c y ≡ true → SoundTally 0 time c y
unfolding tally_well
tally_facts time c y e =
    let b = both_right (leb y.released time) _ e in
    let w = both_right (eqb y.released (settled_counts y + bit (live c))) _ b in
    let h = both_right (leb y.broken (settled_counts y)) _ w in
    record {
      released = omega (arith, leb-true y.released time (both_left _ _ e));
      balance = eqb-true y.released (settled_counts y + bit (live c)) (both_left _ _ b);
      broken = leb-true y.broken (settled_counts y) (both_left _ _ w);
      window = ltb-true y.window (2 ^ c.task.k) (both_left _ _ h);
      held = eqb-true y.held (marks c.task.k y.window) (both_right (ltb y.window (2 ^ c.task.k)) _ h);
    }

tally_tests : (time : ℕ) (c : Core) (y : Tally) → SoundTally 0 time c y → tally_well time c y ≡ true
unfolding tally_well
tally_tests time c y s =
    both_true _ _ (le-leb y.released time (omega (arith, s.released)))
    (both_true _ _ (eq-eqb y.released (settled_counts y + bit (live c)) s.balance)
    (both_true _ _ (le-leb y.broken (settled_counts y) s.broken)
    (both_true _ _ (lt-ltb y.window (2 ^ c.task.k) s.window) (eq-eqb y.held (marks c.task.k y.window) s.held))))

pub row_facts : (time : ℕ) (r : Row) → Ranged r.core.task → row_well time r ≡ true → SoundRow 0 time r
unfolding row_well
row_facts time r g e =
    record {
      core = core_facts r.core g (both_right (tally_well time r.core r.tally) _ e);
      tally = tally_facts time r.core r.tally (both_left _ _ e);
    }

pub row_tests : (time : ℕ) (r : Row) → SoundRow 0 time r → row_well time r ≡ true
unfolding row_well
row_tests time r s =
    both_true _ _ (tally_tests time r.core r.tally s.tally) (core_tests r.core s.core)

-- ---- a release takes phase 0 to phase 1

pub due_yes : (c : Core) → c.wait ≡ 0 → due c ≡ true
due_yes c e = eq-eqb c.wait 0 e

pub due_no : (c : Core) → (c.wait ≡ 0 → ⊥) → due c ≡ false
due_no c h = ne_eqb c.wait 0 h

-- where wait is 0 nothing is live
due_resting : (c : Core) → SoundCore 0 c → c.wait ≡ 0 → Resting c
due_resting c s e = ⊎_elim (λ r. r) (λ (r : Running c). absurd (omega (arith, r.left_low, r.left_high))) s.job

next_in : (r : Task) (place : ℕ) → place < r.k → next_place r place < r.k
unfolding next_place
next_in r place h =
    elim (known (eqb (place + 1) r.k)) [
      | passes e ↦ rw e (omega arith)
      | fails e ↦ rw e (omega (arith, eqb-false (place + 1) r.k e))
    ]

module _ (time work : ℕ) (r : Row) (s : SoundRow 0 time r) where
  released_due : r.core.wait ≡ 0 → 1 ≤ work → work ≤ r.core.task.c → SoundRow 1 time (release_row work r)
  unfolding release
  released_due e low high =
      let c = r.core in
      let y = s.tally in
      let rest = due_resting c s.core e in
      rw (due_yes c e)
      (record {
        core =
            record {
              ranged = s.core.ranged;
              wait_low = s.core.ranged.t_low;
              wait_high = omega arith;
              place = next_in c.task c.place s.core.place;
              work = high;
              job =
                  inr
                  (record {
                    work = low;
                    left_low = s.core.ranged.d_low;
                    left_high = s.core.ranged.d_high;
                    kind = bit_most (kind_of c.task c.place);
                  });
            };
        tally =
            record {
              released = omega (arith, y.released);
              balance = rw (lt-ltb 0 work low) (omega (arith, y.balance, ap bit (live_no c rest.work)));
              broken = y.broken;
              window = y.window;
              held = y.held;
            };
      })

  released_later : (r.core.wait ≡ 0 → ⊥) → SoundRow 1 time (release_row work r)
  unfolding release
  released_later h =
      let y = s.tally in
      rw (due_no r.core h)
      (record {
        core =
            record {
              ranged = s.core.ranged;
              wait_low = omega arith;
              wait_high = omega (arith, s.core.wait_high);
              place = s.core.place;
              work = s.core.work;
              job = s.core.job;
            };
        tally =
            record {
              released = omega (arith, y.released);
              balance = omega (arith, y.balance);
              broken = y.broken;
              window = y.window;
              held = y.held;
            };
      })

  -- the work matters only where a job is released
  pub release_sound : (r.core.wait ≡ 0 → 1 ≤ work) → (r.core.wait ≡ 0 → work ≤ r.core.task.c) → SoundRow 1 time (release_row work r)
  release_sound low high = elim (ℕ_discrete r.core.wait 0) [ yes e ↦ released_due e (low e) (high e) | no h ↦ released_later h ]

-- ---- work and settling take phase 1 to phase 0, one tick later

-- a settled job is counted once
pub counted_once : (m k kind mark : ℕ) (y : Tally) → kind ≤ 1 → mark ≤ 1 → settled_counts (settled m k kind mark y) ≡ settled_counts y + 1
unfolding settled
counted_once m k zero zero y h l = omega arith
counted_once m k zero (suc zero) y h l = omega arith
counted_once m k (suc zero) zero y h l = omega arith
counted_once m k (suc zero) (suc zero) y h l = omega arith
counted_once m k zero (suc (suc mark)) y h l = absurd (omega arith)
counted_once m k (suc zero) (suc (suc mark)) y h l = absurd (omega arith)
counted_once m k (suc (suc kind)) mark y h l = absurd (omega arith)

pub outcome_none : (chosen : Bool) (c : Core) → live c ≡ false → outcome chosen c ≡ nothing
unfolding outcome
outcome_none chosen c e = rw e

pub outcome_met : (chosen : Bool) (c : Core) → live c ≡ true → work_after chosen c ≡ 0 → outcome chosen c ≡ met
unfolding outcome
outcome_met chosen c e w = rw (e, eq-eqb (work_after chosen c) 0 w)

pub outcome_missed : (chosen : Bool) (c : Core) → live c ≡ true → (work_after chosen c ≡ 0 → ⊥) → c.left - 1 ≡ 0 → outcome chosen c ≡ missed
unfolding outcome
outcome_missed chosen c e w l = rw (e, ne_eqb (work_after chosen c) 0 w, eq-eqb (c.left - 1) 0 l)

pub outcome_on : (chosen : Bool) (c : Core) → live c ≡ true → (work_after chosen c ≡ 0 → ⊥) → (c.left - 1 ≡ 0 → ⊥) → outcome chosen c ≡ nothing
unfolding outcome
outcome_on chosen c e w l = rw (e, ne_eqb (work_after chosen c) 0 w, ne_eqb (c.left - 1) 0 l)

module _ (time : ℕ) (chosen : Bool) (r : Row) (s : SoundRow 1 time r) where
  idle_advanced : Resting r.core → SoundRow 0 (time + 1) (advance_row chosen r)
  unfolding advance
  idle_advanced rest =
      let c = r.core in
      let y = s.tally in
      rw (outcome_none chosen c (live_no c rest.work))
      (record {
        core =
            record {
              ranged = s.core.ranged;
              wait_low = omega arith;
              wait_high = omega (arith, s.core.wait_low, s.core.wait_high);
              place = s.core.place;
              work = omega (arith, s.core.work);
              job = inl (record { work = omega (arith, rest.work); left = omega (arith, rest.left); kind = rest.kind });
            };
        tally =
            record {
              released = omega (arith, y.released);
              balance = rw (le-ltb 0 (work_after chosen c) (omega (arith, rest.work))) (omega (arith, y.balance, ap bit (live_no c rest.work)));
              broken = y.broken;
              window = y.window;
              held = y.held;
            };
      })

  -- a job that is settled, with its mark
  module _ (run : Running r.core) (mark : ℕ) (small : mark ≤ 1) where
    settled_row : Row
    settled_row =
        record {
          core =
              record {
                task = r.core.task;
                wait = r.core.wait - 1;
                place = r.core.place;
                work = 0;
                left = 0;
                kind = 0;
              };
          tally = settled r.core.task.m r.core.task.k r.core.kind mark r.tally;
        }

    settled_advanced : SoundRow 0 (time + 1) settled_row
    unfolding settled_row settled
    settled_advanced =
        let c = r.core in
        let y = s.tally in
        let m = c.task.m in
        let k = c.task.k in
        let once = counted_once m k c.kind mark r.tally run.kind small in
        record {
          core =
              record {
                ranged = s.core.ranged;
                wait_low = omega arith;
                wait_high = omega (arith, s.core.wait_low, s.core.wait_high);
                place = s.core.place;
                work = omega arith;
                job = inl (record { work = refl; left = refl; kind = refl });
              };
          tally =
              record {
                released = omega (arith, y.released);
                balance = omega (arith, y.balance, once, ap bit (live_yes c run.work));
                broken = omega (arith, y.broken, once, bit_most (ltb (marks k (shifted k r.tally.window mark)) m));
                window = shifted_low k r.tally.window mark;
                held = refl;
              };
        }

  going_on : Running r.core → (work_after chosen r.core ≡ 0 → ⊥) → (r.core.left - 1 ≡ 0 → ⊥) → SoundRow 0 (time + 1) (advance_row chosen r)
  unfolding advance
  going_on run w l =
      let c = r.core in
      let y = s.tally in
      rw (outcome_on chosen c (live_yes c run.work) w l)
      (record {
        core =
            record {
              ranged = s.core.ranged;
              wait_low = omega arith;
              wait_high = omega (arith, s.core.wait_low, s.core.wait_high);
              place = s.core.place;
              work = omega (arith, s.core.work);
              job =
                  inr
                  (record {
                    work = omega arith;
                    left_low = omega arith;
                    left_high = omega (arith, run.left_high);
                    kind = run.kind;
                  });
            };
        tally =
            record {
              released = omega (arith, y.released);
              balance = rw (lt-ltb 0 (work_after chosen c) (omega arith)) (omega (arith, y.balance, ap bit (live_yes c run.work)));
              broken = y.broken;
              window = y.window;
              held = y.held;
            };
      })

  busy_advanced : Running r.core → SoundRow 0 (time + 1) (advance_row chosen r)
  unfolding advance settled_row
  busy_advanced run =
      let c = r.core in
      elim (ℕ_discrete (work_after chosen c) 0) [
        | yes w ↦ rw (outcome_met chosen c (live_yes c run.work) w) (settled_advanced run 1 (omega arith))
        | no w ↦ elim (ℕ_discrete (c.left - 1) 0) [
          | yes l ↦ rw (outcome_missed chosen c (live_yes c run.work) w l) (settled_advanced run 0 (omega arith))
          | no l ↦ going_on run w l
        ]
      ]

  pub advance_sound : SoundRow 0 (time + 1) (advance_row chosen r)
  advance_sound = ⊎_elim idle_advanced busy_advanced s.core.job
