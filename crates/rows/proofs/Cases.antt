-- What a tick does to one row, case by case, as the code tells the cases apart.
use mathlib.Core.Bool.{Bool}
use mathlib.Core.Logic.{⊎_elim}
use mathlib.Core.Path.{◌≡◌, sym, ap, ◌∙◌}
use Prim.Native.Nat.{ℕ, ◌-◌, ◌/◌, ◌%◌, ◌^◌, ◌<◌}
use native.Mathlib.Nat.{add-zero}
use native.Mathlib.Omega.{arith}
use lib.Dec.{eqb}
use Rattle.law.specs.Sums.{bit}
use Rattle.law.specs.Table.{Task, kind_of, word_of}
use Rattle.law.specs.Tick.{Core, Row, work_after, advance, advance_row, release, release_row}
use Rattle.law.specs.Sound.{Resting, Running, SoundCore}
use Rattle.law.proofs.Question.{bits_tell}
use Rattle.law.proofs.Sound.{outcome_none, outcome_met, outcome_missed, outcome_on, live_yes, live_no, due_yes, due_no}

-- the bit at a place of a row's pattern word is the kind that the law gives
pub kind_tells : (r : Task) (place w : ℕ) → place < r.k → w ≡ word_of r → eqb (w / 2 ^ place % 2) 1 ≡ kind_of r place
unfolding word_of
kind_tells r place w l e = ap (λ (z : ℕ). eqb (z / 2 ^ place % 2) 1) e ∙ bits_tell (kind_of r) r.k place l

pub ruleset releases = (due_yes, kind_tells)

-- a row that waits is not changed by the releases
pub waits_on : (work : ℕ) (r : Row) → (r.core.wait ≡ 0 → ⊥) → r ≡ release_row work r
unfolding release
waits_on work r h =
    rw (due_no r.core h)
    (λ i. record {
      core = r.core;
      tally =
          record {
            window = r.tally.window;
            released = sym (add-zero r.tally.released) i;
            mm = r.tally.mm;
            mx = r.tally.mx;
            om = r.tally.om;
            ox = r.tally.ox;
            broken = r.tally.broken;
            held = r.tally.held;
          };
    })

-- a row with one tick less to wait
abbrev pub waited : Row → Row
waited r =
    record {
      core =
          record {
            task = r.core.task;
            wait = r.core.wait - 1;
            place = r.core.place;
            work = r.core.work;
            left = r.core.left;
            kind = r.core.kind;
          };
      tally = r.tally;
    }

-- with work it is running
pub is_running : {c : Core} → SoundCore 1 c → (c.work ≡ 0 → ⊥) → Running c
is_running s h = ⊎_elim (λ r. absurd (h r.work)) (λ r. r) s.job

pub is_resting : {c : Core} → SoundCore 1 c → c.work ≡ 0 → Resting c
is_resting {c} s e = ⊎_elim (λ r. r) (λ (r : Running c). absurd (omega (arith, r.work))) s.job

pub ruleset outcomes = (outcome_none, outcome_met, outcome_missed, outcome_on, live_yes, live_no, is_running, is_resting)

module _ (chosen : Bool) (r : Row) where
  pub rests : Resting r.core → waited r ≡ advance_row chosen r
  unfolding advance
  rests s =
      rw (outcome_none chosen r.core (live_no r.core s.work))
      (λ i. record {
        core =
            record {
              task = r.core.task;
              wait = r.core.wait - 1;
              place = r.core.place;
              work = same r.core.work (bit chosen) s.work i;
              left = same r.core.left 1 s.left i;
              kind = r.core.kind;
            };
        tally = r.tally;
      })
    where
      same : (x y : ℕ) → x ≡ 0 → x ≡ x - y
      same x y e = omega arith

  module _ (s : Running r.core) where
    pub goes_on_lem : (work_after chosen r.core ≡ 0 → ⊥) → (r.core.left ≡ 1 → ⊥) → (work left : ℕ) → work ≡ work_after chosen r.core → left ≡ r.core.left - 1
        → ◌≡◌ {A = Row}
        (record {
          core =
              record {
                task = r.core.task;
                wait = r.core.wait - 1;
                place = r.core.place;
                work = work;
                left = left;
                kind = r.core.kind;
              };
          tally = r.tally;
        })
        (advance_row chosen r)
    unfolding advance
    goes_on_lem w l work left ew el =
        rw (outcome_on chosen r.core (live_yes r.core s.work) w (λ q. l (omega (arith, s.left_low))))
        (λ i. record {
          core =
              record {
                task = r.core.task;
                wait = r.core.wait - 1;
                place = r.core.place;
                work = ew i;
                left = el i;
                kind = r.core.kind;
              };
          tally = r.tally;
        })
