-- From lists to single rows, place by place, and what one tick does to a single row, case by case.
use mathlib.Core.Bool.{Bool, true, false}
use mathlib.Core.List.{List}
use mathlib.Core.Path.{◌≡◌, refl, ap, fun_ext, ◌∙◌}
use Prim.Native.Nat.{ℕ, zero, suc, ◌+◌, ◌-◌, ◌≤◌, ◌<◌}
use native.Mathlib.Decide.{dec_le}
use native.Mathlib.Nat.{zero-add}
use native.Mathlib.Omega.{arith}
use lib.Dec.{eqb}
use lib.ListN.{length, get_or}
use borrow.Author.Tests.{lt-ltb, ltb-true, le-ltb, eq-eqb, ne_eqb, eqb-true}
use Rattle.law.specs.Sums.{bit, both, pick, first}
use Rattle.law.specs.Table.{kind_of}
use Rattle.law.specs.Tick.{Core, Row, State, Outcome, nothing, met, missed, no_row, core_at, next_place, release, live, urgent, choose}
use Rattle.law.specs.Tick.{work_after, outcome, advance, release_row, advance_row, full_length, release_all, advance_all, begin, finish, tick, run}
use Rattle.law.proofs.First.{first_found_lem, first_least}
use Rattle.law.proofs.Sums.{map_from_at, map_from_length, map_from_keeps}
use Rattle.law.proofs.Tests.{passes, fails, known, never_both, both_left, both_right, both_pass, both_fail, bit_most}

-- a tick in which the job that row i releases has the length `work i`
unfoldable pub step_with : (ℕ → ℕ) → List Row → List Row
step_with work rows = advance_all (choose (release_all work rows)) (release_all work rows)

-- n ticks in which the job that row i releases in tick t has the length `work t i`
unfoldable pub run_with : (ℕ → ℕ → ℕ) → ℕ → List Row → List Row
run_with work zero rows = rows
run_with work (suc n) rows = step_with (work n) (run_with work n rows)

pub released_length : (work : ℕ → ℕ) (rows : List Row) → length (release_all work rows) ≡ length rows
unfolding release_all
released_length work rows = map_from_length (λ i. release_row (work i)) 0 rows

pub released_at : (work : ℕ → ℕ) (rows : List Row) (i : ℕ) → i < length rows
    → get_or (release_all work rows) i no_row ≡ release_row (work i) (get_or rows i no_row)
unfolding release_all
released_at work rows i h =
    map_from_at (λ i. release_row (work i)) 0 rows i no_row h
    ∙ ap (λ (z : ℕ). release_row (work z) (get_or rows i no_row)) (zero-add i)

pub advanced_length : (chosen : ℕ) (rows : List Row) → length (advance_all chosen rows) ≡ length rows
unfolding advance_all
advanced_length chosen rows = map_from_length (λ i. advance_row (eqb i chosen)) 0 rows

pub advanced_at : (chosen : ℕ) (rows : List Row) (i : ℕ) → i < length rows
    → get_or (advance_all chosen rows) i no_row ≡ advance_row (eqb i chosen) (get_or rows i no_row)
unfolding advance_all
advanced_at chosen rows i h =
    map_from_at (λ i. advance_row (eqb i chosen)) 0 rows i no_row h
    ∙ ap (λ (z : ℕ). advance_row (eqb z chosen) (get_or rows i no_row)) (zero-add i)

pub stepped_length : (work : ℕ → ℕ) (rows : List Row) → length (step_with work rows) ≡ length rows
unfolding step_with
stepped_length work rows = advanced_length (choose (release_all work rows)) (release_all work rows) ∙ released_length work rows

pub stepped_at : (work : ℕ → ℕ) (rows : List Row) (i : ℕ) → i < length rows
    → get_or (step_with work rows) i no_row ≡ advance_row (eqb i (choose (release_all work rows))) (release_row (work i) (get_or rows i no_row))
unfolding step_with
stepped_at work rows i h =
    advanced_at (choose (release_all work rows)) (release_all work rows) i (omega (arith, released_length work rows))
    ∙ ap (advance_row (eqb i (choose (release_all work rows)))) (released_at work rows i h)

pub run_length : (work : ℕ → ℕ → ℕ) (n : ℕ) (rows : List Row) → length (run_with work n rows) ≡ length rows
unfolding run_with
run_length work zero rows = refl
run_length work (suc n) rows = stepped_length (work n) (run_with work n rows) ∙ run_length work n rows

-- the tasks stay
task_stepped : (work : ℕ → ℕ) (rows : List Row) (i : ℕ) → (core_at (step_with work rows) i).task ≡ (core_at rows i).task
unfolding step_with release_all advance_all release advance
task_stepped work rows i =
    map_from_keeps (λ i. advance_row (eqb i (choose (release_all work rows)))) (λ r. r.core.task) (λ i r. refl) 0 _ i no_row
    ∙ map_from_keeps (λ i. release_row (work i)) (λ r. r.core.task) (λ i r. refl) 0 rows i no_row

pub task_stays : (work : ℕ → ℕ → ℕ) (n : ℕ) (rows : List Row) (i : ℕ) → (core_at (run_with work n rows) i).task ≡ (core_at rows i).task
unfolding run_with
task_stays work zero rows i = refl
task_stays work (suc n) rows i = task_stepped (work n) (run_with work n rows) i ∙ task_stays work n rows i

pub full_stays : (work : ℕ → ℕ → ℕ) (n : ℕ) (rows : List Row) → full_length (run_with work n rows) ≡ full_length rows
full_stays work n rows = fun_ext (λ i. ap (λ r. r.c) (task_stays work n rows i))

-- the law's tick and run are those at full length
pub tick_full : (s : State) → (tick s).rows ≡ step_with (full_length s.rows) s.rows
unfolding tick begin finish step_with
tick_full s = refl

pub run_full : (n : ℕ) (s : State) → (run n s).rows ≡ run_with (λ t. full_length s.rows) n s.rows
unfolding run_with run
run_full zero s = refl
run_full (suc n) s =
    let rows : List Row = run_with (λ t. full_length s.rows) n s.rows in
    tick_full (run n s) ∙ ap (λ (rows : List Row). step_with (full_length rows) rows) (run_full n s)
    ∙ ap (λ (work : ℕ → ℕ). step_with work rows) (full_stays (λ t. full_length s.rows) n s.rows)

-- The choice: if row i is urgent then the chosen row is urgent and not below i.
module _ (rows : List Row) (i : ℕ) (h : i < length rows) (e : urgent (core_at rows i) ≡ true) where
  most_urgent_lem : ℕ
  most_urgent_lem = first (λ j. urgent (core_at rows j)) (length rows)

  urgent_found : most_urgent_lem ≤ i
  unfolding most_urgent_lem
  urgent_found = first_least (λ j. urgent (core_at rows j)) 0 (length rows) i (omega arith) e

  choice_is : choose rows ≡ most_urgent_lem
  unfolding choose most_urgent_lem
  choice_is = rw (lt-ltb (first (λ j. urgent (core_at rows j)) (length rows)) (length rows) (omega (arith, urgent_found)))

  pub choice_high : choose rows ≤ i
  choice_high = omega (arith, choice_is, urgent_found)

  pub choice_urgent : urgent (core_at rows (choose rows)) ≡ true
  unfolding most_urgent_lem
  choice_urgent =
      ap (λ (z : ℕ). urgent (core_at rows z)) choice_is
      ∙ first_found_lem (λ j. urgent (core_at rows j)) 0 (length rows) (omega (arith, urgent_found))

-- Release: a due row gets its next job, another one stays as it is.
abbrev pub begun : ℕ → Core → Core
begun work c =
    record {
      task = c.task;
      wait = c.task.t;
      place = next_place c.task c.place;
      work = work;
      left = c.task.d;
      kind = bit (kind_of c.task c.place);
    }

module _ (work : ℕ) (c : Core) where
  pub release_due : c.wait ≡ 0 → release work c ≡ begun work c
  unfolding release
  release_due e = rw (eq-eqb c.wait 0 e)

  pub release_none : 1 ≤ c.wait → release work c ≡ c
  unfolding release
  release_none h = rw (ne_eqb c.wait 0 (λ e. omega arith))

-- The outcome of a live job, by the work that is left of it and its deadline; a row without one has none.
module _ (b : Bool) (c : Core) where
  pub outcome_met : 1 ≤ c.work → work_after b c ≡ 0 → outcome b c ≡ met
  unfolding outcome
  outcome_met h e = rw (lt-ltb 0 c.work h, eq-eqb (work_after b c) 0 e)

  pub outcome_missed : 1 ≤ work_after b c → c.left ≤ 1 → outcome b c ≡ missed
  unfolding outcome
  outcome_missed h l =
      rw (lt-ltb 0 c.work (omega arith), ne_eqb (work_after b c) 0 (λ e. omega arith), eq-eqb (c.left - 1) 0 (omega arith))

  pub outcome_going : 1 ≤ work_after b c → 2 ≤ c.left → outcome b c ≡ nothing
  unfolding outcome
  outcome_going h l =
      rw (lt-ltb 0 c.work (omega arith), ne_eqb (work_after b c) 0 (λ e. omega arith), ne_eqb (c.left - 1) 0 (λ e. omega arith))

  pub outcome_none : c.work ≡ 0 → outcome b c ≡ nothing
  unfolding outcome
  outcome_none e = rw (le-ltb 0 c.work (omega arith))

pub nothing_met : {o : Outcome} → o ≡ nothing → o ≡ met → ⊥
nothing_met p q = let z : ◌≡◌ {A = ℕ} 0 1 = cc in omega arith

pub nothing_missed : {o : Outcome} → o ≡ nothing → o ≡ missed → ⊥
nothing_missed p q = let z : ◌≡◌ {A = ℕ} 0 1 = cc in omega arith

pub met_missed : {o : Outcome} → o ≡ met → o ≡ missed → ⊥
met_missed p q = let z : ◌≡◌ {A = ℕ} 0 1 = cc in omega arith

-- the work of a row's live mandatory job
unfoldable pub owed : Core → ℕ
owed c = pick (urgent c) c.work 0

pub owed_urgent : (c : Core) → urgent c ≡ true → owed c ≡ c.work
unfolding owed
owed_urgent c e = rw e

pub owed_none : (c : Core) → urgent c ≡ false → owed c ≡ 0
unfolding owed
owed_none c e = rw e

pub urgent_is : (c : Core) → 1 ≤ c.work → c.kind ≡ 1 → urgent c ≡ true
urgent_is c h e = rw (lt-ltb 0 c.work h, e)

pub urgent_live : (c : Core) → urgent c ≡ true → 1 ≤ c.work
urgent_live c e = ltb-true 0 c.work (both_left _ _ e)

pub urgent_kind : (c : Core) → urgent c ≡ true → c.kind ≡ 1
urgent_kind c e = eqb-true c.kind 1 (both_right (live c) _ e)

pub owed_most : (c : Core) → owed c ≤ c.work
owed_most c =
    elim (known (urgent c)) [
      | passes e ↦ omega (arith, owed_urgent c e)
      | fails e ↦ omega (arith, owed_none c e)
    ]

-- What is left of a row after a tick: a settled job leaves nothing, another one goes on.
abbrev pub cleared : Core → Core
cleared c = record { task = c.task; wait = c.wait - 1; place = c.place; work = 0; left = 0; kind = 0 }

abbrev pub worn : Bool → Core → Core
worn b c = record { task = c.task; wait = c.wait - 1; place = c.place; work = work_after b c; left = c.left - 1; kind = c.kind }

module _ (b : Bool) (c : Core) where
  pub advance_met : outcome b c ≡ met → advance b c ≡ cleared c
  unfolding advance
  advance_met e = rw e

  pub advance_missed : outcome b c ≡ missed → advance b c ≡ cleared c
  unfolding advance
  advance_missed e = rw e

  pub advance_going : outcome b c ≡ nothing → advance b c ≡ worn b c
  unfolding advance
  advance_going e = rw e

  -- one unit of mandatory work is done if the row is chosen and urgent
  abbrev pub done : ℕ
  done = bit (both b (urgent c))

  done_urgent : urgent c ≡ true → done ≡ bit b
  done_urgent e = ap bit (both_pass b (urgent c) e)

  done_none : urgent c ≡ false → done ≡ 0
  done_none e = ap bit (both_fail b (urgent c) e)

  done_most : done ≤ owed c
  done_most =
      elim (known (urgent c)) [
        | passes e ↦ omega (arith, done_urgent e, bit_most b, owed_urgent c e, urgent_live c e)
        | fails e ↦ omega (arith, done_none e)
      ]

  -- what is settled was live; of a met job nothing is left, and it was chosen
  pub settled_live : (outcome b c ≡ nothing → ⊥) → 1 ≤ c.work
  settled_live s =
      elim (dec_le 1 c.work) [
        | yes h ↦ h
        | no h ↦ absurd (s (outcome_none b c (omega arith)))
      ]

  pub met_over : outcome b c ≡ met → work_after b c ≡ 0
  met_over e =
      elim (dec_le 1 (work_after b c)) [
        | yes h ↦ elim (dec_le c.left 1) [
          | yes l ↦ absurd (met_missed e (outcome_missed b c h l))
          | no l ↦ absurd (nothing_met (outcome_going b c h (omega arith)) e)
        ]
        | no h ↦ omega arith
      ]

  pub met_chosen : outcome b c ≡ met → b ≡ true
  met_chosen e =
      elim (known b) [
        | passes p ↦ p
        | fails p ↦ absurd (omega (arith, settled_live (λ n. nothing_met n e), met_over e, ap bit p))
      ]

  met_all : outcome b c ≡ met → owed c ≤ done
  met_all e =
      elim (known (urgent c)) [
        | passes u ↦ omega (arith, owed_urgent c u, done_urgent u, met_over e)
        | fails u ↦ omega (arith, owed_none c u)
      ]

  worn_urgent : urgent (worn b c) ≡ true → urgent c ≡ true
  worn_urgent e = urgent_is c (omega (arith, urgent_live (worn b c) e)) (urgent_kind (worn b c) e)

  worn_mandatory : urgent c ≡ true → owed (worn b c) + done ≡ owed c
  worn_mandatory e =
      elim (dec_le 1 (work_after b c)) [
        | yes h ↦ omega (arith, owed_urgent c e, done_urgent e, owed_urgent (worn b c) (urgent_is (worn b c) h (urgent_kind c e)))
        | no h ↦ omega (arith, owed_urgent c e, done_urgent e, owed_most (worn b c), urgent_live c e, bit_most b)
      ]

  worn_else : urgent c ≡ false → owed (worn b c) + done ≡ owed c
  worn_else e =
      elim (known (urgent (worn b c))) [
        | passes u ↦ absurd (never_both (urgent c) (worn_urgent u) e)
        | fails u ↦ omega (arith, owed_none c e, done_none e, owed_none (worn b c) u)
      ]

  worn_owed : owed (worn b c) + done ≡ owed c
  worn_owed =
      elim (known (urgent c)) [
        | passes e ↦ worn_mandatory e
        | fails e ↦ worn_else e
      ]

  cleared_owed : owed (cleared c) ≡ 0
  unfolding owed
  cleared_owed = refl

  -- a tick takes no less from what is owed ..
  pub spent_most : owed (advance b c) + done ≤ owed c
  spent_most = go (outcome b c) refl
    where
      go : (o : Outcome) → outcome b c ≡ o → owed (advance b c) + done ≤ owed c
      go nothing e = rw (advance_going e) (omega (arith, worn_owed))
      go met e = rw (advance_met e) (omega (arith, cleared_owed, done_most))
      go missed e = rw (advance_missed e) (omega (arith, cleared_owed, done_most))

  -- .. and no more, unless a mandatory job is dropped
  pub spent_least : (urgent c ≡ true → outcome b c ≡ missed → ⊥) → owed c ≤ owed (advance b c) + done
  spent_least kept = go (outcome b c) refl
    where
      go : (o : Outcome) → outcome b c ≡ o → owed c ≤ owed (advance b c) + done
      go nothing e = rw (advance_going e) (omega (arith, worn_owed))
      go met e = omega (arith, met_all e)
      go missed e =
          elim (known (urgent c)) [
            | passes u ↦ absurd (kept u e)
            | fails u ↦ omega (arith, owed_none c u)
          ]
