-- The life of a job, tick by tick: it runs from its release until it is met or its deadline comes, its row then rests, and no other job is released meanwhile.
use mathlib.Core.Bool.{Bool, true, false}
use mathlib.Core.Path.{◌≡◌, refl, sym, ap, subst, ◌∙◌}
use Prim.Native.Nat.{ℕ, zero, suc, ◌+◌, ◌-◌, ◌*◌, ◌/◌, ◌%◌, ◌≤◌, ◌<◌, min}
use native.Mathlib.Decide.{dec_le, dec_lt}
use native.Mathlib.Nat.{add-zero, add-suc, zero-mul, suc-mul, div-add-mod', mod-lt}
use native.Mathlib.Omega.{arith}
use lib.Dec.{leb}
use lib.ListN.{length}
use borrow.Author.Tests.{leb-true, leb-false, le-leb, lt-leb}
use Rattle.law.specs.Sums.{bit, ceil, first_from, among}
use Rattle.law.specs.Table.{Task, kind_of}
use Rattle.law.specs.Tick.{Core, Outcome, nothing, met, missed, urgent, work_after, outcome, advance}
use Rattle.law.specs.Promise.{is_met}
use Rattle.law.proofs.Pattern.{among_turn}
use Rattle.law.proofs.First.{first_low, first_found_lem, first_before}
use Rattle.law.proofs.Sums.{among_mono}
use Rattle.law.proofs.Tests.{passes, fails, known, never_both}
use Rattle.law.proofs.Verdict.{pattern_of}
use Rattle.theory.proofs.Rows.{begun, release_due, release_none, outcome_met, outcome_missed, outcome_going, outcome_none}
use Rattle.theory.proofs.Rows.{nothing_missed, met_missed, cleared, worn, advance_met, advance_missed, advance_going, urgent_kind}
use Rattle.theory.proofs.Clock.{OnClock, clock_start, clock_step, due_at, wait_at, next_kind, ceil_multiple}
use Rattle.theory.proofs.Trace.{Course, task_in_lem, in_tick, is_chosen, ending, Trace}

-- the ticks that job a of row i took: the first n from 1 to D for which its settling n ticks after its release is met; D + 1 where there is none
abbrev pub met_after : Course → ℕ → ℕ → ℕ → Bool
met_after x i a n = is_met (ending x (a * (task_in_lem x i).t + n - 1) i)

unfoldable pub took_in : Course → ℕ → ℕ → ℕ
took_in x i a = first_from (met_after x i a) 1 (task_in_lem x i).d

-- job a of row i finished by its deadline
unfoldable pub in_time_in : Course → ℕ → ℕ → Bool
in_time_in x i a = leb (took_in x i a) (task_in_lem x i).d

-- row i drops no mandatory job at the end of tick t
abbrev pub Unmissed : Course → ℕ → ℕ → Type 0
Unmissed x t i = urgent (in_tick x t i) ≡ true → ending x t i ≡ missed → ⊥

-- every mandatory job of row i finished by its deadline
abbrev pub Keeps : Course → ℕ → Type 0
Keeps x i = (a : ℕ) → kind_of (task_in_lem x i) a ≡ true → in_time_in x i a ≡ true

module _ (x : Course) (i a : ℕ) where
  pub in_time_took : in_time_in x i a ≡ true → took_in x i a ≤ (task_in_lem x i).d
  unfolding in_time_in
  in_time_took e = leb-true (took_in x i a) (task_in_lem x i).d e

  pub late_took : in_time_in x i a ≡ false → (task_in_lem x i).d < took_in x i a
  unfolding in_time_in
  late_took e = leb-false (took_in x i a) (task_in_lem x i).d e

  pub took_in_time : took_in x i a ≤ (task_in_lem x i).d → in_time_in x i a ≡ true
  unfolding in_time_in
  took_in_time l = le-leb (took_in x i a) (task_in_lem x i).d l

  pub took_late : (task_in_lem x i).d < took_in x i a → in_time_in x i a ≡ false
  unfolding in_time_in
  took_late l = lt-leb (took_in x i a) (task_in_lem x i).d l

-- the ticks from its release to its settling
abbrev pub life_in : Course → ℕ → ℕ → ℕ
life_in x i a = min (took_in x i a) (task_in_lem x i).d

-- a row with a live job that was released n ticks ago
pub record Runs (r : Task) (kind : Bool) (n : ℕ) (c : Core) : Type 0 where
  pub has_work : 1 ≤ c.work
  pub left_is : c.left + n ≡ r.d
  pub young : n < r.d
  pub kind_is : c.kind ≡ bit kind

-- a row without a live job
pub record Rests (c : Core) : Type 0 where
  pub no_work : c.work ≡ 0
  pub no_left : c.left ≡ 0
  pub no_kind : c.kind ≡ 0

-- a row n ticks after the release of a job that lives for `life` ticks
pub data Phase (r : Task) (kind : Bool) (life n : ℕ) (c : Core) : Type 0 where
  running : n < life → Runs r kind n c → Phase r kind life n c
  resting : life ≤ n → Rests c → Phase r kind life n c

abbrev pub PhaseIn : Course → ℕ → ℕ → ℕ → Core → Type 0
PhaseIn x i a n c = Phase (task_in_lem x i) (kind_of (task_in_lem x i) a) (life_in x i a) n c

-- the tick n ticks after the release of job a of row i; the row in it, the work that it leaves, and how it ends
abbrev pub tick_of : Course → ℕ → ℕ → ℕ → ℕ
tick_of x i a n = a * (task_in_lem x i).t + n

abbrev pub core_in : Course → ℕ → ℕ → ℕ → Core
core_in x i a n = in_tick x (tick_of x i a n) i

abbrev pub work_in : Course → ℕ → ℕ → ℕ → ℕ
work_in x i a n = work_after (is_chosen x (tick_of x i a n) i) (core_in x i a n)

abbrev pub end_in : Course → ℕ → ℕ → ℕ → Outcome
end_in x i a n = ending x (tick_of x i a n) i

abbrev pub RunsIn : Course → ℕ → ℕ → ℕ → Type 0
RunsIn x i a n = Runs (task_in_lem x i) (kind_of (task_in_lem x i) a) n (core_in x i a n)

-- that tick in the life of job a
pub data Stage (x : Course) (i a n : ℕ) : Type 0 where
  going : suc n < life_in x i a → RunsIn x i a n → 1 ≤ work_in x i a n → end_in x i a n ≡ nothing → Stage x i a n
  meets : suc n ≡ took_in x i a → took_in x i a ≤ (task_in_lem x i).d → RunsIn x i a n → end_in x i a n ≡ met → Stage x i a n
  misses : suc n ≡ (task_in_lem x i).d → (task_in_lem x i).d < took_in x i a → RunsIn x i a n → end_in x i a n ≡ missed → Stage x i a n
  over : life_in x i a ≤ n → Rests (core_in x i a n) → end_in x i a n ≡ nothing → Stage x i a n

pub is_met_lem : (o : Outcome) → is_met o ≡ true → o ≡ met
is_met_lem nothing e = absurd (never_both false e refl)
is_met_lem met e = refl
is_met_lem missed e = absurd (never_both false e refl)

-- a live job that is not met has work left
unmet_work : (b : Bool) (c : Core) → 1 ≤ c.work → is_met (outcome b c) ≡ false → 1 ≤ work_after b c
unmet_work b c h e =
    elim (dec_le 1 (work_after b c)) [
      | yes l ↦ l
      | no l ↦ absurd (never_both (is_met (outcome b c)) (ap is_met (outcome_met b c h (omega arith))) e)
    ]

cleared_rests : (c : Core) → Rests (cleared c)
cleared_rests c = record { no_work = refl; no_left = refl; no_kind = refl }

module _ {x : Course} (tr : Trace x) (i : ℕ) (h : i < length x.tasks) where
  pub on_clock : (t : ℕ) → OnClock (task_in_lem x i) t (x.core t i)
  on_clock zero = rw (tr.start i h) (clock_start (task_in_lem x i) (tr.ranged i h))
  on_clock (suc t) = rw (tr.next t i h) (clock_step (tr.ranged i h) (on_clock t) (is_chosen x t i) (x.work t i))

  module _ (a : ℕ) where
    pub took_low : 1 ≤ took_in x i a
    unfolding took_in
    took_low = first_low (met_after x i a) 1 (task_in_lem x i).d

    -- the settling n + 1 ticks after the release is that of the n-th tick
    settled_in : (n : ℕ) → met_after x i a (suc n) ≡ is_met (end_in x i a n)
    settled_in n = ap (λ (z : ℕ). is_met (ending x z i)) (omega arith)

    unmet_before : (n : ℕ) → suc n < took_in x i a → is_met (end_in x i a n) ≡ false
    unfolding took_in
    unmet_before n l = sym (settled_in n) ∙ first_before (met_after x i a) 1 (task_in_lem x i).d (suc n) (omega arith) l

    pub met_then : (n : ℕ) → suc n ≡ took_in x i a → took_in x i a ≤ (task_in_lem x i).d → end_in x i a n ≡ met
    unfolding took_in
    met_then n e l =
        is_met_lem _ (sym (settled_in n) ∙ ap (met_after x i a) e ∙ first_found_lem (met_after x i a) 1 (task_in_lem x i).d (omega arith))

    -- a running job keeps work until it is met, and with it goes on up to the deadline
    pub work_left : (n : ℕ) → RunsIn x i a n → suc n < took_in x i a → 1 ≤ work_in x i a n
    work_left n u l = unmet_work _ _ u.has_work (unmet_before n l)

    goes_on_lem : (n : ℕ) → RunsIn x i a n → suc n < life_in x i a → end_in x i a n ≡ nothing
    goes_on_lem n u l = outcome_going _ _ (work_left n u (omega arith)) (omega arith)

    misses_then : (n : ℕ) → RunsIn x i a n → suc n ≡ (task_in_lem x i).d → (task_in_lem x i).d < took_in x i a → end_in x i a n ≡ missed
    misses_then n u e l = outcome_missed _ _ (work_left n u (omega arith)) (omega arith)

    -- job a runs from its release ..
    begins_as : core_in x i a 0 ≡ begun (x.work (a * (task_in_lem x i).t) i) (x.core (a * (task_in_lem x i).t) i)
    begins_as = rw add-zero (release_due _ _ (due_at a (tr.ranged i h) (on_clock (a * (task_in_lem x i).t))))

    pub begins_work : (core_in x i a 0).work ≡ x.work (a * (task_in_lem x i).t) i
    begins_work = ap (λ c. c.work) begins_as

    begins_kind : bit (kind_of (x.core (a * (task_in_lem x i).t) i).task (x.core (a * (task_in_lem x i).t) i).place) ≡ bit (kind_of (task_in_lem x i) a)
    begins_kind =
        next_kind (tr.ranged i h) (on_clock (a * (task_in_lem x i).t))
        ∙ ap (λ (z : ℕ). bit (kind_of (task_in_lem x i) z)) (ceil_multiple a (task_in_lem x i).t (tr.ranged i h).t_low)

    pub begins : RunsIn x i a 0
    begins =
        rw begins_as
        (record {
          has_work = tr.shortest (a * (task_in_lem x i).t) i h;
          left_is = rw (on_clock (a * (task_in_lem x i).t)).task_is (omega arith);
          young = (tr.ranged i h).d_low;
          kind_is = begins_kind;
        })

    -- .. and no other job is released in the T - 1 ticks after it
    pub continues : (n : ℕ) → suc n < (task_in_lem x i).t → core_in x i a (suc n) ≡ x.core (suc (tick_of x i a n)) i
    continues n l =
        rw (add-suc (a * (task_in_lem x i).t) n)
        (release_none _ (x.core (suc (tick_of x i a n)) i) (omega (arith, wait_at a n (omega arith) (on_clock (suc (tick_of x i a n))))))

    last_stage : (n : ℕ) → suc n ≡ life_in x i a → RunsIn x i a n → Stage x i a n
    last_stage n e u =
        elim (dec_le (took_in x i a) (task_in_lem x i).d) [
          | yes l ↦ meets (omega arith) l u (met_then n (omega arith) l)
          | no l ↦ misses (omega arith) (omega arith) u (misses_then n u (omega arith) (omega arith))
        ]

    running_stage : (n : ℕ) → n < life_in x i a → RunsIn x i a n → Stage x i a n
    running_stage n l u =
        elim (dec_lt (suc n) (life_in x i a)) [
          | yes k ↦ going k u (work_left n u (omega arith)) (goes_on_lem n u k)
          | no k ↦ last_stage n (omega arith) u
        ]

    stage_of : (n : ℕ) → PhaseIn x i a n (core_in x i a n) → Stage x i a n
    stage_of n (running l u) = running_stage n l u
    stage_of n (resting l u) = over l u (outcome_none _ _ u.no_work)

    after_stage : (n : ℕ) → Stage x i a n → PhaseIn x i a (suc n) (advance (is_chosen x (tick_of x i a n) i) (core_in x i a n))
    after_stage n (going l u w e) =
        rw (advance_going _ _ e)
        (running l (record { has_work = w; left_is = omega arith; young = omega arith; kind_is = u.kind_is }))
    after_stage n (meets e l u m) = rw (advance_met _ _ m) (resting (omega arith) (cleared_rests (core_in x i a n)))
    after_stage n (misses e l u m) = rw (advance_missed _ _ m) (resting (omega arith) (cleared_rests (core_in x i a n)))
    after_stage n (over l u e) =
        rw (advance_going _ _ e)
        (resting (omega arith) (record { no_work = omega arith; no_left = omega arith; no_kind = u.no_kind }))

    pub phase_after : (n : ℕ) → Stage x i a n → PhaseIn x i a (suc n) (x.core (suc (tick_of x i a n)) i)
    phase_after n s = rw (tr.next (tick_of x i a n) i h) (after_stage n s)

    phase : (n : ℕ) → n < (task_in_lem x i).t → PhaseIn x i a n (core_in x i a n)
    phase zero l = running (omega (arith, took_low, (tr.ranged i h).d_low)) begins
    phase (suc n) l = rw (continues n l) (phase_after n (stage_of n (phase n (omega arith))))

    -- every tick from a job's release to the next is a stage of its life
    pub stage : (n : ℕ) → n < (task_in_lem x i).t → Stage x i a n
    stage n l = stage_of n (phase n l)

    pub alive : (n : ℕ) → n < life_in x i a → RunsIn x i a n
    alive n l = go (phase n (omega (arith, (tr.ranged i h).d_high)))
      where
        go : PhaseIn x i a n (core_in x i a n) → RunsIn x i a n
        go (running k u) = u
        go (resting k u) = absurd (omega arith)

    -- what is live then is job a
    pub live_kind : (n : ℕ) → n < (task_in_lem x i).t → 1 ≤ (core_in x i a n).work → (core_in x i a n).kind ≡ bit (kind_of (task_in_lem x i) a)
    live_kind n l w = go (phase n l)
      where
        go : PhaseIn x i a n (core_in x i a n) → (core_in x i a n).kind ≡ bit (kind_of (task_in_lem x i) a)
        go (running k u) = u.kind_is
        go (resting k u) = absurd (omega arith)

    -- a job that takes too long is missed at its deadline
    pub missed_then : (n : ℕ) → suc n ≡ (task_in_lem x i).d → (task_in_lem x i).d < took_in x i a → end_in x i a n ≡ missed
    missed_then n e l = misses_then n (alive n (omega arith)) e l

    -- and a job is settled in the last tick of its life alone
    pub settled_last : (n : ℕ) → n < (task_in_lem x i).t → (end_in x i a n ≡ nothing → ⊥) → suc n ≡ life_in x i a
    settled_last n l s = go (stage n l)
      where
        go : Stage x i a n → suc n ≡ life_in x i a
        go (going k u w e) = absurd (s e)
        go (meets e k u m) = omega arith
        go (misses e k u m) = omega arith
        go (over k u e) = absurd (s e)

    -- a job that goes on is next seen with the work that was left of it
    pub continues_as : (n : ℕ) → suc n < life_in x i a → core_in x i a (suc n) ≡ worn (is_chosen x (tick_of x i a n) i) (core_in x i a n)
    continues_as n l =
        continues n (omega (arith, (tr.ranged i h).d_high)) ∙ tr.next (tick_of x i a n) i h
        ∙ advance_going _ _ (goes_on_lem n (alive n (omega arith)) l)

  -- where a job is due, the one before it is settled
  pub rests_at : (a : ℕ) → Rests (x.core (a * (task_in_lem x i).t) i)
  rests_at zero = rw (zero-mul, tr.start i h) (record { no_work = refl; no_left = refl; no_kind = refl })
  rests_at (suc a) =
      let n : ℕ = (task_in_lem x i).t - 1 in
      let e : suc a * (task_in_lem x i).t ≡ suc (tick_of x i a n) = omega (arith, suc-mul a (task_in_lem x i).t, (tr.ranged i h).t_low) in
      rw e (go (phase_after a n (stage a n (omega (arith, (tr.ranged i h).t_low)))))
    where
      go : {c : Core} → PhaseIn x i a (suc ((task_in_lem x i).t - 1)) c → Rests c
      go (running l u) = absurd (omega (arith, (tr.ranged i h).d_high, (tr.ranged i h).t_low))
      go (resting l u) = u

  pub rests_due : (t : ℕ) → (x.core t i).wait ≡ 0 → Rests (x.core t i)
  rests_due t e =
      let whole : ceil t (task_in_lem x i).t * (task_in_lem x i).t ≡ t = omega (arith, (on_clock t).wait_is) in
      subst (λ (z : ℕ). Rests (x.core z i)) whole (rests_at (ceil t (task_in_lem x i).t))

  -- what holds in every tick of every job's life holds in every tick
  pub each_tick : (P : ℕ → Type 0) → ((a n : ℕ) → n < (task_in_lem x i).t → P (tick_of x i a n)) → (t : ℕ) → P t
  each_tick P p t =
      subst P (div-add-mod' t (task_in_lem x i).t) (p (t / (task_in_lem x i).t) (t % (task_in_lem x i).t) (mod-lt t (tr.ranged i h).t_low))

  -- A row whose mandatory jobs are all in time never misses one, and any k jobs in a row include m in time.
  module _ (kept : Keeps x i) where
    stage_kept : (a n : ℕ) → Stage x i a n → Unmissed x (tick_of x i a n) i
    stage_kept a n (going k u w e) v m = nothing_missed e m
    stage_kept a n (meets e k u m') v m = met_missed m' m
    stage_kept a n (misses e k u m') v m =
        elim (known (kind_of (task_in_lem x i) a)) [
          | passes p ↦ omega (arith, in_time_took x i a (kept a p))
          | fails p ↦ omega (arith, urgent_kind (core_in x i a n) v, u.kind_is, ap bit p)
        ]
    stage_kept a n (over k u e) v m = nothing_missed e m

    pub never_missed : (t : ℕ) → Unmissed x t i
    never_missed = each_tick (λ t. Unmissed x t i) (λ a n l. stage_kept a n (stage a n l))

    pub windows_kept : (a : ℕ) → (task_in_lem x i).m ≤ among (in_time_in x i) a (task_in_lem x i).k
    windows_kept a =
        omega (
          arith,
          among_turn (pattern_of (tr.ranged i h)) a,
          among_mono (kind_of (task_in_lem x i)) (in_time_in x i) a (task_in_lem x i).k kept,
        )
