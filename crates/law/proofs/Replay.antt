-- A replay, tick by tick: how far it goes, which number is the first out of range, and that a legal one keeps a state well formed.
use mathlib.Core.Bool.{true, false}
use mathlib.Core.List.{List, [], ◌∷◌}
use mathlib.Core.Path.{◌≡◌, refl, sym, ap, ◌∙◌, subst}
use Prim.Native.Nat.{ℕ, zero, suc, ◌+◌, ◌-◌, ◌≤◌, ◌<◌}
use native.Mathlib.Decide.{dec_le, dec_lt}
use native.Mathlib.Nat.{zero-add}
use native.Mathlib.Omega.{arith}
use lib.Dec.{eqb}
use lib.ListN.{length}
use borrow.Author.Tests.{eq-eqb, ne_eqb, ltb-false, not-false}
use Rattle.law.specs.Sums.{bit, among}
use Rattle.law.specs.Refusal.{accepted, refused, within}
use Rattle.law.specs.Tick.{Row, State, core_at, due, clock_end}
use Rattle.law.specs.State.{tasks_of, state_of, laid, run_answer}
use Rattle.law.specs.Sound.{SoundState, Lengths}
use Rattle.law.specs.Replay.{Replay, releases, place_of, logged, goes_on, ticked, replayed, out_of_range, bad_row, is_bad, bad_tick, replay_told, replay_answer, replay_words}
use Rattle.law.proofs.First.{first_before, first_is}
use Rattle.law.proofs.Question.{within_low, within_high}
use Rattle.law.proofs.Sound.{due_yes}
use Rattle.law.proofs.Sums.{among_size}
use Rattle.law.proofs.Tests.{passes, fails, known, never_both}
use Rattle.law.proofs.Ticks.{tick_with_sound, tick_with_time, tick_with_tasks}

-- ---- the jobs that a tick releases, row by row

pub releases_none : (rows : List Row) → releases rows 0 ≡ 0
unfolding releases among
releases_none rows = refl

pub releases_next : (rows : List Row) (i : ℕ) → releases rows (suc i) ≡ releases rows i + bit (due (core_at rows i))
unfolding releases among
releases_next rows i = ap (λ (z : ℕ). among (λ j. due (core_at rows j)) 0 i + bit (due (core_at rows z))) (zero-add i)

pub releases_most : (rows : List Row) (i : ℕ) → releases rows i ≤ i
unfolding releases
releases_most rows i = among_size (λ j. due (core_at rows j)) 0 i

pub releases_more : (rows : List Row) (i d : ℕ) → releases rows i ≤ releases rows (d + i)
releases_more rows i zero = let e : 0 + i ≡ i = omega arith in rw e (omega arith)
releases_more rows i (suc d) = let e : suc d + i ≡ suc (d + i) = omega arith in rw e (omega (arith, releases_more rows i d, releases_next rows (d + i)))

-- ---- one tick more, or the stop

module _ (log : List ℕ) (n : ℕ) (s : State) where
  pub replay_on : goes_on log (replayed log n s) ≡ true → replayed log (suc n) s ≡ ticked log (replayed log n s)
  unfolding replayed
  replay_on e = rw e

  pub replay_stop : goes_on log (replayed log n s) ≡ false → replayed log (suc n) s ≡ replayed log n s
  unfolding replayed
  replay_stop e = rw e

-- how far a replay of n ticks goes: every tick before the one at which it stops is done, and it stays there
pub record Walked (log : List ℕ) (s : State) (n : ℕ) : Type 0 where
  pub most : (replayed log n s).ticks ≤ n
  pub on : (t : ℕ) → t < (replayed log n s).ticks → goes_on log (replayed log t s) ≡ true
  pub each : (t : ℕ) → t ≤ (replayed log n s).ticks → (replayed log t s).ticks ≡ t
  pub same : replayed log n s ≡ replayed log (replayed log n s).ticks s
  pub stopped : (replayed log n s).ticks < n → goes_on log (replayed log n s) ≡ false

module _ (log : List ℕ) (s : State) where
  walked_start : Walked log s 0
  unfolding replayed
  walked_start =
      record {
        most = omega arith;
        on = λ t h. absurd (omega arith);
        each = λ t h. let e : t ≡ 0 = omega arith in rw e;
        same = refl;
        stopped = λ h. absurd (omega arith);
      }

  module _ (n : ℕ) (w : Walked log s n) where
    -- where it goes on it had not stopped before
    all_done : goes_on log (replayed log n s) ≡ true → (replayed log n s).ticks ≡ n
    all_done e =
        elim (dec_lt (replayed log n s).ticks n) [
          | yes l ↦ absurd (never_both _ e (w.stopped l))
          | no l ↦ omega (arith, w.most)
        ]

    walked_on : goes_on log (replayed log n s) ≡ true → Walked log s (suc n)
    walked_on e =
        let all : (replayed log (suc n) s).ticks ≡ suc n = ap (λ x. x.ticks) (replay_on log n s e) ∙ omega (arith, all_done e) in
        record {
          most = omega arith;
          on = λ t h. elim (dec_lt t n) [
            | yes l ↦ w.on t (omega (arith, all_done e))
            | no l ↦ let q : t ≡ n = omega arith in rw q e
          ];
          each = λ t h. elim (dec_le t n) [
            | yes l ↦ w.each t (omega (arith, all_done e))
            | no l ↦ let q : t ≡ suc n = omega arith in rw q all
          ];
          same = ap (λ (z : ℕ). replayed log z s) (sym all);
          stopped = λ h. absurd (omega arith);
        }

    walked_stop : goes_on log (replayed log n s) ≡ false → Walked log s (suc n)
    walked_stop e =
        let stays : replayed log (suc n) s ≡ replayed log n s = replay_stop log n s e in
        let same-ticks : (replayed log (suc n) s).ticks ≡ (replayed log n s).ticks = ap (λ x. x.ticks) stays in
        record {
          most = omega (arith, w.most);
          on = λ t h. w.on t (omega arith);
          each = λ t h. w.each t (omega arith);
          same = stays ∙ w.same ∙ ap (λ (z : ℕ). replayed log z s) (sym same-ticks);
          stopped = λ h. ap (goes_on log) stays ∙ e;
        }

  pub walked : (n : ℕ) → Walked log s n
  walked zero = walked_start
  walked (suc n) =
      elim (known (goes_on log (replayed log n s))) [
        | passes e ↦ walked_on n (walked n) e
        | fails e ↦ walked_stop n (walked n) e
      ]

  -- once it has stopped it stays
  pub stays : (t d : ℕ) → goes_on log (replayed log t s) ≡ false → replayed log (d + t) s ≡ replayed log t s
  stays t zero e = ap (λ (z : ℕ). replayed log z s) (omega arith)
  stays t (suc d) e =
      ap (λ (z : ℕ). replayed log z s) (omega arith) ∙ replay_stop log (d + t) s (ap (goes_on log) (stays t d e) ∙ e) ∙ stays t d e

  -- a replay of more ticks does no fewer
  pub ticks_more : (t d : ℕ) → (replayed log t s).ticks ≤ (replayed log (d + t) s).ticks
  ticks_more t zero = let e : 0 + t ≡ t = omega arith in rw e (omega arith)
  ticks_more t (suc d) =
      let same : suc d + t ≡ suc (d + t) = omega arith in
      rw same
      (elim (known (goes_on log (replayed log (d + t) s))) [
        | passes e ↦ omega (arith, ticks_more t d, ap (λ x. x.ticks) (replay_on log (d + t) s e))
        | fails e ↦ omega (arith, ticks_more t d, ap (λ x. x.ticks) (replay_stop log (d + t) s e))
      ])

-- ---- numbers out of range

-- a tick whose numbers are in range is one with lengths from 1 to C
pub legal : (log : List ℕ) (x : Replay) → is_bad log x ≡ false → Lengths (logged log x) x.state.rows
unfolding bad_row out_of_range
legal log x e =
    record {
      low = λ i h w. within_low 1 (core_at x.state.rows i).task.c (logged log x i) (inside i h w);
      high = λ i h w. within_high 1 (core_at x.state.rows i).task.c (logged log x i) (inside i h w);
    }
  where
    inside : (i : ℕ) → i < length x.state.rows → (core_at x.state.rows i).wait ≡ 0
        → within 1 (core_at x.state.rows i).task.c (logged log x i) ≡ true
    inside i h w =
        let none = first_before (out_of_range log x) 0 (length x.state.rows) i (omega arith) (omega (arith, ltb-false (bad_row log x) _ e)) in
        not-false _ (rw (due_yes (core_at x.state.rows i) w) at none)

-- t ticks were done, and no number that they used is out of range
pub record Done (log : List ℕ) (s : State) (t : ℕ) : Type 0 where
  pub ticks : (replayed log t s).ticks ≡ t
  pub clean : (u : ℕ) → u < t → is_bad log (replayed log u s) ≡ false

pub done_start : (log : List ℕ) (s : State) → Done log s 0
unfolding replayed
done_start log s = record { ticks = refl; clean = λ u h. absurd (omega arith) }

module _ {log : List ℕ} {s : State} {t : ℕ} (d : Done log s t) where
  pub done_next : goes_on log (replayed log t s) ≡ true → is_bad log (replayed log t s) ≡ false → Done log s (suc t)
  done_next e b =
      record {
        ticks = ap (λ x. x.ticks) (replay_on log t s e) ∙ omega (arith, d.ticks);
        clean = λ u h. elim (dec_lt u t) [
          | yes l ↦ d.clean u l
          | no l ↦ let q : u ≡ t = omega arith in rw q b
        ];
      }

  pub done_before : (u : ℕ) → u ≤ t → Done log s u
  done_before u h =
      record {
        ticks = (walked log s t).each u (omega (arith, d.ticks));
        clean = λ v l. d.clean v (omega arith);
      }

  pub done_step : (u : ℕ) → u < t → replayed log (suc u) s ≡ ticked log (replayed log u s)
  done_step u h = replay_on log u s ((walked log s t).on u (omega (arith, d.ticks)))

-- the table stays, and the clock tells the ticks done
module _ {log : List ℕ} {s : State} where
  pub done_tasks : (t : ℕ) → Done log s t → tasks_of (replayed log t s).state.rows ≡ tasks_of s.rows
  unfolding replayed
  done_tasks zero d = refl
  done_tasks (suc t) d =
      ap (λ x. tasks_of x.state.rows) (done_step d t (omega arith))
      ∙ tick_with_tasks (logged log (replayed log t s)) (replayed log t s).state ∙ done_tasks t (done_before d t (omega arith))

  pub done_time : (t : ℕ) → Done log s t → (replayed log t s).state.time ≡ s.time + t
  unfolding replayed
  done_time zero d = omega arith
  done_time (suc t) d =
      ap (λ x. x.state.time) (done_step d t (omega arith))
      ∙ tick_with_time (logged log (replayed log t s)) (replayed log t s).state ∙ omega (arith, done_time t (done_before d t (omega arith)))

  pub done_sound : (t : ℕ) → Done log s t → SoundState 0 s → s.time + t ≤ clock_end → SoundState 0 (replayed log t s).state
  unfolding replayed
  done_sound zero d f h = f
  done_sound (suc t) d f h =
      let b = done_before d t (omega arith) in
      subst (λ (x : Replay). SoundState 0 x.state) (sym (done_step d t (omega arith)))
      (tick_with_sound (logged log (replayed log t s)) (replayed log t s).state (done_sound t b f (omega arith))
      (omega (arith, done_time t b)) (legal log (replayed log t s) (d.clean t (omega arith))))

-- ---- the answer, by its cases

module _ {log : List ℕ} {s : State} {t : ℕ} (d : Done log s t) (n : ℕ) where
  -- the next tick would use a number out of range
  module _ (h : t < n) (e : goes_on log (replayed log t s) ≡ true) (b : is_bad log (replayed log t s) ≡ true) where
    reached : t < (replayed log n s).ticks
    reached =
        let more = ticks_more log s (suc t) (n - suc t) in
        let all : n - suc t + suc t ≡ n = omega arith in
        omega (arith, d.ticks, rw all at more, ap (λ x. x.ticks) (replay_on log t s e))

    found : bad_tick log n s ≡ t
    unfolding bad_tick
    found =
        first_is (λ u. is_bad log (replayed log u s)) 0 (replayed log n s).ticks t (omega arith) (omega (arith, reached)) (λ l. b) (λ u l q. d.clean u q)

    pub told_bad : replay_told log n s ≡ refused 18 (place_of (replayed log t s) (bad_row log (replayed log t s)) ∷ [])
    unfolding replay_told
    told_bad =
        let other : eqb (bad_tick log n s) (replayed log n s).ticks ≡ false =
        ne_eqb (bad_tick log n s) (replayed log n s).ticks (λ q. omega (arith, found, reached)) in
        rw (other, found)

  -- all n ticks were done, or the log has not enough for the next
  module _ (last : replayed log n s ≡ replayed log t s) where
    none : bad_tick log n s ≡ (replayed log n s).ticks
    unfolding bad_tick
    none =
        first_is (λ u. is_bad log (replayed log u s)) 0 (replayed log n s).ticks (replayed log n s).ticks (omega arith) (omega arith)
        (λ l. absurd (omega arith)) (λ u l q. d.clean u (omega (arith, d.ticks, ap (λ x. x.ticks) last)))

    pub told_done : replay_told log n s ≡ accepted (t ∷ (replayed log t s).used ∷ [])
    unfolding replay_told
    told_done = rw (eq-eqb (bad_tick log n s) (replayed log n s).ticks none, last, d.ticks)

  pub stopped_there : t ≤ n → goes_on log (replayed log t s) ≡ false → replayed log n s ≡ replayed log t s
  stopped_there h e = let all : n - t + t ≡ n = omega arith in rw all at (stays log s t (n - t) e)

-- over words: a refusal leaves them
module _ (words : List ℕ) (n : ℕ) (log : List ℕ) where
  pub replay_refused : (k : ℕ) (also : List ℕ) → run_answer words n ≡ refused k also
      → (replay_answer words n log ≡ refused k also) × (replay_words words n log ≡ words)
  unfolding replay_answer replay_words
  replay_refused k also e = (rw e, rw e)

  module _ (ok : run_answer words n ≡ accepted []) where
    pub replay_told_lem : replay_answer words n log ≡ replay_told log n (state_of words)
    unfolding replay_answer
    replay_told_lem = rw ok

    pub replay_bad : (k : ℕ) (also : List ℕ) → replay_told log n (state_of words) ≡ refused k also → replay_words words n log ≡ words
    unfolding replay_words replay_answer
    replay_bad k also e = rw (ok, e)

    pub replay_done : (vs : List ℕ) → replay_told log n (state_of words) ≡ accepted vs → replay_words words n log ≡ laid (replayed log n (state_of words)).state
    unfolding replay_words replay_answer
    replay_done vs e = rw (ok, e)
