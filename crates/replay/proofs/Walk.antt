-- The loop of a replay: after `done` ticks the words are those of the law's replay so far, and no number used is out of range.
use mathlib.Core.Bool.{true, false}
use mathlib.Core.List.{List, [], ◌∷◌}
use mathlib.Core.Path.{◌≡◌, refl, sym, ap, ◌∙◌, subst}
use Prim.Native.Nat.{ℕ, suc, ◌+◌, ◌-◌, ◌≤◌, ◌<◌}
use native.Mathlib.Numerals.{add-one}
use native.Mathlib.Omega.{arith}
use lib.Dec.{leb}
use lib.ListN.{length}
use borrow.Author.Tests.{leb-true, leb-false, le-leb, lt-leb}
use Rattle.law.specs.Refusal.{accepted, refused, code_of}
use Rattle.law.specs.Tick.{State, finish, tick_with, clock_end}
use Rattle.law.specs.State.{state_of, laid}
use Rattle.law.specs.Replay.{Replay, releases, place_of, logged, used_then, goes_on, replayed, out_of_range, bad_row, is_bad, replay_told}
use Rattle.law.specs.Sound.{SoundState}
use Rattle.law.proofs.Replay.{Done, done_start, done_next, done_tasks, done_time, done_sound, replay_on, legal, told_done}
use Rattle.rows.specs.Said.{Held, Fetched}
use Rattle.rows.proofs.Words.{says}
use Rattle.tick.proofs.Chain.{held_as, fetched_still, begun_held, ticked_with}
use Rattle.replay.specs.Shown.{under, Begun, Handed}

pub record Walk (log patterns : List ℕ) (s : State) (words : List ℕ) (n used done : ℕ) : Type 0 where
  pub sound : SoundState 0 s
  pub early : s.time + n ≤ clock_end
  pub fetched : Fetched s.rows patterns
  pub reached : done ≤ n
  pub all : Done log s done
  pub spent : used ≡ (replayed log done s).used
  pub fits : used ≤ length log
  pub is : words ≡ laid (replayed log done s).state

pub walk_start : (log patterns words : List ℕ) (n : ℕ) → Held 0 words → (state_of words).time + n ≤ clock_end → Fetched (state_of words).rows patterns
    → Walk log patterns (state_of words) words n 0 0
unfolding replayed
walk_start log patterns words n h early f =
    record {
      sound = h.sound;
      early = early;
      fetched = f;
      reached = omega arith;
      all = done_start log (state_of words);
      spent = refl;
      fits = omega arith;
      is = h.laid.is;
    }

-- what a tick looks at does not ask how many ticks were done
bad_any : (log : List ℕ) (x : Replay) → is_bad log (under x.state x.used) ≡ is_bad log x
unfolding bad_row out_of_range
bad_any log x = refl

row_any : (log : List ℕ) (x : Replay) → bad_row log (under x.state x.used) ≡ bad_row log x
unfolding bad_row out_of_range
row_any log x = refl

module _ {log patterns : List ℕ} {s : State} {words : List ℕ} {n used done : ℕ} (w : Walk log patterns s words n used done) where
  abbrev pub now : Replay
  now = replayed log done s

  pub says_now : state_of words ≡ (replayed log done s).state
  says_now = says (replayed log done s).state w.is

  pub walk_held : Held 0 words
  walk_held = held_as (replayed log done s).state w.is (done_sound done w.all w.sound (omega (arith, w.early, w.reached)))

  pub walk_early : done < n → (state_of words).time < clock_end
  walk_early h = omega (arith, ap (λ (z : State). z.time) says_now, done_time done w.all, w.early)

  pub walk_fetched : Fetched (state_of words).rows patterns
  walk_fetched = subst (λ (z : State). Fetched z.rows patterns) (sym says_now) (fetched_still (done_tasks done w.all) w.fetched)

  -- the replay as the routines are lent it
  under_now : under (state_of words) used ≡ under (replayed log done s).state (replayed log done s).used
  under_now = ap (λ (z : State). under z used) says_now ∙ ap (under (replayed log done s).state) w.spent

  pub bad_now : is_bad log (under (state_of words) used) ≡ is_bad log (replayed log done s)
  bad_now = ap (is_bad log) under_now ∙ bad_any log (replayed log done s)

  pub place_now : place_of (under (state_of words) used) (bad_row log (under (state_of words) used)) ≡ place_of (replayed log done s) (bad_row log (replayed log done s))
  place_now = ap (λ (z : Replay). place_of z (bad_row log z)) under_now ∙ ap (place_of (replayed log done s)) (row_any log (replayed log done s))

  used_now : used_then (under (state_of words) used) ≡ used_then (replayed log done s)
  used_now = ap used_then under_now

  -- whether the log has a number for each job of the next tick
  pub on_now : leb (releases (state_of words).rows (length (state_of words).rows)) (length log - used) ≡ true → goes_on log (replayed log done s) ≡ true
  unfolding goes_on
  on_now e =
      le-leb (used_then (replayed log done s)) (length log)
      (omega (arith, used_now, w.fits, leb-true (releases (state_of words).rows (length (state_of words).rows)) (length log - used) e))

  pub off_now : leb (releases (state_of words).rows (length (state_of words).rows)) (length log - used) ≡ false → goes_on log (replayed log done s) ≡ false
  unfolding goes_on
  off_now e =
      lt-leb (used_then (replayed log done s)) (length log)
      (omega (arith, used_now, w.fits, leb-false (releases (state_of words).rows (length (state_of words).rows)) (length log - used) e))

  pub room_now : leb (releases (state_of words).rows (length (state_of words).rows)) (length log - used) ≡ true → used_then (under (state_of words) used) ≤ length log
  room_now e = omega (arith, w.fits, leb-true (releases (state_of words).rows (length (state_of words).rows)) (length log - used) e)

  -- the first half of a tick whose numbers are in range
  module _ (h : done < n) (good : is_bad log (under (state_of words) used) ≡ false) (begun : List ℕ)
      (b : Begun false log (under (state_of words) used) begun) where
    pub walk_begun : Held 1 begun
    walk_begun =
        begun_held (logged log (under (state_of words) used)) walk_held (walk_early h) (legal log (under (state_of words) used) good) (b.is refl)

    -- and the whole
    pub walk_next : (again : List ℕ) (y : ℕ) → goes_on log (replayed log done s) ≡ true → y ≡ used_then (under (state_of words) used)
        → again ≡ laid (finish (state_of begun)) → Walk log patterns s again n y (done + 1)
    unfolding goes_on
    walk_next again y e q is =
        let next = replay_on log done s e in
        rw (add-one done)
        (record {
          sound = w.sound;
          early = w.early;
          fetched = w.fetched;
          reached = omega arith;
          all = done_next w.all e (sym bad_now ∙ good);
          spent = q ∙ used_now ∙ sym (ap (λ (z : Replay). z.used) next);
          fits = omega (arith, q, used_now, leb-true (used_then (replayed log done s)) (length log) e);
          is = ticked_with words (logged log (under (state_of words) used)) (b.is refl) is
              ∙ ap (λ (z : Replay). laid (tick_with (logged log z) z.state)) under_now ∙ sym (ap (λ (z : Replay). laid z.state) next);
        })

  -- the end of it: all ticks were done, or the log has not enough for the next
  pub walk_told : replayed log n s ≡ replayed log done s
      → (accepted (done ∷ used ∷ []) ≡ replay_told log n s) × (Handed (accepted (done ∷ used ∷ [])) log n s words)
  walk_told last = (
    ap (λ (z : ℕ). accepted (done ∷ z ∷ [])) w.spent ∙ sym (told_done w.all n last),
    record { is = λ vs e. w.is ∙ ap (λ (z : Replay). laid z.state) (sym last) },
  )

pub walk_all : {log patterns : List ℕ} {s : State} {words : List ℕ} {n used done : ℕ} → Walk log patterns s words n used done → done ≡ n
    → Walk log patterns s words n used n
walk_all {log} {patterns} {s} {words} {n} {used} w e = subst (λ (z : ℕ). Walk log patterns s words n used z) e w

pub never_accepted : {k : ℕ} {also vs : List ℕ} → refused (suc k) also ≡ accepted vs → ⊥
never_accepted e = omega (arith, ap code_of e)
