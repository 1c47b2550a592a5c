-- What the answer of a replay says. An accepted one: the run of as many ticks is accepted, the reported ticks were done with numbers in range, and a
-- replay of each smaller number of ticks does just these. Any one, over words: what chapter ReplayLogs says of states.
use mathlib.Core.Bool.{true, false}
use mathlib.Core.List.{List, [], ◌∷◌}
use mathlib.Core.Path.{◌≡◌, refl, sym, ap, ◌∙◌, subst}
use Prim.Native.Nat.{ℕ, ◌+◌, ◌-◌, ◌≤◌, ◌<◌}
use native.Mathlib.Omega.{arith}
use lib.Dec.{eqb}
use lib.ListN.{length, get_or, drop}
use borrow.Author.Tests.{eqb-true}
use Rattle.law.specs.Refusal.{accepted, refused, value_of, second_of}
use Rattle.law.specs.Tick.{State, run, clock_end}
use Rattle.law.specs.State.{state_of, laid, state_words, saved_well, run_answer, run_words}
use Rattle.law.specs.Sound.{SoundState}
use Rattle.law.specs.Replay.{Replay, replayed, is_bad, bad_tick, bad_place, replay_told, replay_answer, replay_words, full_log}
use Rattle.law.proofs.First.{first_before}
use Rattle.law.proofs.Tests.{passes, fails, known, both_left, both_right}
use Rattle.law.proofs.Ticks.{state_facts}
use Rattle.law.proofs.Laid.{state_laid}
use Rattle.law.proofs.Fresh.{laid_saved}
use Rattle.law.proofs.RunAnswers.{never_accepted, ran, turned, run_told, run_accepted, run_well_formed, run_early, run_sooner}
use Rattle.law.proofs.Replay.{walked, Done, done_before, done_time, done_sound, ticks_more, told_done, replay_refused, replay_told_lem, replay_bad, replay_done}
use Rattle.law.proofs.ReplayLogs.{full_run, full_legal, unread_replayed, unread_done, unread_last, counted, pieces_replayed, pieces_done, pieces_apart}

-- what an accepted replay of n ticks says
pub record Answered (words : List ℕ) (n : ℕ) (log : List ℕ) (done used : ℕ) : Type 0 where
  pub ran : run_answer words n ≡ accepted []
  pub most : done ≤ n
  pub all : Done log (state_of words) done
  pub last : replayed log n (state_of words) ≡ replayed log done (state_of words)
  pub spent : (replayed log n (state_of words)).used ≡ used

module _ (words : List ℕ) (n : ℕ) (log : List ℕ) where
  -- the run first
  replay_ran : (values : List ℕ) → replay_answer words n log ≡ accepted values → run_answer words n ≡ accepted []
  replay_ran values e =
      elim (run_told words n) [
        | ran ok ↦ ok
        | turned k also h f ↦ absurd (never_accepted (replay_refused words n log k also f).0 e h)
      ]

  module _ (ok : run_answer words n ≡ accepted []) where
    found_bad : eqb (bad_tick log n (state_of words)) (replayed log n (state_of words)).ticks ≡ false
        → replay_answer words n log ≡ refused 18 (bad_place log n (state_of words) ∷ [])
    unfolding replay_told
    found_bad f = replay_told_lem words n log ok ∙ rw f

    found_none : eqb (bad_tick log n (state_of words)) (replayed log n (state_of words)).ticks ≡ true
        → replay_answer words n log ≡ accepted ((replayed log n (state_of words)).ticks ∷ (replayed log n (state_of words)).used ∷ [])
    unfolding replay_told
    found_none f = replay_told_lem words n log ok ∙ rw f

    none_bad : (values : List ℕ) → replay_answer words n log ≡ accepted values
        → eqb (bad_tick log n (state_of words)) (replayed log n (state_of words)).ticks ≡ true
    none_bad values e =
        elim (known (eqb (bad_tick log n (state_of words)) (replayed log n (state_of words)).ticks)) [
          | passes f ↦ f
          | fails f ↦ absurd (never_accepted (found_bad f) e (omega arith))
        ]

  module _ (done used : ℕ) (e : replay_answer words n log ≡ accepted (done ∷ used ∷ [])) where
    none : eqb (bad_tick log n (state_of words)) (replayed log n (state_of words)).ticks ≡ true
    none = none_bad (replay_ran (done ∷ used ∷ []) e) (done ∷ used ∷ []) e

    said : accepted ((replayed log n (state_of words)).ticks ∷ (replayed log n (state_of words)).used ∷ []) ≡ accepted (done ∷ used ∷ [])
    said = sym (found_none (replay_ran (done ∷ used ∷ []) e) none) ∙ e

    ticks_said : (replayed log n (state_of words)).ticks ≡ done
    ticks_said = ap value_of said

    -- the first tick that would use a number out of range is none of those done
    in_range : (t : ℕ) → t < done → is_bad log (replayed log t (state_of words)) ≡ false
    unfolding bad_tick
    in_range t h =
        first_before (λ u. is_bad log (replayed log u (state_of words))) 0 (replayed log n (state_of words)).ticks t (omega arith)
        (omega (arith, eqb-true (bad_tick log n (state_of words)) (replayed log n (state_of words)).ticks none, ticks_said))

    pub replay_answered : Answered words n log done used
    replay_answered =
        let w = walked log (state_of words) n in
        record {
          ran = replay_ran (done ∷ used ∷ []) e;
          most = omega (arith, w.most, ticks_said);
          all = record { ticks = w.each done (omega (arith, ticks_said)); clean = in_range };
          last = w.same ∙ ap (λ (z : ℕ). replayed log z (state_of words)) ticks_said;
          spent = ap second_of said;
        }

-- a replay of each smaller number of ticks
module _ {words : List ℕ} {n : ℕ} {log : List ℕ} {done used : ℕ} (w : Answered words n log done used) (t : ℕ) (h : t ≤ done) where
  pub replay_sooner : (replay_answer words t log ≡ accepted (t ∷ (replayed log t (state_of words)).used ∷ []))
      × (replay_words words t log ≡ laid (replayed log t (state_of words)).state)
  replay_sooner =
      let ran = run_sooner words n [] w.ran t (omega (arith, w.most)) in
      let told = told_done (done_before w.all t h) t refl in
      (replay_told_lem words t log ran ∙ told, replay_done words t log ran _ told)

-- ---- any words and any log

-- well-formed words say a well-formed state
saved_sound : (words : List ℕ) → saved_well words ≡ true → SoundState 0 (state_of words)
unfolding saved_well
saved_sound words e = state_facts (state_of words) (both_left _ _ (both_right (eqb (length words) state_words) _ e))

time_is : (words : List ℕ) → get_or words 1 0 ≡ (state_of words).time
unfolding state_of
time_is words = refl

module _ (words : List ℕ) (n : ℕ) where
  ran_laid : run_answer words n ≡ accepted [] → run_words words n ≡ laid (run n (state_of words))
  unfolding run_words
  ran_laid ok = rw ok

  turned_back : (k : ℕ) (also : List ℕ) → run_answer words n ≡ refused k also → run_words words n ≡ words
  unfolding run_words
  turned_back k also e = rw e

  -- the log of full lengths
  abbrev full : List ℕ
  full = full_log n (state_of words)

  module _ (ok : run_answer words n ≡ accepted []) where
    full_told : replay_told full n (state_of words) ≡ accepted (n ∷ length full ∷ [])
    full_told =
        let sound = saved_sound words (run_well_formed words n [] ok) in
        let early : (state_of words).time + n ≤ clock_end = omega (arith, run_early words n [] ok, time_is words) in
        told_done (full_legal (state_of words) n sound early) n refl
        ∙ ap (λ (x : Replay). accepted (n ∷ x.used ∷ [])) (full_run (state_of words) n)

    pub full_answered : replay_answer words n full ≡ accepted (n ∷ length full ∷ [])
    full_answered = replay_told_lem words n full ok ∙ full_told

    full_laid : replay_words words n full ≡ run_words words n
    full_laid =
        replay_done words n full ok _ full_told ∙ ap (λ (x : Replay). laid x.state) (full_run (state_of words) n) ∙ sym (ran_laid ok)

  pub full_words : replay_words words n full ≡ run_words words n
  full_words =
      elim (run_told words n) [
        | ran ok ↦ full_laid ok
        | turned k also h e ↦ (replay_refused words n full k also e).1 ∙ sym (turned_back k also e)
      ]

  -- a replay that is refused hands back the words that it got, one that is accepted those of the ticks that it did
  module _ (log : List ℕ) where
    bad_kept : run_answer words n ≡ accepted [] → eqb (bad_tick log n (state_of words)) (replayed log n (state_of words)).ticks ≡ false
        → replay_words words n log ≡ words
    bad_kept ok f =
        replay_bad words n log ok 18 (bad_place log n (state_of words) ∷ []) (sym (replay_told_lem words n log ok) ∙ found_bad words n log ok f)

    module _ {done used : ℕ} (a : Answered words n log done used) where
      pub done_laid : replay_words words n log ≡ laid (replayed log n (state_of words)).state
      done_laid = replay_done words n log a.ran _ (told_done a.all n a.last)

      pub after_sound : SoundState 0 (replayed log n (state_of words)).state
      after_sound =
          subst (λ (x : Replay). SoundState 0 x.state) (sym a.last)
          (done_sound done a.all (saved_sound words (run_well_formed words n [] a.ran))
          (omega (arith, run_early words n [] a.ran, time_is words, a.most)))

      pub after_saved : saved_well (replay_words words n log) ≡ true
      after_saved = ap saved_well done_laid ∙ laid_saved (replayed log n (state_of words)).state after_sound

    -- so a well-formed state is handed back well formed
    pub replay_saved : saved_well words ≡ true → saved_well (replay_words words n log) ≡ true
    replay_saved good =
        elim (run_told words n) [
          | turned k also h e ↦ ap saved_well (replay_refused words n log k also e).1 ∙ good
          | ran ok ↦ elim (known (eqb (bad_tick log n (state_of words)) (replayed log n (state_of words)).ticks)) [
            | fails f ↦ ap saved_well (bad_kept ok f) ∙ good
            | passes f ↦ after_saved (replay_answered words n log _ _ (found_none words n log ok f))
          ]
        ]

    -- numbers that no release uses are not looked at: another log, no shorter, that agrees on the numbers used
    module _ (other : List ℕ) (done used : ℕ) (e : replay_answer words n log ≡ accepted (done ∷ used ∷ [])) (long : length log ≤ length other)
        (agrees : (q : ℕ) → q < used → get_or other q 0 ≡ get_or log q 0) where
      given : Answered words n log done used
      given = replay_answered words n log done used e

      where_used : (q : ℕ) → q < (replayed log done (state_of words)).used → get_or other q 0 ≡ get_or log q 0
      where_used q h = agrees q (omega (arith, given.spent, ap (λ x. x.used) given.last))

      there : replayed other done (state_of words) ≡ replayed log done (state_of words)
      there = unread_replayed given.all other long where_used done (omega arith)

      -- where it ends as early
      module _ (last : replayed other n (state_of words) ≡ replayed other done (state_of words)) where
        other_told : replay_told other n (state_of words) ≡ accepted (done ∷ used ∷ [])
        other_told =
            told_done (unread_done given.all other long where_used) n last
            ∙ ap (λ (x : Replay). accepted (done ∷ x.used ∷ [])) (there ∙ sym given.last)
            ∙ ap (λ (z : ℕ). accepted (done ∷ z ∷ [])) given.spent

        ended_same : (replay_answer words n other ≡ replay_answer words n log) × (replay_words words n other ≡ replay_words words n log)
        ended_same = (
          replay_told_lem words n other given.ran ∙ other_told ∙ sym e,
          replay_done words n other given.ran _ other_told
              ∙ ap (λ (x : Replay). laid x.state) (last ∙ there ∙ sym given.last) ∙ sym (done_laid given),
        )

      pub unread_same : length other ≡ length log → (replay_answer words n other ≡ replay_answer words n log) × (replay_words words n other ≡ replay_words words n log)
      unread_same same = ended_same (unread_last given.all other long where_used same n given.most given.last)

      pub longer_same : done ≡ n → (replay_answer words n other ≡ replay_answer words n log) × (replay_words words n other ≡ replay_words words n log)
      longer_same all = ended_same (ap (λ (z : ℕ). replayed other z (state_of words)) (sym all))

    -- one that stopped is the replay of the ticks that it did
    pub stopped_same : (done used : ℕ) → replay_answer words n log ≡ accepted (done ∷ used ∷ [])
        → (replay_answer words done log ≡ replay_answer words n log) × (replay_words words done log ≡ replay_words words n log)
    stopped_same done used e =
        let w = replay_answered words n log done used e in
        let d = replay_sooner w done (omega arith) in (
          d.0 ∙ ap (λ (x : Replay). accepted (done ∷ x.used ∷ [])) (sym w.last) ∙ ap (λ (z : ℕ). accepted (done ∷ z ∷ [])) w.spent ∙ sym e,
          d.1 ∙ ap (λ (x : Replay). laid x.state) (sym w.last) ∙ sym (done_laid w),
        )

-- ---- a replay in two pieces

-- a replay that did all its n ticks, and one of u ticks that goes on from the words handed back with the rest of the log
module _ (words : List ℕ) (n : ℕ) (log : List ℕ) (used : ℕ) (e : replay_answer words n log ≡ accepted (n ∷ used ∷ [])) (u : ℕ) where
  start : Answered words n log n used
  start = replay_answered words n log n used e

  abbrev mid : Replay
  mid = replayed log n (state_of words)

  abbrev handed : List ℕ
  handed = replay_words words n log

  abbrev rest : List ℕ
  rest = drop used log

  handed_is : state_of handed ≡ mid.state
  handed_is = ap state_of (done_laid words n log start) ∙ state_laid mid.state

  handed_time : get_or handed 1 0 ≡ get_or words 1 0 + n
  handed_time =
      time_is handed ∙ ap (λ (z : State). z.time) handed_is ∙ done_time n start.all ∙ ap (λ (z : ℕ). z + n) (sym (time_is words))

  -- the second by where the first has come to
  from_mid : (t : ℕ) → replayed rest t (state_of handed) ≡ replayed (drop mid.used log) t mid.state
  from_mid t = ap (λ (z : State). replayed rest t z) handed_is ∙ ap (λ (z : ℕ). replayed (drop z log) t mid.state) (sym start.spent)

  to_mid : (t : ℕ) → Done rest (state_of handed) t → Done (drop mid.used log) mid.state t
  to_mid t f =
      subst (λ (z : ℕ). Done (drop z log) mid.state t) (sym start.spent) (subst (λ (z : State). Done rest z t) handed_is f)

  of_mid : (t : ℕ) → Done (drop mid.used log) mid.state t → Done rest (state_of handed) t
  of_mid t f =
      subst (λ (z : State). Done rest z t) (sym handed_is) (subst (λ (z : ℕ). Done (drop z log) mid.state t) start.spent f)

  whole_is : (t : ℕ) → replayed log (n + t) (state_of words) ≡ counted log (state_of words) n (replayed rest t (state_of handed))
  whole_is t = pieces_replayed log (state_of words) n start.all.ticks t ∙ ap (counted log (state_of words) n) (sym (from_mid t))

  -- where the second is accepted the whole is
  module _ (d v : ℕ) (f : replay_answer handed u rest ≡ accepted (d ∷ v ∷ [])) where
    second : Answered handed u rest d v
    second = replay_answered handed u rest d v f

    whole_ran : run_answer words (n + u) ≡ accepted []
    whole_ran =
        run_accepted words (n + u) (run_well_formed words n [] start.ran) (omega (arith, run_early handed u [] second.ran, handed_time))

    whole_last : replayed log (n + u) (state_of words) ≡ replayed log (n + d) (state_of words)
    whole_last = whole_is u ∙ ap (counted log (state_of words) n) second.last ∙ sym (whole_is d)

    whole_told : replay_told log (n + u) (state_of words) ≡ accepted ((n + d) ∷ (used + v) ∷ [])
    whole_told =
        told_done (pieces_done log (state_of words) n start.all d (to_mid d second.all)) (n + u) whole_last
        ∙ ap (λ (z : ℕ). accepted ((n + d) ∷ z ∷ []))
        (omega (arith, ap (λ x. x.used) (whole_is d), ap (λ x. x.used) second.last, start.spent, second.spent))

    pub pieces_whole : (replay_answer words (n + u) log ≡ accepted ((n + d) ∷ (used + v) ∷ []))
        × (replay_words handed u rest ≡ replay_words words (n + u) log)
    pieces_whole = (
      replay_told_lem words (n + u) log whole_ran ∙ whole_told,
      done_laid handed u rest second ∙ ap (λ (x : Replay). laid x.state) (sym (whole_is u))
          ∙ sym (replay_done words (n + u) log whole_ran _ whole_told),
    )

  -- and where the whole is accepted the second is
  module _ (done all : ℕ) (f : replay_answer words (n + u) log ≡ accepted (done ∷ all ∷ [])) where
    whole : Answered words (n + u) log done all
    whole = replay_answered words (n + u) log done all f

    as_many : n + (done - n) ≡ done
    as_many =
        let turned_round : u + n ≡ n + u = omega arith in
        omega (
          arith,
          rw turned_round at (ticks_more log (state_of words) n u),
          start.all.ticks,
          ap (λ x. x.ticks) whole.last,
          whole.all.ticks,
        )

    second_ran : run_answer handed u ≡ accepted []
    second_ran = run_accepted handed u (after_saved words n log start) (omega (arith, run_early words (n + u) [] whole.ran, handed_time))

    second_all : Done rest (state_of handed) (done - n)
    second_all =
        of_mid (done - n)
        (pieces_apart log (state_of words) n start.all (done - n) (subst (λ (z : ℕ). Done log (state_of words) z) (sym as_many) whole.all))

    both_counted : counted log (state_of words) n (replayed rest u (state_of handed)) ≡ counted log (state_of words) n (replayed rest (done - n) (state_of handed))
    both_counted =
        sym (whole_is u) ∙ whole.last ∙ ap (λ (z : ℕ). replayed log z (state_of words)) (sym as_many) ∙ whole_is (done - n)

    second_last : replayed rest u (state_of handed) ≡ replayed rest (done - n) (state_of handed)
    second_last =
        let state-is = ap (λ x. x.state) both_counted in
        let ticks-are : (replayed rest u (state_of handed)).ticks ≡ (replayed rest (done - n) (state_of handed)).ticks =
        omega (arith, ap (λ x. x.ticks) both_counted) in
        let used_is : (replayed rest u (state_of handed)).used ≡ (replayed rest (done - n) (state_of handed)).used =
        omega (arith, ap (λ x. x.used) both_counted) in
        λ j. record { state = state-is j; ticks = ticks-are j; used = used_is j }

    pub pieces_second : replay_answer handed u rest ≡ accepted ((done - n) ∷ (all - used) ∷ [])
    pieces_second =
        replay_told_lem handed u rest second_ran ∙ told_done second_all u second_last
        ∙ ap (λ (z : ℕ). accepted ((done - n) ∷ z ∷ []))
        (omega (arith, ap (λ x. x.used) second_last, ap (λ x. x.used) (whole_is u), start.spent, whole.spent))
