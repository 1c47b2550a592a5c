-- What the answer of a replay says of the words that it hands back, and which numbers of the log it says are in range and which is not, told without a
-- replay: no release turns on a length, so the jobs that a replay releases are those of the run, one number each.
use mathlib.Core.Bool.{true, false}
use mathlib.Core.List.{List, [], ◌∷◌}
use mathlib.Core.Path.{◌≡◌, refl, sym, ap, ◌∙◌, subst}
use Prim.Native.Nat.{ℕ, zero, suc, ◌+◌, ◌-◌, ◌≤◌, ◌<◌}
use native.Mathlib.Decide.{dec_lt}
use native.Mathlib.Omega.{arith}
use lib.Dec.{leb, eqb}
use lib.ListN.{length, get_or, length-append, get_or-append}
use lib.Seq.{get_or-append-add}
use borrow.Author.Tests.{leb-true, leb-false, eqb-true, eqb-false, ltb-true, not-false, not-true}
use Rattle.law.specs.Sums.{bit, pick}
use Rattle.law.specs.Refusal.{accepted, refused, within, code_of, value_of}
use Rattle.law.specs.Table.{Task}
use Rattle.law.specs.Tick.{Row, State, core_at, due, release, release_all, advance, begin, finish, full_length, tick_with, tick, run, clock_end}
use Rattle.law.specs.State.{state_of, saved_well, run_answer}
use Rattle.law.specs.Replay.{Replay, releases, place_of, logged, used_then, goes_on, replayed, out_of_range, bad_row, is_bad, bad_tick, bad_place, replay_told, replay_answer, replay_words, full_log}
use Rattle.law.proofs.First.{first_high, first_found_lem, first_before}
use Rattle.law.proofs.Question.{within_is}
use Rattle.law.proofs.Replay.{releases_none, releases_next, releases_more, replay_on, walked, Done, done_before, legal, replay_refused, replay_told_lem}
use Rattle.law.proofs.ReplayLogs.{releases_before, lengths_many, lengths_at, used_within}
use Rattle.law.proofs.ReplayAnswers.{Answered, replay_answered}
use Rattle.law.proofs.RunAnswers.{run_accepted}
use Rattle.law.proofs.Sound.{due_yes}
use Rattle.law.proofs.Tests.{passes, fails, known, both_left, both_right, bit_most}
use Rattle.law.proofs.Ticks.{begun_length, begun_at, finished_at, tick_with_length}

-- "the state is the one given" where a replay is refused, whatever the refusal
pub replay_kept_words : (words : List ℕ) (n : ℕ) (log : List ℕ) (k : ℕ) (also : List ℕ) → replay_answer words n log ≡ refused k also
    → replay_words words n log ≡ words
unfolding replay_words
replay_kept_words words n log k also e = rw e

-- ---- no release turns on a length

-- rows of the same tasks, with the same ticks until their next releases
record SameWaits (a b : List Row) : Type 0 where
  long : length a ≡ length b
  wait : (i : ℕ) → i < length a → (core_at a i).wait ≡ (core_at b i).wait
  task : (i : ℕ) → i < length a → (core_at a i).task ≡ (core_at b i).task

-- the wait after a tick
abbrev wait_then : Task → ℕ → ℕ
wait_then r w = pick (eqb w 0) r.t w - 1

module _ (work : ℕ → ℕ) (s : State) (i : ℕ) (h : i < length s.rows) where
  wait_next : (core_at (tick_with work s).rows i).wait ≡ wait_then (core_at s.rows i).task (core_at s.rows i).wait
  unfolding finish begin advance release
  wait_next =
      ap (λ (r : Row). r.core.wait) (finished_at _ (release_all work s.rows) i (omega (arith, begun_length work s.rows)))
      ∙ ap (λ (r : Row). r.core.wait - 1) (begun_at work s.rows i h)

  task_next : (core_at (tick_with work s).rows i).task ≡ (core_at s.rows i).task
  unfolding finish begin advance release
  task_next =
      ap (λ (r : Row). r.core.task) (finished_at _ (release_all work s.rows) i (omega (arith, begun_length work s.rows)))
      ∙ ap (λ (r : Row). r.core.task) (begun_at work s.rows i h)

-- a tick keeps them so, whatever the lengths
same_next : (work other : ℕ → ℕ) (a b : State) → SameWaits a.rows b.rows → SameWaits (tick_with work a).rows (tick_with other b).rows
same_next work other a b w =
    record {
      long = tick_with_length work a ∙ w.long ∙ sym (tick_with_length other b);
      wait = λ i h. let l : i < length a.rows = omega (arith, tick_with_length work a) in
          wait_next work a i l ∙ ap (λ (r : Task). wait_then r (core_at a.rows i).wait) (w.task i l)
          ∙ ap (wait_then (core_at b.rows i).task) (w.wait i l) ∙ sym (wait_next other b i (omega (arith, w.long)));
      task = λ i h. let l : i < length a.rows = omega (arith, tick_with_length work a) in
          task_next work a i l ∙ w.task i l ∙ sym (task_next other b i (omega (arith, w.long)));
    }

releases_same : (a b : List Row) → SameWaits a b → (i : ℕ) → i ≤ length a → releases a i ≡ releases b i
releases_same a b w zero h = releases_none a ∙ sym (releases_none b)
releases_same a b w (suc i) h =
    omega (
      arith,
      releases_next a i,
      releases_next b i,
      releases_same a b w i (omega arith),
      ap (λ (z : ℕ). bit (eqb z 0)) (w.wait i (omega arith)),
    )

-- ---- the full lengths of one tick

-- the released job that place q of a tick is for, among the first n rows
record Placed (rows : List Row) (n q : ℕ) : Type 0 where
  row : ℕ
  below : row < n
  now : (core_at rows row).wait ≡ 0
  there : releases rows row ≡ q

module _ (rows : List Row) where
  placed : (n q : ℕ) → q < releases rows n → Placed rows n q
  placed zero q h = absurd (omega (arith, releases_none rows))
  placed (suc n) q h =
      elim (dec_lt q (releases rows n)) [
        | yes l ↦ let p = placed n q l in record { row = p.row; below = omega (arith, p.below); now = p.now; there = p.there }
        | no l ↦ elim (known (due (core_at rows n))) [
          | passes e ↦ record {
            row = n;
            below = omega arith;
            now = eqb-true (core_at rows n).wait 0 e;
            there = omega (arith, releases_next rows n, bit_most (due (core_at rows n)));
          }
          | fails e ↦ absurd (omega (arith, releases_next rows n, ap bit e))
        ]
      ]

-- ---- the jobs that a replay releases are those of the run

-- the log of the run, at the outset and a tick longer
log_none : (s : State) → length (full_log 0 s) ≡ 0
unfolding full_log
log_none s = refl

log_more : (t : ℕ) (s : State) → length (full_log (suc t) s) ≡ length (full_log t s) + releases (run t s).rows (length (run t s).rows)
unfolding full_log
log_more t s = length-append (full_log t s) _ ∙ ap (λ (z : ℕ). length (full_log t s) + z) (lengths_many (run t s).rows (length (run t s).rows))

log_before : (t : ℕ) (s : State) (q : ℕ) → q < length (full_log t s) → get_or (full_log (suc t) s) q 0 ≡ get_or (full_log t s) q 0
unfolding full_log
log_before t s q h = get_or-append (full_log t s) _ 0 q h

log_behind : (t : ℕ) (s : State) (i : ℕ) → i < length (run t s).rows → (core_at (run t s).rows i).wait ≡ 0
    → get_or (full_log (suc t) s) (length (full_log t s) + releases (run t s).rows i) 0 ≡ full_length (run t s).rows i
unfolding full_log
log_behind t s i h e =
    get_or-append-add (full_log t s) _ (releases (run t s).rows i) 0 ∙ lengths_at (run t s).rows (length (run t s).rows) i h e

-- a replay that has done t ticks, beside the run
record Along (log : List ℕ) (s : State) (t : ℕ) : Type 0 where
  waits : SameWaits (replayed log t s).state.rows (run t s).rows
  used : (replayed log t s).used ≡ length (full_log t s)

-- the row whose job of the next tick uses the number at place q
record Numbered (x : Replay) (q : ℕ) : Type 0 where
  row : ℕ
  below : row < length x.state.rows
  now : (core_at x.state.rows row).wait ≡ 0
  place : place_of x row ≡ q

module _ {log : List ℕ} {s : State} where
  used_then_lem : (t : ℕ) → Along log s t → used_then (replayed log t s) ≡ length (full_log (suc t) s)
  used_then_lem t w =
      let x : Replay = replayed log t s in
      omega (
        arith,
        w.used,
        releases_same x.state.rows (run t s).rows w.waits (length x.state.rows) (omega arith),
        ap (releases (run t s).rows) w.waits.long,
        log_more t s,
      )

  along_start : Along log s 0
  unfolding replayed run full_log
  along_start = record { waits = record { long = refl; wait = λ i h. refl; task = λ i h. refl }; used = refl }

  along_next : (t : ℕ) → goes_on log (replayed log t s) ≡ true → Along log s t → Along log s (suc t)
  unfolding run tick
  along_next t e w =
      let x : Replay = replayed log t s in
      record {
        waits =
            subst (λ (y : Replay). SameWaits y.state.rows (run (suc t) s).rows) (sym (replay_on log t s e))
            (same_next (logged log x) (full_length (run t s).rows) x.state (run t s) w.waits);
        used = ap (λ y. y.used) (replay_on log t s e) ∙ used_then_lem t w;
      }

  along : (t : ℕ) → ((u : ℕ) → u < t → goes_on log (replayed log u s) ≡ true) → Along log s t
  along zero on = along_start
  along (suc t) on = along_next t (on t (omega arith)) (along t (λ u h. on u (omega arith)))

  done_along : (t : ℕ) → Done log s t → Along log s t
  done_along t d = along t (λ u h. (walked log s t).on u (omega (arith, d.ticks)))

  -- a row that releases a job in the next tick: its number's place, and its C there in the log of the run
  module _ (t : ℕ) (w : Along log s t) (i : ℕ) (h : i < length (replayed log t s).state.rows)
      (e : (core_at (replayed log t s).state.rows i).wait ≡ 0) where
    abbrev x : Replay
    x = replayed log t s

    releases_are : releases x.state.rows i ≡ releases (run t s).rows i
    releases_are = releases_same x.state.rows (run t s).rows w.waits i (omega arith)

    there_too : i < length (run t s).rows
    there_too = omega (arith, w.waits.long)

    due_too : (core_at (run t s).rows i).wait ≡ 0
    due_too = sym (w.waits.wait i h) ∙ e

    place_is : place_of x i ≡ length (full_log t s) + releases (run t s).rows i
    place_is = omega (arith, w.used, releases_are)

    place_below : place_of x i < length (full_log (suc t) s)
    place_below = omega (arith, place_is, log_more t s, releases_before (run t s).rows i (length (run t s).rows) there_too due_too)

    place_full : get_or (full_log (suc t) s) (place_of x i) 0 ≡ (core_at x.state.rows i).task.c
    place_full =
        ap (λ (z : ℕ). get_or (full_log (suc t) s) z 0) place_is ∙ log_behind t s i there_too due_too
        ∙ sym (ap (λ (r : Task). r.c) (w.waits.task i h))

  -- and each place behind those of earlier ticks is that of such a row
  numbered : (t : ℕ) → Along log s t → (q : ℕ) → length (full_log t s) ≤ q → q < length (full_log (suc t) s) → Numbered (replayed log t s) q
  numbered t w q l h =
      let p = placed (run t s).rows (length (run t s).rows) (q - length (full_log t s)) (omega (arith, log_more t s)) in
      let b : p.row < length (replayed log t s).state.rows = omega (arith, p.below, w.waits.long) in
      let now = w.waits.wait p.row b ∙ p.now in
      record { row = p.row; below = b; now = now; place = place_is t w p.row b now ∙ omega (arith, p.there) }

  -- so the numbers that the ticks done have used are those of the log of the run, each in range
  clean_numbers : (t : ℕ) → Done log s t → (q : ℕ) → q < length (full_log t s) → within 1 (get_or (full_log t s) q 0) (get_or log q 0) ≡ true
  clean_numbers zero d q h = absurd (omega (arith, log_none s))
  clean_numbers (suc t) d q h =
      let b = done_before d t (omega arith) in
      elim (dec_lt q (length (full_log t s))) [
        | yes l ↦ ap (λ (z : ℕ). within 1 z (get_or log q 0)) (log_before t s q l) ∙ clean_numbers t b q l
        | no l ↦ let w = done_along t b in
            let r = numbered t w q (omega arith) h in
            let g = legal log (replayed log t s) (d.clean t (omega arith)) in
            ap (λ (z : ℕ). within 1 (get_or (full_log (suc t) s) z 0) (get_or log z 0)) (sym r.place)
            ∙ ap (λ (z : ℕ). within 1 z (logged log (replayed log t s) r.row)) (place_full t w r.row r.below r.now)
            ∙ within_is 1 _ (logged log (replayed log t s) r.row) (g.low r.row r.below r.now) (g.high r.row r.below r.now)
      ]

-- ---- over words

-- an accepted replay: just the numbers of the ticks done were used, each was in range, and it stopped no sooner than it had to
module _ (words : List ℕ) (n : ℕ) (log : List ℕ) (done used : ℕ) (e : replay_answer words n log ≡ accepted (done ∷ used ∷ [])) where
  abbrev s : State
  s = state_of words

  given : Answered words n log done used
  given = replay_answered words n log done used e

  beside : Along log s done
  beside = done_along done given.all

  pub exact_many : used ≡ length (full_log done s)
  exact_many = sym given.spent ∙ ap (λ x. x.used) given.last ∙ beside.used

  pub exact_within : used ≤ length log
  exact_within = omega (arith, given.spent, used_within log s n)

  pub exact_good : (q : ℕ) → q < used → within 1 (get_or (full_log done s) q 0) (get_or log q 0) ≡ true
  exact_good q h = clean_numbers done given.all q (omega (arith, exact_many))

  pub exact_stop : done < n → length log < length (full_log (suc done) s)
  unfolding goes_on
  exact_stop h =
      let stop = (walked log s n).stopped (omega (arith, ap (λ x. x.ticks) given.last, given.all.ticks)) in
      omega (arith, leb-false (used_then (replayed log n s)) (length log) stop, ap (λ x. used_then x) given.last, used_then_lem done beside)

-- one refused by 18: the first number out of range of a tick that the log has enough numbers for
pub record ExactBad (s : State) (n : ℕ) (log : List ℕ) (q : ℕ) : Type 0 where
  pub tick : ℕ
  pub sooner : tick < n
  pub enough : length (full_log (suc tick) s) ≤ length log
  pub used : q < length (full_log (suc tick) s)
  pub bad : within 1 (get_or (full_log (suc tick) s) q 0) (get_or log q 0) ≡ false
  pub good : (p : ℕ) → p < q → within 1 (get_or (full_log (suc tick) s) p 0) (get_or log p 0) ≡ true

module _ (log : List ℕ) (n : ℕ) (s : State) (some : eqb (bad_tick log n s) (replayed log n s).ticks ≡ false) where
  abbrev t : ℕ
  t = bad_tick log n s

  abbrev then : Replay
  then = replayed log t s

  abbrev i : ℕ
  i = bad_row log then

  t_done : t < (replayed log n s).ticks
  unfolding bad_tick
  t_done =
      let most = first_high (λ u. is_bad log (replayed log u s)) 0 (replayed log n s).ticks in
      elim (dec_lt t (replayed log n s).ticks) [
        | yes l ↦ l
        | no l ↦ absurd (eqb-false t (replayed log n s).ticks some (omega arith))
      ]

  t_bad : is_bad log then ≡ true
  unfolding bad_tick
  t_bad = first_found_lem (λ u. is_bad log (replayed log u s)) 0 (replayed log n s).ticks (omega (arith, t_done))

  t_all : Done log s t
  unfolding bad_tick
  t_all =
      record {
        ticks = (walked log s n).each t (omega (arith, t_done));
        clean = λ u h. first_before (λ u. is_bad log (replayed log u s)) 0 (replayed log n s).ticks u (omega arith) h;
      }

  t_on : goes_on log then ≡ true
  t_on = (walked log s n).on t t_done

  t_along : Along log s t
  t_along = done_along t t_all

  i_below : i < length then.state.rows
  i_below = ltb-true i (length then.state.rows) t_bad

  i_out : out_of_range log then i ≡ true
  unfolding bad_row
  i_out = first_found_lem (out_of_range log then) 0 (length then.state.rows) (omega (arith, i_below))

  i_now : (core_at then.state.rows i).wait ≡ 0
  unfolding out_of_range
  i_now = eqb-true (core_at then.state.rows i).wait 0 (both_left _ _ i_out)

  i_bad : within 1 (core_at then.state.rows i).task.c (logged log then i) ≡ false
  unfolding out_of_range
  i_bad = not-true _ (both_right (due (core_at then.state.rows i)) _ i_out)

  -- a row above it
  above_good : (j : ℕ) → j < i → (core_at then.state.rows j).wait ≡ 0
      → within 1 (core_at then.state.rows j).task.c (logged log then j) ≡ true
  unfolding bad_row out_of_range
  above_good j h e =
      let none = first_before (out_of_range log then) 0 (length then.state.rows) j (omega arith) h in
      not-false _ (rw (due_yes (core_at then.state.rows j) e) at none)

  above : (j : ℕ) → place_of then j < place_of then i → j < i
  above j h =
      elim (dec_lt j i) [
        | yes l ↦ l
        | no l ↦ let all : j - i + i ≡ j = omega arith in absurd (omega (arith, rw all at (releases_more then.state.rows i (j - i))))
      ]

  good_before : (p : ℕ) → p < place_of then i → within 1 (get_or (full_log (suc t) s) p 0) (get_or log p 0) ≡ true
  good_before p h =
      elim (dec_lt p (length (full_log t s))) [
        | yes l ↦ ap (λ (z : ℕ). within 1 z (get_or log p 0)) (log_before t s p l) ∙ clean_numbers t t_all p l
        | no l ↦ let r = numbered t t_along p (omega arith) (omega (arith, place_below t t_along i i_below i_now)) in
            ap (λ (z : ℕ). within 1 (get_or (full_log (suc t) s) z 0) (get_or log z 0)) (sym r.place)
            ∙ ap (λ (z : ℕ). within 1 z (logged log then r.row)) (place_full t t_along r.row r.below r.now)
            ∙ above_good r.row (above r.row (omega (arith, r.place))) r.now
      ]

  bad_exactly : ExactBad s n log (bad_place log n s)
  unfolding goes_on
  bad_exactly =
      record {
        tick = t;
        sooner = omega (arith, t_done, (walked log s n).most);
        enough = omega (arith, leb-true (used_then then) (length log) t_on, used_then_lem t t_along);
        used = place_below t t_along i i_below i_now;
        bad = ap (λ (z : ℕ). within 1 z (logged log then i)) (place_full t t_along i i_below i_now) ∙ i_bad;
        good = good_before;
      }

module _ (words : List ℕ) (n : ℕ) (log : List ℕ) (q : ℕ) (e : replay_answer words n log ≡ refused 18 (q ∷ [])) where
  -- neither 14 nor 15
  not_ran : (k : ℕ) → k < 18 → run_answer words n ≡ refused k [] → ⊥
  not_ran k h f = omega (arith, ap code_of (sym (replay_refused words n log k [] f).0 ∙ e))

  saved_too : saved_well words ≡ true
  unfolding run_answer
  saved_too = elim (known (saved_well words)) [ passes f ↦ f | fails f ↦ absurd (not_ran 14 (omega arith) (rw f)) ]

  early_too : leb (get_or words 1 0 + n) clock_end ≡ true
  unfolding run_answer
  early_too =
      elim (known (leb (get_or words 1 0 + n) clock_end)) [ passes f ↦ f | fails f ↦ absurd (not_ran 15 (omega arith) (rw (saved_too, f))) ]

  told : replay_told log n (state_of words) ≡ refused 18 (q ∷ [])
  told = sym (replay_told_lem words n log (run_accepted words n saved_too (leb-true (get_or words 1 0 + n) clock_end early_too))) ∙ e

  pub exact_first : ExactBad (state_of words) n log q
  unfolding replay_told
  exact_first =
      elim (known (eqb (bad_tick log n (state_of words)) (replayed log n (state_of words)).ticks)) [
        | passes f ↦ absurd (omega (arith, ap code_of (rw f at told)))
        | fails f ↦ subst (ExactBad (state_of words) n log) (ap value_of (rw f at told)) (bad_exactly log n (state_of words) f)
      ]
