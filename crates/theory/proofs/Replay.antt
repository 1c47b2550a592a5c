-- Document 02, 5/14: a replay from fresh is a run with lengths from 1 to C from a clean start, so what holds of every such run holds of it.
use mathlib.Core.Bool.{Bool, true}
use mathlib.Core.List.{List, map}
use mathlib.Core.Path.{◌≡◌, refl, sym, ap, ◌∙◌}
use Prim.Native.Nat.{ℕ, zero, suc, ◌+◌, ◌-◌, ◌≤◌, ◌<◌}
use native.Mathlib.Omega.{arith}
use lib.Dec.{leb, ltb, eqb}
use lib.ListN.{length, get_or}
use borrow.Author.Tests.{eqb-true, ltb-true, lt-ltb}
use Rattle.law.specs.Sums.{bit, both, pick, among}
use Rattle.law.specs.Table.{Task, Ranged, row, kind_of}
use Rattle.law.specs.Verdict.{response, fits, admitted}
use Rattle.law.specs.Tick.{Row, Tally, nothing, met, missed, fresh_row, fresh_tally, fresh, no_row, core_at}
use Rattle.law.specs.Tick.{due, live, choose, outcome, marks, release_all, advance_all, begin, finish}
use Rattle.law.specs.State.{tasks_of}
use Rattle.law.specs.Replay.{logged, replayed}
use Rattle.law.specs.Promise.{is_met, release_tick}
use Rattle.law.proofs.First.{first_same, first_found_lem}
use Rattle.law.proofs.Fresh.{fresh_tasks}
use Rattle.law.proofs.Released.{released_same}
use Rattle.law.proofs.Replay.{Done, done_before, done_step, done_tasks, legal}
use Rattle.law.proofs.Sound.{due_yes}
use Rattle.law.proofs.Sums.{among_same}
use Rattle.law.proofs.Tests.{passes, fails, known, both_left, both_right}
use Rattle.law.proofs.Ticks.{task_at_lem, tasks_length}
use Rattle.theory.specs.Stated.{replay_after, replay_during, replay_settling, replay_took, replay_tally, ReplayKept, ReplayNamed}
use Rattle.theory.proofs.Rows.{step_with, run_with, released_at}
use Rattle.theory.proofs.Clock.{deadline_sooner}
use Rattle.law.proofs.Fits.{fits_deadline, admitted_fits}
use Rattle.theory.proofs.Trace.{Course, in_tick, ending, Trace, during_with, course_of, still_row, released_core, trace_of}
use Rattle.theory.proofs.Life.{is_met_lem, met_after, took_in, in_time_in, life_in, Keeps, missed_then, settled_last, live_kind, windows_kept}
use Rattle.theory.proofs.Bound.{met_in_response, fits_keeps}
use Rattle.theory.proofs.Tallies.{Tallied, tallied_of, tally_of, released_in, misses_stay, breaks_stay, marks_enough}
use Rattle.theory.proofs.Demand.{fresh_clean, blank_tally}

-- the length of the job that row i would release in tick t of a replay of n ticks: the log's number where it releases one, else C
unfoldable pub logged_work : List Task → List ℕ → ℕ → ℕ → ℕ → ℕ
logged_work tasks log n t i =
    pick (both (ltb t n) (due (core_at (replay_after tasks log t).state.rows i))) (logged log (replay_after tasks log t) i) (row tasks i).c

abbrev pub replay_course : List Task → List ℕ → ℕ → Course
replay_course tasks log n = course_of tasks (logged_work tasks log n) (map fresh_row tasks)

abbrev pub replay_tallies : List Task → List ℕ → ℕ → ℕ → ℕ → Tally
replay_tallies tasks log n = tally_of (logged_work tasks log n) (map fresh_row tasks)

module _ (tasks : List Task) (log : List ℕ) (n : ℕ) (d : Done log (fresh tasks) n) where
  -- the table stays
  tasks_stay : (t : ℕ) → t ≤ n → tasks_of (replay_after tasks log t).state.rows ≡ tasks
  unfolding fresh
  tasks_stay t l = done_tasks t (done_before d t l) ∙ fresh_tasks tasks

  task_is : (t i : ℕ) → t ≤ n → (core_at (replay_after tasks log t).state.rows i).task ≡ row tasks i
  task_is t i l = sym (task_at_lem (replay_after tasks log t).state.rows i) ∙ ap (λ (z : List Task). row z i) (tasks_stay t l)

  as_many : (t : ℕ) → t ≤ n → length (replay_after tasks log t).state.rows ≡ length tasks
  as_many t l = sym (tasks_length (replay_after tasks log t).state.rows) ∙ ap length (tasks_stay t l)

  -- the lengths are the log's where a job is released
  work_is : (t i : ℕ) → t < n → (core_at (replay_after tasks log t).state.rows i).wait ≡ 0
      → logged log (replay_after tasks log t) i ≡ logged_work tasks log n t i
  unfolding logged_work
  work_is t i l e = rw (lt-ltb t n l, due_yes (core_at (replay_after tasks log t).state.rows i) e)

  during_same : (t : ℕ) → t < n
      → release_all (logged log (replay_after tasks log t)) (replay_after tasks log t).state.rows
      ≡ release_all (logged_work tasks log n t) (replay_after tasks log t).state.rows
  during_same t l = released_same _ _ (replay_after tasks log t).state.rows (λ i h e. work_is t i l e)

  -- so the replay is the run with these lengths
  rows_are : (t : ℕ) → t ≤ n → (replay_after tasks log t).state.rows ≡ run_with (logged_work tasks log n) t (map fresh_row tasks)
  unfolding replayed fresh run_with step_with begin finish
  rows_are zero l = refl
  rows_are (suc t) l =
      ap (λ x. x.state.rows) (done_step d t l)
      ∙ ap (λ (rows : List Row). advance_all (choose rows) rows) (during_same t l)
      ∙ ap (step_with (logged_work tasks log n t)) (rows_are t (omega arith))

  during_is : (t : ℕ) → t < n
      → release_all (logged log (replay_after tasks log t)) (replay_after tasks log t).state.rows
      ≡ during_with (logged_work tasks log n) t (map fresh_row tasks)
  during_is t l = during_same t l ∙ ap (release_all (logged_work tasks log n t)) (rows_are t (omega arith))

  -- the replay's words of row i in those of a course
  module _ (i : ℕ) (h : i < length tasks) where
    settling_is : (t : ℕ) → t < n → replay_settling tasks log i t ≡ ending (replay_course tasks log n) t i
    settling_is t l =
        ap (λ (rows : List Row). outcome (eqb i (choose rows)) (core_at rows i)) (during_is t l)
        ∙ ap (outcome (eqb i (choose (during_with (logged_work tasks log n) t (map fresh_row tasks)))))
        (released_core tasks (logged_work tasks log n) (map fresh_row tasks) (fresh_clean tasks) t i h)

    -- a job whose deadline has come took what it took in the course
    took_is : (a : ℕ) → release_tick tasks i a + (row tasks i).d ≤ n → replay_took tasks log i a ≡ took_in (replay_course tasks log n) i a
    unfolding took_in
    took_is a l =
        first_same _ (met_after (replay_course tasks log n) i a) 1 (row tasks i).d
        (λ j p q. ap is_met (settling_is (release_tick tasks i a + j - 1) (omega arith)))

    in_time_is : (a : ℕ) → release_tick tasks i a + (row tasks i).d ≤ n
        → leb (replay_took tasks log i a) (row tasks i).d ≡ in_time_in (replay_course tasks log n) i a
    unfolding in_time_in
    in_time_is a l = ap (λ (z : ℕ). leb z (row tasks i).d) (took_is a l)

    tally_is : (t : ℕ) → t ≤ n → replay_tally tasks log i t ≡ replay_tallies tasks log n t i
    tally_is t l = ap (λ (rows : List Row). (get_or rows i no_row).tally) (rows_are t l)

  module _ (ranged : (i : ℕ) → i < length tasks → Ranged (row tasks i)) where
    -- all lengths are from 1 to C
    module _ (t i : ℕ) (h : i < length tasks) where
      abbrev here : Bool
      here = both (ltb t n) (due (core_at (replay_after tasks log t).state.rows i))

      number_range : here ≡ true → (1 ≤ logged log (replay_after tasks log t) i) × (logged log (replay_after tasks log t) i ≤ (row tasks i).c)
      number_range e =
          let l : t < n = ltb-true t n (both_left _ _ e) in
          let w : (core_at (replay_after tasks log t).state.rows i).wait ≡ 0 = eqb-true _ 0 (both_right (ltb t n) _ e) in
          let g = legal log (replay_after tasks log t) (d.clean t l) in
          let k : i < length (replay_after tasks log t).state.rows = omega (arith, as_many t (omega arith)) in
          (g.low i k w, omega (arith, g.high i k w, ap (λ r. r.c) (task_is t i (omega arith))))

      work_range : (1 ≤ logged_work tasks log n t i) × (logged_work tasks log n t i ≤ (row tasks i).c)
      unfolding logged_work
      work_range =
          elim (known here) [
            | passes e ↦ rw e (number_range e)
            | fails e ↦ rw e ((ranged i h).c_low, omega arith)
          ]

    replay_trace : Trace (replay_course tasks log n)
    replay_trace =
        trace_of tasks (logged_work tasks log n) (map fresh_row tasks) (fresh_clean tasks) ranged
        (record { low = λ t i h. (work_range t i h).0; high = λ t i h. (work_range t i h).1 })

    replay_tallied : Tallied (replay_course tasks log n) (replay_tallies tasks log n)
    replay_tallied = tallied_of tasks (logged_work tasks log n) (map fresh_row tasks) (fresh_clean tasks)

    -- Any table: which job is settled when, as far as the ticks are done.
    module _ (i a : ℕ) (h : i < length tasks) where
      core_is : (t : ℕ) → t < n → core_at (replay_during tasks log t) i ≡ in_tick (replay_course tasks log n) t i
      core_is t l =
          ap (λ (rows : List Row). core_at rows i) (during_is t l)
          ∙ released_core tasks (logged_work tasks log n) (map fresh_row tasks) (fresh_clean tasks) t i h

      released_count : (p : ℕ) → p < (row tasks i).t → release_tick tasks i a + p < n
          → (get_or (replay_during tasks log (release_tick tasks i a + p)) i no_row).tally.released ≡ a + 1
      released_count p l k =
          let t : ℕ = release_tick tasks i a + p in
          let work : ℕ → ℕ → ℕ = logged_work tasks log n in
          ap (λ (rows : List Row). (get_or rows i no_row).tally.released) (during_is t k)
          ∙ ap (λ r. r.tally.released)
          (released_at (work t) (run_with work t (map fresh_row tasks)) i (still_row tasks work (map fresh_row tasks) (fresh_clean tasks) t i h))
          ∙ released_in replay_trace replay_tallied i h a p l ∙ omega (arith, ap (λ y. y.released) (blank_tally tasks work i))

      kind_live : (p : ℕ) → p < (row tasks i).t → release_tick tasks i a + p < n
          → live (core_at (replay_during tasks log (release_tick tasks i a + p)) i) ≡ true
          → (core_at (replay_during tasks log (release_tick tasks i a + p)) i).kind ≡ bit (kind_of (row tasks i) a)
      kind_live p l k e =
          let same = core_is (release_tick tasks i a + p) k in
          ap (λ c. c.kind) same
          ∙ live_kind replay_trace i h a p l (ltb-true 0 (in_tick (replay_course tasks log n) (release_tick tasks i a + p) i).work (sym (ap live same) ∙ e))

      settling_last : (p : ℕ) → p < (row tasks i).t → release_tick tasks i a + p < n
          → (replay_settling tasks log i (release_tick tasks i a + p) ≡ nothing → ⊥) → suc p ≡ life_in (replay_course tasks log n) i a
      settling_last p l k s = settled_last replay_trace i h a p l (λ e. s (settling_is i h (release_tick tasks i a + p) k ∙ e))

      settling_met : replay_took tasks log i a ≤ (row tasks i).d → replay_settling tasks log i (release_tick tasks i a + replay_took tasks log i a - 1) ≡ met
      settling_met l =
          is_met_lem _ (first_found_lem (λ p. is_met (replay_settling tasks log i (release_tick tasks i a + p - 1))) 1 (row tasks i).d (omega arith))

      settling_missed : release_tick tasks i a + (row tasks i).d ≤ n → (row tasks i).d < replay_took tasks log i a
          → replay_settling tasks log i (release_tick tasks i a + (row tasks i).d - 1) ≡ missed
      settling_missed l k =
          let low = (ranged i h).d_low in
          settling_is i h (release_tick tasks i a + (row tasks i).d - 1) (omega arith)
          ∙ ap (λ (z : ℕ). ending (replay_course tasks log n) z i) (omega arith)
          ∙ missed_then replay_trace i h a ((row tasks i).d - 1) (omega arith) (omega (arith, took_is i h a l))

      pub replay_named : ReplayNamed tasks log n i a
      replay_named =
          record {
            released = released_count;
            kind = kind_live;
            once = λ p q l k u v s r. omega (arith, settling_last p l u s, settling_last q k v r);
            met_at = λ p l. settling_met l;
            missed_at = settling_missed;
          }

    -- a row that fits
    module _ (i : ℕ) (h : i < length tasks) (e : fits tasks i ≡ true) where
      keeps : Keeps (replay_course tasks log n) i
      keeps = fits_keeps replay_trace i h e

      bound_kept : (a : ℕ) → kind_of (row tasks i) a ≡ true → release_tick tasks i a + (row tasks i).d ≤ n → replay_took tasks log i a ≤ response tasks i
      bound_kept a k l = omega (arith, took_is i h a l, met_in_response replay_trace i h e a k)

      windows_in_time : (a : ℕ) → release_tick tasks i (a + ((row tasks i).k - 1)) + (row tasks i).d ≤ n
          → (row tasks i).m ≤ among (λ a. leb (replay_took tasks log i a) (row tasks i).d) a (row tasks i).k
      windows_in_time a l =
          omega (
            arith,
            windows_kept replay_trace i h keeps a,
            among_same _ (in_time_in (replay_course tasks log n) i) a (row tasks i).k
                (λ j p q. in_time_is i h j (deadline_sooner (row tasks i) j (a + ((row tasks i).k - 1)) n (omega arith) l)),
          )

      blank : replay_tallies tasks log n 0 i ≡ fresh_tally (row tasks i)
      blank = blank_tally tasks (logged_work tasks log n) i

      full : (replay_tallies tasks log n 0 i).window ≡ (fresh_tally (row tasks i)).window
      full = ap (λ y. y.window) blank

      no_miss_seen : (t : ℕ) → t ≤ n → (replay_tally tasks log i t).mx ≡ 0
      no_miss_seen t l =
          ap (λ y. y.mx) (tally_is i h t l) ∙ misses_stay replay_trace replay_tallied i h keeps t ∙ ap (λ y. y.mx) blank

      no_break_seen : (t : ℕ) → t ≤ n → (replay_tally tasks log i t).broken ≡ 0
      no_break_seen t l =
          ap (λ y. y.broken) (tally_is i h t l) ∙ breaks_stay replay_trace replay_tallied i h full keeps t ∙ ap (λ y. y.broken) blank

      enough_seen : (t : ℕ) → t ≤ n → (row tasks i).m ≤ marks (row tasks i).k (replay_tally tasks log i t).window
      enough_seen t l = rw (tally_is i h t l) (marks_enough replay_trace replay_tallied i h full keeps t)

    -- An admitted table: demand 3 of the replay, the response time as an upper bound.
    pub replay_kept : admitted tasks ≡ true → ReplayKept tasks log n
    replay_kept e =
        let all : (i : ℕ) → i < length tasks → fits tasks i ≡ true = admitted_fits tasks e in
        record {
          meets = λ i a h k l. omega (arith, bound_kept i h (all i h) a k l, fits_deadline tasks i (all i h));
          bound = λ i a h k l. bound_kept i h (all i h) a k l;
          windows = λ i a h l. windows_in_time i h (all i h) a l;
          no_miss = λ i t h l. no_miss_seen i h (all i h) t l;
          no_break = λ i t h l. no_break_seen i h (all i h) t l;
          enough = λ i t h l. enough_seen i h (all i h) t l;
        }
