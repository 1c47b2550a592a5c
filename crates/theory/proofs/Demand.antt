-- Demand 3: the fresh run of a table is a run at full length from a clean start, so what holds of every such run is what the law promises of it.
use mathlib.Core.Bool.{true, false}
use mathlib.Core.List.{List, map}
use mathlib.Core.Path.{◌≡◌, refl, sym, ap, ◌∙◌}
use Prim.Native.Nat.{ℕ, suc, ◌+◌, ◌-◌, ◌≤◌, ◌<◌}
use native.Mathlib.Omega.{arith}
use lib.Dec.{eqb}
use lib.ListN.{length, length-map, get_or, get_or-map}
use borrow.Author.Tests.{ltb-true}
use Rattle.law.specs.Sums.{bit, among}
use Rattle.law.specs.Table.{Task, Ranged, no_task, row, kind_of}
use Rattle.law.specs.Verdict.{response, fits, misfit, admitted}
use Rattle.law.specs.Tick.{Row, Tally, Outcome, nothing, met, missed, fresh_row, fresh_tally, fresh, no_row, core_at, live, choose, outcome}
use Rattle.law.specs.Tick.{full_length, release_all}
use Rattle.law.specs.Promise.{state_after, during, settling, is_met, release_tick, took, in_time, tally_after, settled_jobs, mark_of}
use Rattle.law.specs.Promise.{Kept, MissedFirst, Named, Marked, Seen}
use Rattle.law.proofs.First.{first_cong}
use Rattle.law.proofs.Sums.{among_mono}
use Rattle.law.proofs.Tests.{passes, fails, known}
use Rattle.law.proofs.Verdict.{pattern_of}
use Rattle.theory.specs.Stated.{Stated}
use Rattle.theory.proofs.Rows.{run_with, run_full, full_stays, released_at}
use Rattle.law.proofs.Fits.{response_late, fits_above, misfit_fails, admitted_fits, refused_row}
use Rattle.theory.proofs.Trace.{Course, in_tick, ending, Trace, Clean, during_with, course_of, still_row, released_core, trace_of}
use Rattle.theory.proofs.Life.{met_after, took_in, in_time_in, Keeps, in_time_took, late_took, life_in, end_in, took_low, met_then}
use Rattle.theory.proofs.Life.{missed_then, settled_last, live_kind, windows_kept}
use Rattle.theory.proofs.Bound.{met_in_response, fits_keeps, first_no_sooner, first_takes}
use Rattle.theory.proofs.Marks.{mark_of_job}
use Rattle.theory.proofs.Tallies.{Tallied, tallied_of, tally_of, settled_in_lem, released_is, released_in, shows, misses_stay, breaks_stay, marks_enough}

-- the fresh run as a run with lengths
abbrev pub full_work : List Task → ℕ → ℕ → ℕ
full_work tasks t = full_length (map fresh_row tasks)

abbrev pub fresh_course : List Task → Course
fresh_course tasks = course_of tasks (full_work tasks) (map fresh_row tasks)

abbrev pub fresh_tallies : List Task → ℕ → ℕ → Tally
fresh_tallies tasks = tally_of (full_work tasks) (map fresh_row tasks)

module _ (tasks : List Task) where
  fresh_at : (i : ℕ) → get_or (map fresh_row tasks) i no_row ≡ fresh_row (row tasks i)
  fresh_at i = get_or-map fresh_row tasks i no_task

  pub fresh_clean : Clean tasks (map fresh_row tasks)
  fresh_clean = record { as_many = length-map tasks fresh_row; fresh_core_lem = λ i h. ap (λ r. r.core) (fresh_at i) }

  pub full_is : (t i : ℕ) → full_work tasks t i ≡ (row tasks i).c
  full_is t i = ap (λ r. r.core.task.c) (fresh_at i)

  pub blank_tally : (work : ℕ → ℕ → ℕ) (i : ℕ) → tally_of work (map fresh_row tasks) 0 i ≡ fresh_tally (row tasks i)
  unfolding run_with
  blank_tally work i = ap (λ r. r.tally) (fresh_at i)

  blank : (i : ℕ) → fresh_tallies tasks 0 i ≡ fresh_tally (row tasks i)
  blank = blank_tally (full_work tasks)

  pub after_is : (t : ℕ) → (state_after tasks t).rows ≡ run_with (full_work tasks) t (map fresh_row tasks)
  unfolding state_after fresh
  after_is t = run_full t (fresh tasks)

  pub during_is : (t : ℕ) → during (state_after tasks t) ≡ during_with (full_work tasks) t (map fresh_row tasks)
  unfolding during
  during_is t =
      let rows : List Row = run_with (full_work tasks) t (map fresh_row tasks) in
      ap (λ (rows : List Row). release_all (full_length rows) rows) (after_is t)
      ∙ ap (λ (work : ℕ → ℕ). release_all work rows) (full_stays (full_work tasks) t (map fresh_row tasks))

  -- the law's words of row i in those of a course
  module _ (i : ℕ) (h : i < length tasks) where
    row_during : (t : ℕ) → i < length (run_with (full_work tasks) t (map fresh_row tasks))
    row_during t = still_row tasks (full_work tasks) (map fresh_row tasks) fresh_clean t i h

    core_is : (t : ℕ) → core_at (during (state_after tasks t)) i ≡ in_tick (fresh_course tasks) t i
    core_is t =
        ap (λ (rows : List Row). core_at rows i) (during_is t)
        ∙ released_core tasks (full_work tasks) (map fresh_row tasks) fresh_clean t i h

    settling_is : (t : ℕ) → settling (state_after tasks t) i ≡ ending (fresh_course tasks) t i
    unfolding settling
    settling_is t =
        rw (core_is t) (ap (λ (rows : List Row). outcome (eqb i (choose rows)) (in_tick (fresh_course tasks) t i)) (during_is t))

    took_is : (a : ℕ) → took tasks i a ≡ took_in (fresh_course tasks) i a
    unfolding took took_in
    took_is a =
        first_cong _ (met_after (fresh_course tasks) i a) 1 (row tasks i).d (λ n. ap is_met (settling_is (release_tick tasks i a + n - 1)))

    in_time_is : (a : ℕ) → in_time tasks i a ≡ in_time_in (fresh_course tasks) i a
    unfolding in_time in_time_in
    in_time_is a = rw (took_is a)

    tally_is : (t : ℕ) → tally_after tasks i t ≡ fresh_tallies tasks t i
    tally_is t = ap (λ (rows : List Row). (get_or rows i no_row).tally) (after_is t)

module _ (tasks : List Task) (ranged : (i : ℕ) → i < length tasks → Ranged (row tasks i)) where
  pub fresh_trace : Trace (fresh_course tasks)
  fresh_trace =
      trace_of tasks (full_work tasks) (map fresh_row tasks) (fresh_clean tasks) ranged
      (record {
        low = λ t i h. omega (arith, full_is tasks t i, (ranged i h).c_low);
        high = λ t i h. omega (arith, full_is tasks t i);
      })

  pub fresh_tallied : Tallied (fresh_course tasks) (fresh_tallies tasks)
  fresh_tallied = tallied_of tasks (full_work tasks) (map fresh_row tasks) (fresh_clean tasks)

  -- Any table: which job is settled when.
  module _ (i a : ℕ) (h : i < length tasks) where
    released_count : (n : ℕ) → n < (row tasks i).t → (get_or (during (state_after tasks (release_tick tasks i a + n))) i no_row).tally.released ≡ a + 1
    released_count n l =
        let t : ℕ = release_tick tasks i a + n in
        ap (λ (rows : List Row). (get_or rows i no_row).tally.released) (during_is tasks t)
        ∙ ap (λ r. r.tally.released) (released_at (full_work tasks t) (run_with (full_work tasks) t (map fresh_row tasks)) i (row_during tasks i h t))
        ∙ released_in fresh_trace fresh_tallied i h a n l ∙ omega (arith, ap (λ y. y.released) (blank tasks i))

    kind_live : (n : ℕ) → n < (row tasks i).t → live (core_at (during (state_after tasks (release_tick tasks i a + n))) i) ≡ true
        → (core_at (during (state_after tasks (release_tick tasks i a + n))) i).kind ≡ bit (kind_of (row tasks i) a)
    kind_live n l =
        rw (core_is tasks i h (release_tick tasks i a + n))
        (λ e. live_kind fresh_trace i h a n l (ltb-true 0 (in_tick (fresh_course tasks) (release_tick tasks i a + n) i).work e))

    settling_last : (n : ℕ) → n < (row tasks i).t → (settling (state_after tasks (release_tick tasks i a + n)) i ≡ nothing → ⊥)
        → suc n ≡ life_in (fresh_course tasks) i a
    settling_last n l s = settled_last fresh_trace i h a n l (λ e. s (settling_is tasks i h (release_tick tasks i a + n) ∙ e))

    settling_at_lem : (n : ℕ) (o : Outcome) → 1 ≤ n → end_in (fresh_course tasks) i a (n - 1) ≡ o
        → settling (state_after tasks (release_tick tasks i a + n - 1)) i ≡ o
    settling_at_lem n o l e =
        settling_is tasks i h (release_tick tasks i a + n - 1) ∙ ap (λ (z : ℕ). ending (fresh_course tasks) z i) (omega arith) ∙ e

    settling_met : in_time tasks i a ≡ true → settling (state_after tasks (release_tick tasks i a + took tasks i a - 1)) i ≡ met
    settling_met e =
        rw (took_is tasks i h a)
        (settling_at_lem (took_in (fresh_course tasks) i a) met (took_low fresh_trace i h a)
        (met_then fresh_trace i h a _ (omega (arith, took_low fresh_trace i h a))
        (in_time_took (fresh_course tasks) i a (sym (in_time_is tasks i h a) ∙ e))))

    settling_missed : in_time tasks i a ≡ false → settling (state_after tasks (release_tick tasks i a + (row tasks i).d - 1)) i ≡ missed
    settling_missed e =
        settling_at_lem (row tasks i).d missed (ranged i h).d_low
        (missed_then fresh_trace i h a _ (omega (arith, (ranged i h).d_low))
        (late_took (fresh_course tasks) i a (sym (in_time_is tasks i h a) ∙ e)))

    pub named : Named tasks i a
    named =
        record {
          released = released_count;
          kind = kind_live;
          once = λ n p l k s r. omega (arith, settling_last n l s, settling_last p k r);
          met_at = settling_met;
          missed_at = settling_missed;
        }

  -- Any table: what a window shows.
  module _ (i t : ℕ) (h : i < length tasks) where
    settled_is : settled_jobs tasks i t ≡ settled_in_lem (fresh_course tasks) i t
    unfolding settled_jobs settled_in_lem
    settled_is =
        rw (tally_is tasks i h t, after_is tasks t)
        (omega (arith, released_is fresh_trace fresh_tallied i h t, ap (λ y. y.released) (blank tasks i)))

    mark_is : (b : ℕ) → mark_of tasks i t b ≡ mark_of_job (in_time_in (fresh_course tasks) i) (settled_in_lem (fresh_course tasks) i t) b
    unfolding mark_of
    mark_is b = rw (settled_is, in_time_is tasks i h (settled_in_lem (fresh_course tasks) i t - 1 - b))

    pub marked : Marked tasks i t
    marked =
        record {
          mark = λ b l. rw (tally_is tasks i h t, mark_is b)
              ((shows fresh_trace fresh_tallied i h (ap (λ y. y.window) (blank tasks i)) t).shown b l);
        }

  -- a row that fits keeps its mandatory jobs in time
  row_keeps : (i : ℕ) → i < length tasks → fits tasks i ≡ true → Keeps (fresh_course tasks) i
  row_keeps i h e = fits_keeps fresh_trace i h e

  mandatory_in_time : (i a : ℕ) → i < length tasks → fits tasks i ≡ true → kind_of (row tasks i) a ≡ true → in_time tasks i a ≡ true
  mandatory_in_time i a h e k = in_time_is tasks i h a ∙ row_keeps i h e a k

  -- An admitted table: what was promised, and what a user sees.
  module _ (e : admitted tasks ≡ true) where
    all_fit : (i : ℕ) → i < length tasks → fits tasks i ≡ true
    all_fit = admitted_fits tasks e

    first_took : (i : ℕ) → i < length tasks → took tasks i 0 ≡ response tasks i
    first_took i h =
        took_is tasks i h 0
        ∙ first_takes fresh_trace i h (λ t j k. full_is tasks t j) (λ j l. row_keeps j (omega arith) (all_fit j (omega arith))) (all_fit i h)

    windows_in_time : (i a : ℕ) → i < length tasks → (row tasks i).m ≤ among (in_time tasks i) a (row tasks i).k
    windows_in_time i a h =
        omega (
          arith,
          windows_kept fresh_trace i h (row_keeps i h (all_fit i h)) a,
          among_mono (in_time_in (fresh_course tasks) i) (in_time tasks i) a (row tasks i).k (λ b k. in_time_is tasks i h b ∙ k),
        )

    pub kept : Kept tasks
    kept =
        record {
          meets = λ i a h k. mandatory_in_time i a h (all_fit i h) k;
          bound = λ i a h k. rw (took_is tasks i h a) (met_in_response fresh_trace i h (all_fit i h) a k);
          first = first_took;
          windows = windows_in_time;
        }

    pub seen : (i t : ℕ) → i < length tasks → Seen tasks i t
    seen i t h =
        let full : (fresh_tallies tasks 0 i).window ≡ (fresh_tally (row tasks i)).window = ap (λ y. y.window) (blank tasks i) in
        let good : Keeps (fresh_course tasks) i = row_keeps i h (all_fit i h) in
        record {
          no_miss = rw (tally_is tasks i h t) (misses_stay fresh_trace fresh_tallied i h good t ∙ ap (λ y. y.mx) (blank tasks i));
          no_break = rw (tally_is tasks i h t) (breaks_stay fresh_trace fresh_tallied i h full good t ∙ ap (λ y. y.broken) (blank tasks i));
          enough = rw (tally_is tasks i h t) (marks_enough fresh_trace fresh_tallied i h full good t);
        }

  -- A refused table: the first row that does not fit, below rows that do.
  module _ (i : ℕ) (e : misfit tasks ≡ i) (h : i < length tasks) where
    above_fit : (j : ℕ) → j < i → fits tasks j ≡ true
    above_fit j l = fits_above tasks j (omega arith)

    response_beyond : (row tasks i).d < response tasks i
    response_beyond = response_late tasks i (rw e at (misfit_fails tasks (omega arith)))

    first_beyond : took_in (fresh_course tasks) i 0 ≤ (row tasks i).d → ⊥
    first_beyond d =
        omega (arith, response_beyond, first_no_sooner fresh_trace i h (λ t j k. full_is tasks t j) (λ j l. row_keeps j (omega arith) (above_fit j l)) d)

    first_late : in_time tasks i 0 ≡ false
    first_late =
        elim (known (in_time tasks i 0)) [
          | passes p ↦ absurd (first_beyond (in_time_took (fresh_course tasks) i 0 (sym (in_time_is tasks i h 0) ∙ p)))
          | fails p ↦ p
        ]

    pub missed_first : MissedFirst tasks i
    missed_first =
        record {
          is_row = h;
          above = λ j l. mandatory_in_time j 0 (omega arith) (above_fit j l) (pattern_of (ranged j (omega arith))).first;
          late = first_late;
          miss = ap (λ (z : ℕ). settling (state_after tasks z) i) (omega arith) ∙ settling_missed i 0 h first_late;
        }

  pub missed_when_refused : admitted tasks ≡ false → MissedFirst tasks (misfit tasks)
  missed_when_refused e = missed_first (misfit tasks) refl (refused_row tasks e)

  pub stated : Stated tasks
  stated =
      record {
        kept = kept;
        seen = seen;
        turned_down = missed_when_refused;
        named = named;
        marked = marked;
      }
