-- Demand 3 over the functions' answers: the theory's promises, carried to what the functions hand back by `Runs`.
use mathlib.Core.Bool.{true}
use mathlib.Core.List.{List, [], ◌∷◌}
use mathlib.Core.Path.{◌≡◌, refl, sym, ap, ◌∙◌}
use Prim.Native.Nat.{ℕ, ◌+◌, ◌-◌, ◌≤◌, ◌<◌}
use native.Mathlib.Omega.{arith}
use lib.Dec.{leb}
use lib.ListN.{length, get_or, drop, get_or-append}
use borrow.Author.Tests.{leb-true, leb-false, eqb-true}
use Rattle.law.specs.Sums.{among}
use Rattle.law.specs.Refusal.{accepted, refused}
use Rattle.law.specs.Table.{Task, table_of, row, WellFormed}
use Rattle.law.specs.Verdict.{response, misfit, admitted, responses, verdict}
use Rattle.law.specs.Tick.{State, no_row, marks, clock_end}
use Rattle.law.specs.Promise.{settling, took, in_time, Kept, MissedFirst, Seen}
use Rattle.law.proofs.Table.{checked_accepted}
use Rattle.law.proofs.First.{build_length, build_at}
use Rattle.law.proofs.Sums.{among_same}
use Rattle.law.proofs.Verdict.{pattern_of, AdmittedBy, admitted_says, LateBy, late_says, verdict_admitted}
use Rattle.theory.proofs.Clock.{deadline_sooner}
use Rattle.theory.proofs.Demand.{kept, missed_first, seen}
use Rattle.promise.specs.Promised.{reported, rows_in, row_in, took_ticks, deadline_of, Promised, TurnedDown}
use Rattle.promise.proofs.FirstMiss.{first_miss}
use Rattle.promise.proofs.Runs.{runs, in_pieces, seen_is, took_is}

pub admitted_all : (tasks : List Task) → admitted tasks ≡ true → misfit tasks ≡ length tasks
unfolding admitted
admitted_all tasks e = eqb-true (misfit tasks) (length tasks) e

response_at : (tasks : List Task) (i : ℕ) → i < length tasks → get_or (responses tasks) i 0 ≡ response tasks i
unfolding responses
response_at tasks i h = build_at (response tasks) (length tasks) i 0 h

responses_length : (tasks : List Task) → length (responses tasks) ≡ length tasks
unfolding responses
responses_length tasks = build_length (response tasks) (length tasks)

in_time_is : (tasks : List Task) (i a : ℕ) → in_time tasks i a ≡ leb (took tasks i a) (row tasks i).d
unfolding in_time
in_time_is tasks i a = refl

-- the times in the room are the response times
pub reported_is : (table room : List ℕ) (w : AdmittedBy table (length room)) (i : ℕ) → i < rows_in table → reported table room i ≡ response (table_of table) i
reported_is table room w i h =
    ap (λ (z : List ℕ). get_or z i 0) (verdict_admitted table room w.vs w.good w.fits (admitted_all (table_of table) w.all)).1
    ∙ get_or-append (responses (table_of table)) (drop (length (table_of table)) room) 0 i (omega (arith, responses_length (table_of table)))
    ∙ response_at (table_of table) i h

module _ (table room : List ℕ) (vs : List ℕ) (e : verdict table (length room) ≡ accepted vs) where
  w : AdmittedBy table (length room)
  w = admitted_says table (length room) vs e

  well : WellFormed (table_of table)
  well = (checked_accepted table w.vs w.good).table

  promises : Kept (table_of table)
  promises = kept (table_of table) well.ranged w.all

  early : (i : ℕ) → i < rows_in table → deadline_of table i 0 ≤ clock_end
  early i h = let g = well.ranged i h in omega (arith, g.d_high, g.t_high)

  times : (i : ℕ) → i < rows_in table → reported table room i ≡ response (table_of table) i
  times i h = reported_is table room w i h

  ticks : (i a : ℕ) → deadline_of table i a ≤ clock_end → took_ticks table i a ≡ took (table_of table) i a
  ticks i a h = took_is table w.vs w.good i a h

  first_fits : (i : ℕ) → i < rows_in table → response (table_of table) i ≤ (row_in table i).d
  first_fits i h =
      let job = (pattern_of (well.ranged i h)).first in
      let t = leb-true (took (table_of table) i 0) (row_in table i).d (sym (in_time_is (table_of table) i 0) ∙ promises.meets i 0 h job) in
      omega (arith, promises.first i h)

  window_same : (i a : ℕ) → i < rows_in table → deadline_of table i (a + ((row_in table i).k - 1)) ≤ clock_end
      → among (λ a. leb (took_ticks table i a) (row_in table i).d) a (row_in table i).k ≡ among (in_time (table_of table) i) a (row_in table i).k
  window_same i a h d =
      among_same _ _ a (row_in table i).k
      (λ j l q. ap (λ (z : ℕ). leb z (row_in table i).d) (ticks i j (deadline_sooner (row_in table i) j (a + ((row_in table i).k - 1)) clock_end (omega arith) d))
      ∙ sym (in_time_is (table_of table) i j))

  shown : (i t : ℕ) → i < rows_in table → t ≤ clock_end → Seen (table_of table) i t
  shown i t h l = seen (table_of table) well.ranged w.all i t h

  pub promised : Promised table room
  promised =
      record {
        ran = runs table w.vs w.good;
        pieces = in_pieces table w.vs w.good;
        soon = λ i h. omega (arith, times i h, first_fits i h);
        meets = λ i a h k d. omega (arith, ticks i a d, times i h, promises.bound i a h k);
        first = λ i h. ticks i 0 (early i h) ∙ promises.first i h ∙ sym (times i h);
        windows = λ i a h d. omega (arith, window_same i a h d, promises.windows i a h);
        no_miss = λ i t h l. ap (λ (z : State). (get_or z.rows i no_row).tally.mx) (seen_is table w.vs w.good t l) ∙ (shown i t h l).no_miss;
        no_break = λ i t h l. ap (λ (z : State). (get_or z.rows i no_row).tally.broken) (seen_is table w.vs w.good t l) ∙ (shown i t h l).no_break;
        enough = λ i t h l. omega (arith, (shown i t h l).enough, ap (λ (z : State). marks (row_in table i).k (get_or z.rows i no_row).tally.window) (seen_is table w.vs w.good t l));
      }

module _ (table : List ℕ) (room i : ℕ) (e : verdict table room ≡ refused 11 (i ∷ [])) where
  late : LateBy table i
  late = late_says table room i e

  formed : WellFormed (table_of table)
  formed = (checked_accepted table late.vs late.good).table

  missing : MissedFirst (table_of table) i
  missing = missed_first (table_of table) formed.ranged i late.is late.in_table

  first_took : (j : ℕ) → j < rows_in table → took_ticks table j 0 ≡ took (table_of table) j 0
  first_took j h = let g = formed.ranged j h in took_is table late.vs late.good j 0 (omega (arith, g.d_high, g.t_high))

  pub turned_down : TurnedDown table i
  turned_down =
      let g = formed.ranged i late.in_table in
      record {
        is_row = late.in_table;
        ran = runs table late.vs late.good;
        above = λ j l. omega (arith, first_took j (omega (arith, late.in_table)), leb-true (took (table_of table) j 0) (row_in table j).d (sym (in_time_is (table_of table) j 0) ∙ missing.above j l));
        late = omega (arith, first_took i late.in_table, leb-false (took (table_of table) i 0) (row_in table i).d (sym (in_time_is (table_of table) i 0) ∙ missing.late));
        miss = ap (λ (z : State). settling z i) (seen_is table late.vs late.good ((row_in table i).d - 1) (omega (arith, g.d_high, g.t_high))) ∙ missing.miss;
        counted = ap (λ (z : State). (get_or z.rows i no_row).tally.mx) (seen_is table late.vs late.good (row_in table i).d (omega (arith, g.d_high, g.t_high))) ∙ first_miss (table_of table) formed i missing;
      }
