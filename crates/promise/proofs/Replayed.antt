-- Document 02, 5/14: what an accepted replay of the fresh words hands back is the replay that the theory speaks of, so its promises hold of the words.
use mathlib.Core.List.{List, [], ◌∷◌}
use mathlib.Core.Path.{◌≡◌, sym, ap, ◌∙◌, subst}
use Prim.Native.Nat.{ℕ, ◌+◌, ◌-◌, ◌*◌, ◌≤◌}
use native.Mathlib.Omega.{arith}
use lib.Dec.{leb}
use lib.ListN.{length, get_or}
use Rattle.law.specs.Sums.{among}
use Rattle.law.specs.Refusal.{accepted, second_of}
use Rattle.law.specs.Table.{table_of, checked, WellFormed}
use Rattle.law.specs.Verdict.{verdict}
use Rattle.law.specs.Tick.{State, no_row, marks, release_all, fresh}
use Rattle.law.specs.State.{state_of, laid}
use Rattle.law.specs.Replay.{Replay, logged, replayed, replay_answer, replay_words}
use Rattle.law.specs.Promise.{settling_in, is_met}
use Rattle.law.proofs.First.{first_same}
use Rattle.law.proofs.Laid.{state_laid}
use Rattle.law.proofs.Replay.{Done, done_before}
use Rattle.law.proofs.ReplayAnswers.{Answered, replay_answered, replay_sooner}
use Rattle.law.proofs.Sums.{among_same}
use Rattle.law.proofs.Table.{checked_accepted}
use Rattle.law.proofs.Verdict.{AdmittedBy, admitted_says}
use Rattle.theory.specs.Stated.{replay_after, replay_settling, replay_took, ReplayKept}
use Rattle.theory.proofs.Clock.{deadline_sooner}
use Rattle.theory.proofs.Replay.{replay_kept}
use Rattle.dispatch.proofs.Begun.{begun_laid}
use Rattle.promise.specs.Promised.{begun, row_in, deadline_of}
use Rattle.promise.specs.Replayed.{replay_at, settling_at, took_with, ReplayPromised}
use Rattle.promise.proofs.Demands.{reported_is, promised}

module _ (table vs : List ℕ) (good : checked table ≡ accepted vs) where
  begun_is : state_of (begun table) ≡ fresh (table_of table)
  unfolding begun
  begun_is = ap state_of (begun_laid table vs good) ∙ state_laid (fresh (table_of table))

  module _ {log : List ℕ} {n done used : ℕ} (a : Answered (begun table) n log done used) where
    -- so many ticks of the replay that the theory speaks of are done
    all_done : Done log (fresh (table_of table)) done
    all_done = subst (λ (s : State). Done log s done) begun_is a.all

    -- and what is handed back and reported after each of them is that replay
    module _ (t : ℕ) (h : t ≤ done) where
      there : (replay_answer (begun table) t log ≡ accepted (t ∷ (replayed log t (state_of (begun table))).used ∷ []))
          × (replay_words (begun table) t log ≡ laid (replayed log t (state_of (begun table))).state)
      there = replay_sooner a t h

      used_is : (replay_at table log t).used ≡ (replayed log t (state_of (begun table))).used
      used_is = ap second_of there.0

      answer_is : replay_answer (begun table) t log ≡ accepted (t ∷ (replay_at table log t).used ∷ [])
      answer_is = there.0 ∙ ap (λ (z : ℕ). accepted (t ∷ z ∷ [])) (sym used_is)

      handed_back : replay_at table log t ≡ replayed log t (state_of (begun table))
      handed_back =
          let state-is = ap state_of there.1 ∙ state_laid (replayed log t (state_of (begun table))).state in
          let ticks-are = sym (done_before a.all t h).ticks in
          λ j. record { state = state-is j; ticks = ticks-are j; used = used_is j }

      replay_is : replay_at table log t ≡ replay_after (table_of table) log t
      replay_is = handed_back ∙ ap (replayed log t) begun_is

    -- so a job whose deadline has come took what the theory says
    settling_is : (i t : ℕ) → t ≤ done → settling_at table log i t ≡ replay_settling (table_of table) log i t
    settling_is i t h = ap (λ (x : Replay). settling_in (release_all (logged log x) x.state.rows) i) (replay_is t h)

    took_is : (i b : ℕ) → deadline_of table i b ≤ done → took_with table log i b ≡ replay_took (table_of table) log i b
    took_is i b h =
        first_same _ _ 1 (row_in table i).d (λ m l q. ap is_met (settling_is i (b * (row_in table i).t + m - 1) (omega arith)))

module _ (table room vs : List ℕ) (e : verdict table (length room) ≡ accepted vs) where
  w : AdmittedBy table (length room)
  w = admitted_says table (length room) vs e

  well : WellFormed (table_of table)
  well = (checked_accepted table w.vs w.good).table

  module _ {log : List ℕ} {n done used : ℕ} (a : Answered (begun table) n log done used) where
    promises : ReplayKept (table_of table) log done
    promises = replay_kept (table_of table) log done (all_done table w.vs w.good a) well.ranged w.all

    ticks : (i b : ℕ) → deadline_of table i b ≤ done → took_with table log i b ≡ replay_took (table_of table) log i b
    ticks = took_is table w.vs w.good a

    seen : (t : ℕ) → t ≤ done → replay_at table log t ≡ replay_after (table_of table) log t
    seen = replay_is table w.vs w.good a

    window_same : (i b : ℕ) → deadline_of table i (b + ((row_in table i).k - 1)) ≤ done
        → among (λ b. leb (took_with table log i b) (row_in table i).d) b (row_in table i).k
        ≡ among (λ b. leb (replay_took (table_of table) log i b) (row_in table i).d) b (row_in table i).k
    window_same i b h =
        among_same _ _ b (row_in table i).k
        (λ j l q. ap (λ (z : ℕ). leb z (row_in table i).d)
        (ticks i j (deadline_sooner (row_in table i) j (b + ((row_in table i).k - 1)) done (omega arith) h)))

    answered_promised : ReplayPromised table room log done
    answered_promised =
        record {
          each = answer_is table w.vs w.good a;
          soon = (promised table room vs e).soon;
          meets = λ i b h k l. omega (arith, ticks i b l, reported_is table room w i h, promises.bound i b h k l);
          windows = λ i b h l. omega (arith, window_same i b l, promises.windows i b h l);
          no_miss = λ i t h l. ap (λ (x : Replay). (get_or x.state.rows i no_row).tally.mx) (seen t l) ∙ promises.no_miss i t h l;
          no_break = λ i t h l. ap (λ (x : Replay). (get_or x.state.rows i no_row).tally.broken) (seen t l) ∙ promises.no_break i t h l;
          enough = λ i t h l.
              omega (
                arith,
                promises.enough i t h l,
                ap (λ (x : Replay). marks (row_in table i).k (get_or x.state.rows i no_row).tally.window) (seen t l),
              );
        }

-- An admitted table: demand 3 of every replay from fresh, as far as it came.
pub replay_promised : (table room vs : List ℕ) → verdict table (length room) ≡ accepted vs → (log : List ℕ) (n done used : ℕ)
    → replay_answer (begun table) n log ≡ accepted (done ∷ used ∷ []) → ReplayPromised table room log done
replay_promised table room vs e log n done used f =
    answered_promised table room vs e (replay_answered (begun table) n log done used f)
