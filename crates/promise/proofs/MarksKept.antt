-- What the functions hand back is well formed, and in well-formed words the stored number of met marks is the count.
use mathlib.Core.Bool.{true, false}
use mathlib.Core.List.{List, [], ◌∷◌}
use mathlib.Core.Path.{◌≡◌, sym, ap, ◌∙◌, subst}
use Prim.Native.Nat.{ℕ, ◌≤◌}
use native.Mathlib.Decide.{dec_lt}
use native.Mathlib.Omega.{arith}
use lib.Dec.{leb}
use lib.ListN.{length, take, get_or-eq_default}
use lib.Seq.{take_at}
use borrow.Author.Tests.{leb-true}
use Rattle.law.specs.Refusal.{accepted}
use Rattle.law.specs.Table.{table_of, checked}
use Rattle.law.specs.Tick.{Row, no_row, marks, fresh}
use Rattle.law.specs.State.{state_of, state_words, saved_well, saved_answer, laid, fresh_answer, fresh_words, run_words}
use Rattle.law.specs.Replay.{replay_words}
use Rattle.law.proofs.Fresh.{fresh_sound, laid_saved}
use Rattle.law.proofs.Laid.{laid_length}
use Rattle.law.proofs.Replay.{replay_refused}
use Rattle.law.proofs.ReplayAnswers.{replay_saved}
use Rattle.law.proofs.Table.{checked_accepted, passed_on}
use Rattle.law.proofs.Tests.{passes, fails, known}
use Rattle.law.proofs.Ticks.{tasks_length}
use Rattle.law.proofs.Verdict.{after_accepted}
use Rattle.law.proofs.Window.{marks_none}
use Rattle.dispatch.proofs.Begun.{run_saved}
use Rattle.dispatch.proofs.Saved.{saved_held, length_off, fresh_laid, run_ill, counts_ill, frame_length, frame_saved}
use Rattle.promise.specs.MissesLeft.{row_seen, marks_held}
use Rattle.promise.specs.MarksKept.{MarksTrue, MarksKept, Refused14}

-- no row's number, and the count of no marks
none : (words : List ℕ) (i : ℕ) → length (state_of words).rows ≤ i → (row_seen words i).tally.held ≡ marks_held words i
none words i h =
    let e : row_seen words i ≡ no_row = get_or-eq_default (state_of words).rows no_row h in
    ap (λ (z : Row). z.tally.held) e ∙ sym (marks_none 0) ∙ sym (ap (λ (z : Row). marks z.core.task.k z.tally.window) e)

given : (words : List ℕ) → saved_well words ≡ true → MarksTrue words
given words good = record { well = good; each = each; frame = λ i. frame_saved words i good ∙ ap (λ (z : ℕ). accepted (z ∷ [])) (each i) }
  where
    each : (i : ℕ) → (row_seen words i).tally.held ≡ marks_held words i
    each i =
        elim (dec_lt i (length (state_of words).rows)) [
          | yes h ↦ ((saved_held words good).sound.rows i h).tally.held
          | no h ↦ none words i (omega arith)
        ]

begun : (table room vs : List ℕ) → fresh_answer table (length room) ≡ accepted vs → MarksTrue (take state_words (fresh_words table room))
unfolding fresh_answer
begun table room vs e =
    let a = after_accepted (checked table) _ vs e in
    let long = leb-true state_words (length room) (passed_on (leb state_words (length room)) 13 [] vs _ a.2).0 in
    let well = (checked_accepted table a.0 a.1).table in
    let s = fresh (table_of table) in
    let sound = fresh_sound (table_of table) well in
    let few : length s.rows ≤ 32 = omega (arith, sound.table.rows_high, tasks_length s.rows) in
    subst MarksTrue
    (sym (ap (take state_words) (fresh_laid table room a.0 a.1 long).1 ∙ take_at (laid s) _ state_words (laid_length s few)))
    (given (laid s) (laid_saved s sound))

ill : (words : List ℕ) → saved_well words ≡ false → Refused14 words
unfolding saved_answer
ill words e =
    record {
      well = rw e;
      run = λ n. run_ill words n e;
      replay = λ n log. replay_refused words n log 14 [] (run_ill words n e).0;
      counts = λ i room. counts_ill words i room e;
    }

untrue : (words : List ℕ) (i : ℕ) → ((row_seen words i).tally.held ≡ marks_held words i → ⊥) → Refused14 words
untrue words i off = elim (known (saved_well words)) [ passes e ↦ absurd (off ((given words e).each i)) | fails e ↦ ill words e ]

pub marks_kept : MarksKept
marks_kept =
    record {
      fresh = begun;
      run = λ words n good. given (run_words words n) (run_saved words good n);
      replay = λ words n log good. given (replay_words words n log) (replay_saved words n log good);
      given = given;
      untrue = untrue;
      other_length = λ words h. (ill words (sym (length_off words h)), λ i. frame_length words i h);
    }
