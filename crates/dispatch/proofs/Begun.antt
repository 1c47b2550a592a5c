-- Runs over words: a run of 0, a run in pieces, and a run from the fresh words of an accepted table, which is made up to the clock's end and leaves
-- the words of the state after so many ticks.
use mathlib.Core.Bool.{true}
use mathlib.Core.List.{List, [], append-nil}
use mathlib.Core.Path.{◌≡◌, sym, ap, ◌∙◌}
use Prim.Native.Nat.{ℕ, ◌+◌, ◌≤◌}
use native.Mathlib.Decide.{dec_lt}
use native.Mathlib.Omega.{arith}
use lib.ListN.{get_or, replicate, length-replicate}
use Rattle.law.specs.Refusal.{accepted}
use Rattle.law.specs.Table.{table_of, checked}
use Rattle.law.specs.Tick.{State, fresh, run, clock_end}
use Rattle.law.specs.State.{state_of, laid, saved_well, fresh_words, run_answer, run_words}
use Rattle.law.proofs.Table.{checked_accepted}
use Rattle.law.proofs.Fresh.{fresh_sound, laid_saved}
use Rattle.law.proofs.Laid.{state_laid}
use Rattle.law.proofs.Tests.{passes, fails, known}
use Rattle.law.proofs.Ticks.{run_time, run_sound, run_add}
use Rattle.tick.proofs.Chain.{time_word}
use Rattle.dispatch.proofs.Saved.{saved_held, fresh_laid, run_ill, run_past, run_done}

-- a run of 0 changes nothing, whatever the words are
pub run_nothing : (words : List ℕ) → run_words words 0 ≡ words
unfolding run
run_nothing words =
    elim (known (saved_well words)) [
      | fails e ↦ (run_ill words 0 e).1
      | passes e ↦ elim (dec_lt clock_end (get_or words 1 0 + 0)) [
        | yes h ↦ (run_past words 0 e h).1
        | no h ↦ (run_done words 0 e (omega arith)).1 ∙ sym (saved_held words e).laid.is
      ]
    ]

-- a run in two pieces is one run
module _ (words : List ℕ) (good : saved_well words ≡ true) where
  time_is : (t : ℕ) → get_or words 1 0 + t ≤ clock_end → get_or (laid (run t (state_of words))) 1 0 ≡ get_or words 1 0 + t
  unfolding laid
  time_is t h = run_time t (state_of words) ∙ ap (λ (z : ℕ). z + t) (sym (time_word words))

  after_saved : (t : ℕ) → get_or words 1 0 + t ≤ clock_end → saved_well (laid (run t (state_of words))) ≡ true
  after_saved t h =
      laid_saved (run t (state_of words)) (run_sound t (state_of words) (saved_held words good).sound (omega (arith, time_word words)))

  -- what a run hands back, made or refused, is well formed
  pub run_saved : (n : ℕ) → saved_well (run_words words n) ≡ true
  run_saved n =
      elim (dec_lt clock_end (get_or words 1 0 + n)) [
        | yes h ↦ ap saved_well (run_past words n good h).1 ∙ good
        | no h ↦ let early : get_or words 1 0 + n ≤ clock_end = omega arith in
            ap saved_well (run_done words n good early).1 ∙ after_saved n early
      ]

  pub run_pieces : (t u : ℕ) → get_or words 1 0 + (t + u) ≤ clock_end → run_words (run_words words t) u ≡ run_words words (t + u)
  run_pieces t u h =
      let early : get_or words 1 0 + t ≤ clock_end = omega arith in
      let on : get_or (laid (run t (state_of words))) 1 0 + u ≤ clock_end = omega (arith, time_is t early) in
      ap (λ (z : List ℕ). run_words z u) (run_done words t good early).1
      ∙ (run_done (laid (run t (state_of words))) u (after_saved t early) on).1
      ∙ ap (λ (z : State). laid (run u z)) (state_laid (run t (state_of words)))
      ∙ ap laid (sym (run_add t u (state_of words))) ∙ sym (run_done words (t + u) good h).1

module _ (table vs : List ℕ) (good : checked table ≡ accepted vs) where
  pub begun_laid : fresh_words table (replicate 643 0) ≡ laid (fresh (table_of table))
  begun_laid =
      (fresh_laid table (replicate 643 0) vs good (omega (arith, length-replicate {A = ℕ} 643 0))).1 ∙ append-nil (laid (fresh (table_of table)))

  begun_saved : saved_well (fresh_words table (replicate 643 0)) ≡ true
  begun_saved =
      ap saved_well begun_laid ∙ laid_saved (fresh (table_of table)) (fresh_sound (table_of table) (checked_accepted table vs good).table)

  begun_time : get_or (fresh_words table (replicate 643 0)) 1 0 ≡ 0
  unfolding laid fresh
  begun_time = ap (λ (z : List ℕ). get_or z 1 0) begun_laid

  pub begun_runs : (n : ℕ) → n ≤ clock_end → run_answer (fresh_words table (replicate 643 0)) n ≡ accepted []
  begun_runs n h = (run_done (fresh_words table (replicate 643 0)) n begun_saved (omega (arith, begun_time))).0

  pub begun_run : (n : ℕ) → n ≤ clock_end → run_words (fresh_words table (replicate 643 0)) n ≡ laid (run n (fresh (table_of table)))
  begun_run n h =
      (run_done (fresh_words table (replicate 643 0)) n begun_saved (omega (arith, begun_time))).1
      ∙ ap (λ (z : List ℕ). laid (run n (state_of z))) begun_laid
      ∙ ap (λ z. laid (run n z)) (state_laid (fresh (table_of table)))

  pub begun_pieces : (t u : ℕ) → t + u ≤ clock_end
      → run_words (run_words (fresh_words table (replicate 643 0)) t) u ≡ run_words (fresh_words table (replicate 643 0)) (t + u)
  begun_pieces t u h = run_pieces (fresh_words table (replicate 643 0)) begun_saved t u (omega (arith, begun_time))
