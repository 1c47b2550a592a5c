-- Whether words are a well-formed state: one law for each way out of the code, and what well-formed words give to the run.
use mathlib.Core.Bool.{Bool, true, false}
use mathlib.Core.List.{List, [], ◌∷◌, ◌++◌}
use mathlib.Core.Path.{◌≡◌, refl, sym, ap, ◌∙◌}
use Prim.Native.Nat.{ℕ, ◌+◌, ◌*◌, ◌≤◌, ◌<◌}
use native.Mathlib.Omega.{arith}
use lib.Dec.{leb, eqb}
use lib.ListN.{length, get_or, drop, get_or-eq_default}
use borrow.Author.Tests.{le-leb, lt-leb, eq-eqb, ne_eqb, eqb-true}
use Rattle.law.specs.Sums.{both, every}
use Rattle.law.specs.Refusal.{accepted, refused, within}
use Rattle.law.specs.Table.{faulty, table_of, checked}
use Rattle.law.specs.Tick.{Row, no_row, run, fresh, clock_end}
use Rattle.law.specs.State.{tasks_of, table_well, row_well, state_well, state_of, laid, saved_well, run_answer, run_words, counts_of, counts_answer, counts_room, held_answer, row_of, fresh_answer, fresh_words}
use Rattle.law.proofs.Tests.{both_left, both_right}
use Rattle.law.proofs.Question.{within_high, within_is}
use Rattle.law.proofs.Ticks.{tasks_length, state_facts}
use Rattle.law.proofs.Laid.{saved_laid}
use Rattle.rows.specs.Said.{Sized, Held}
use Rattle.rows.proofs.Words.{words_long, rows_are, row_read}
use Rattle.tick.proofs.Chain.{time_word, idle_word}

both_nested : (a b c : Bool) → both a (both b c) ≡ both (both a b) c
both_nested true b c = refl
both_nested false b c = refl

-- the last word before the words after the rows
pub rows_few : (words : List ℕ) → length words ≡ 643 → within 1 32 (get_or words 0 0) ≡ true → 3 + get_or words 0 0 * 20 ≤ length words
rows_few words long e = omega (arith, within_high 1 32 (get_or words 0 0) e)

module _ (words : List ℕ) where
  table_rows : length (tasks_of (state_of words).rows) ≡ get_or words 0 0
  table_rows = tasks_length (state_of words).rows ∙ rows_are words

  pub length_off : (length words ≡ 643 → ⊥) → false ≡ saved_well words
  unfolding saved_well
  length_off h = sym (rw (ne_eqb (length words) 643 h))

  module _ (long : length words ≡ 643) where
    pub rows_off : within 1 32 (get_or words 0 0) ≡ false → false ≡ saved_well words
    unfolding saved_well state_well table_well
    rows_off e = sym (rw (eq-eqb (length words) 643 long, table_rows, e))

    module _ (rows : within 1 32 (get_or words 0 0) ≡ true) where
      pub sized : Sized words (get_or words 0 0)
      sized = record { long = long; total = sym (rows_are words); few = within_high 1 32 (get_or words 0 0) rows }

      pub table_off : eqb (faulty (tasks_of (state_of words).rows)) (get_or words 0 0) ≡ false → false ≡ saved_well words
      unfolding saved_well state_well table_well
      table_off e = sym (rw (eq-eqb (length words) 643 long, table_rows, rows, e))

      module _ (clean : eqb (faulty (tasks_of (state_of words).rows)) (get_or words 0 0) ≡ true) where
        pub time_off : clock_end < get_or words 1 0 → false ≡ saved_well words
        unfolding saved_well state_well table_well
        time_off h =
            sym (rw (eq-eqb (length words) 643 long, table_rows, rows, clean, lt-leb (state_of words).time clock_end (rw (time_word words) at h)))

        -- the last three tests
        pub last_on : get_or words 1 0 ≤ clock_end
            → both (leb (get_or words 2 0) (get_or words 1 0)) (both (every (row_well (get_or words 1 0)) (state_of words).rows) (every (λ w. eqb w 0) (drop (3 + get_or words 0 0 * 20) words))) ≡ saved_well words
        unfolding saved_well state_well table_well
        last_on early =
            rw (time_word words, idle_word words, eq-eqb (length words) 643 long, table_rows, rows, clean, le-leb (state_of words).time clock_end (rw (time_word words) at early))
            (both_nested (leb (state_of words).idle (state_of words).time) (every (row_well (state_of words).time) (state_of words).rows) (every (λ w. eqb w 0) (drop (3 + get_or words 0 0 * 20) words)))

-- the ways out of `dispatch::well::is_well`, and what its calls ask
pub ruleset ways_out = (length_off, rows_off, sized, table_off, time_off, last_on, rows_few)

-- words that pass are the words of a well-formed state
pub saved_held : (words : List ℕ) → saved_well words ≡ true → Held 0 words
unfolding saved_well
saved_held words e =
    let long = eqb-true (length words) 643 (both_left _ _ e) in
    let rest = both_right (eqb (length words) 643) _ e in
    let s = state_facts (state_of words) (both_left _ _ rest) in
    let few : get_or words 0 0 ≤ 32 = omega (arith, s.table.rows_high, table_rows words) in
    record {
      laid =
          record {
            is = saved_laid words long few (both_right (state_well (state_of words)) _ rest);
            few = omega (arith, rows_are words);
          };
      sound = s;
    }

-- a run by its cases
module _ (words : List ℕ) (n : ℕ) where
  pub run_ill : saved_well words ≡ false → (run_answer words n ≡ refused 14 []) × (run_words words n ≡ words)
  unfolding run_answer run_words
  run_ill e = (rw e, rw e)

  module _ (good : saved_well words ≡ true) where
    pub run_past : clock_end < get_or words 1 0 + n → (run_answer words n ≡ refused 15 []) × (run_words words n ≡ words)
    unfolding run_answer run_words
    run_past h = let e = lt-leb (get_or words 1 0 + n) clock_end h in (rw (good, e), rw (good, e))

    pub run_done : get_or words 1 0 + n ≤ clock_end → (run_answer words n ≡ accepted []) × (run_words words n ≡ laid (run n (state_of words)))
    unfolding run_answer run_words
    run_done h = let e = le-leb (get_or words 1 0 + n) clock_end h in (rw (good, e), rw (good, e))

  pub run_refused : (k : ℕ) (also : List ℕ) → run_answer words n ≡ refused k also → run_words words n ≡ words
  unfolding run_words
  run_refused k also e = rw e

-- the counts of a row by their cases
module _ (words : List ℕ) (i : ℕ) (room : List ℕ) where
  pub counts_ill : saved_well words ≡ false → (counts_answer words (length room) ≡ refused 14 []) × (counts_room words i room ≡ room)
  unfolding counts_answer counts_room
  counts_ill e = (rw e, rw e)

  module _ (good : saved_well words ≡ true) where
    pub counts_short : length room < 7 → (counts_answer words (length room) ≡ refused 13 []) × (counts_room words i room ≡ room)
    unfolding counts_answer counts_room
    counts_short h = let e = lt-leb 7 (length room) h in (rw (good, e), rw (good, e))

    pub counts_laid : 7 ≤ length room
        → (counts_answer words (length room) ≡ accepted []) × (counts_room words i room ≡ counts_of (get_or (state_of words).rows i no_row) ++ drop 7 room)
    unfolding counts_answer counts_room
    counts_laid h = let e = le-leb 7 (length room) h in (rw (good, e), rw (good, e))

-- the frame question by its cases
module _ (words : List ℕ) (i : ℕ) where
  pub frame_length : (length words ≡ 643 → ⊥) → held_answer words i ≡ refused 14 []
  unfolding held_answer
  frame_length h = rw (ne_eqb (length words) 643 h)

  module _ (long : length words ≡ 643) where
    pub frame_rows : within 1 32 (get_or words 0 0) ≡ false → held_answer words i ≡ refused 14 []
    unfolding held_answer
    frame_rows e = rw (eq-eqb (length words) 643 long, e)

    module _ (rows : within 1 32 (get_or words 0 0) ≡ true) where
      pub frame_told : held_answer words i ≡ accepted ((get_or (state_of words).rows i no_row).tally.held ∷ [])
      unfolding held_answer
      frame_told = rw (eq-eqb (length words) 643 long, rows)

      pub frame_none : get_or words 0 0 ≤ i → held_answer words i ≡ accepted (0 ∷ [])
      frame_none h =
          frame_told
          ∙ ap (λ (z : Row). accepted (z.tally.held ∷ [])) (get_or-eq_default (state_of words).rows no_row (omega (arith, rows_are words)))

      pub frame_row : i < get_or words 0 0 → held_answer words i ≡ accepted (get_or words (i * 20 + (3 + 19)) 0 ∷ [])
      unfolding row_of
      frame_row h = frame_told ∙ ap (λ (z : Row). accepted (z.tally.held ∷ [])) (sym (row_read words i (omega (arith, rows_are words))))

-- the ways out of `dispatch::held::held_words`, and what its call asks
pub ruleset frame_ways = (frame_length, frame_rows, frame_none, frame_row, within_high)

-- of a well-formed state it is what the row's tally says
pub frame_saved : (words : List ℕ) (i : ℕ) → saved_well words ≡ true → held_answer words i ≡ accepted ((get_or (state_of words).rows i no_row).tally.held ∷ [])
frame_saved words i e =
    let h = saved_held words e in
    let low : 1 ≤ get_or words 0 0 = omega (arith, h.sound.table.rows_low, table_rows words) in
    let high : get_or words 0 0 ≤ 32 = omega (arith, h.laid.few, rows_are words) in
    frame_told words i (words_long h.laid) (within_is 1 32 (get_or words 0 0) low high)

-- a fresh state by its cases
module _ (table room : List ℕ) where
  pub fresh_unchecked : (n : ℕ) (also : List ℕ) → checked table ≡ refused n also
      → (fresh_answer table (length room) ≡ refused n also) × (fresh_words table room ≡ room)
  unfolding fresh_answer fresh_words
  fresh_unchecked n also e = (rw e, rw e)

  module _ (vs : List ℕ) (good : checked table ≡ accepted vs) where
    pub fresh_short : length room < 643 → (fresh_answer table (length room) ≡ refused 13 []) × (fresh_words table room ≡ room)
    unfolding fresh_answer fresh_words
    fresh_short h = let e = lt-leb 643 (length room) h in (rw (good, e), rw (good, e))

    pub fresh_laid : 643 ≤ length room
        → (fresh_answer table (length room) ≡ accepted (length (table_of table) ∷ [])) × (fresh_words table room ≡ laid (fresh (table_of table)) ++ drop 643 room)
    unfolding fresh_answer fresh_words
    fresh_laid h = let e = le-leb 643 (length room) h in (rw (good, e), rw (good, e))
