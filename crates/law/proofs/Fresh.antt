-- The fresh state of a well-formed table is well formed, and the words of a well-formed state are well-formed words.
use mathlib.Core.Bool.{true}
use mathlib.Core.List.{List, [], ◌∷◌, map}
use mathlib.Core.Logic.{inl}
use mathlib.Core.Path.{◌≡◌, refl, sym, ap, ◌∙◌, subst}
use Prim.Native.Nat.{ℕ, zero, suc, ◌+◌, ◌-◌, ◌*◌, ◌≤◌}
use native.Mathlib.Omega.{arith}
use lib.Dec.{eqb}
use lib.ListN.{length, get_or, drop, replicate, length-map, get_or-map}
use lib.Pow.{ones_lt}
use lib.Seq.{drop_at}
use borrow.Author.Tests.{eq-eqb}
use Rattle.law.specs.Sums.{every}
use Rattle.law.specs.Table.{Task, no_task, row, Ranged, WellFormed}
use Rattle.law.specs.Tick.{State, fresh_row, fresh}
use Rattle.law.specs.State.{tasks_of, state_well, rows_laid, laid, saved_well}
use Rattle.law.specs.Sound.{SoundRow, SoundState}
use Rattle.law.proofs.Tests.{both_true}
use Rattle.law.proofs.Window.{marks_full}
use Rattle.law.proofs.Laid.{rows_length, laid_length, state_laid}
use Rattle.law.proofs.Ticks.{state_tests, tasks_length}

pub fresh_tasks : (tasks : List Task) → tasks_of (map fresh_row tasks) ≡ tasks
fresh_tasks [] = refl
fresh_tasks (r ∷ tasks) = ap (λ (z : List Task). r ∷ z) (fresh_tasks tasks)

fresh_row_sound : (r : Task) → Ranged r → SoundRow 0 0 (fresh_row r)
fresh_row_sound r g =
    record {
      core =
          record {
            ranged = g;
            wait_low = omega arith;
            wait_high = omega (arith, g.t_low);
            place = omega (arith, g.pair.m_low, g.pair.m_high);
            work = omega arith;
            job = inl (record { work = refl; left = refl; kind = refl });
          };
      tally = record { released = omega arith; balance = refl; broken = omega arith; window = ones_lt r.k; held = sym (marks_full r.k) };
    }

pub fresh_sound : (tasks : List Task) → WellFormed tasks → SoundState 0 (fresh tasks)
unfolding fresh
fresh_sound tasks w =
    record {
      table = subst WellFormed (sym (fresh_tasks tasks)) w;
      time = omega arith;
      idle = omega arith;
      rows = λ i h. subst (SoundRow 0 0) (sym (get_or-map fresh_row tasks i no_task))
          (fresh_row_sound (row tasks i) (w.ranged i (omega (arith, length-map tasks fresh_row))));
    }

zeros_clear : (n : ℕ) → every (λ w. eqb w 0) (replicate n 0) ≡ true
unfolding every
zeros_clear zero = refl
zeros_clear (suc n) = zeros_clear n

past : (s : State) → drop (3 + length s.rows * 20) (laid s) ≡ replicate ((32 - length s.rows) * 20) 0
unfolding laid
past s =
    let e : 3 + length s.rows * 20 ≡ suc (suc (suc (length s.rows * 20))) = omega arith in
    rw e (drop_at (rows_laid s.rows) _ (length s.rows * 20) (rows_length s.rows))

first_word : (s : State) → get_or (laid s) 0 0 ≡ length s.rows
unfolding laid
first_word s = refl

pub laid_saved : (s : State) → SoundState 0 s → saved_well (laid s) ≡ true
unfolding saved_well
laid_saved s f =
    let few : length s.rows ≤ 32 = omega (arith, f.table.rows_high, tasks_length s.rows) in
    both_true _ _ (eq-eqb (length (laid s)) 643 (laid_length s few))
    (both_true _ _ (ap state_well (state_laid s) ∙ state_tests s f)
    (ap (λ (z : ℕ). every (λ w. eqb w 0) (drop (3 + z * 20) (laid s))) (first_word s) ∙ ap (every (λ w. eqb w 0)) (past s)
    ∙ zeros_clear ((32 - length s.rows) * 20)))
