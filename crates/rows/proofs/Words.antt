-- The words of a state in the code's hands: their number, a row read, a row put, and the same words again after each.
use mathlib.Core.List.{List}
use mathlib.Core.Path.{◌≡◌, sym, ap, ◌∙◌, subst}
use Prim.Native.Nat.{ℕ, ◌+◌, ◌*◌, ◌≤◌, ◌<◌}
use native.Mathlib.Omega.{arith}
use lib.ListN.{length, get_or, set}
use lib.Seq.{set-get_or}
use Rattle.law.specs.Table.{row}
use Rattle.law.specs.Tick.{Row, State, no_row}
use Rattle.law.specs.State.{row_at, state_of, words_of, laid, sets_from, with_row, tasks_of}
use Rattle.law.proofs.Ticks.{task_at_lem}
use Rattle.law.proofs.First.{build_length, build_at}
use Rattle.law.proofs.Laid.{laid_length, laid_put, laid_put_word, laid_going, state_laid, going}
use Rattle.rows.specs.Said.{Sized, Laid}

pub words_long : {words : List ℕ} → Laid words → length words ≡ 643
words_long {words} l = ap length l.is ∙ laid_length (state_of words) l.few

pub rows_are : (words : List ℕ) → length (state_of words).rows ≡ get_or words 0 0
unfolding state_of
rows_are words = build_length (row_at words) (get_or words 0 0)

pub row_read : (words : List ℕ) (i : ℕ) → i < length (state_of words).rows → row_at words i ≡ get_or (state_of words).rows i no_row
unfolding state_of
row_read words i h =
    let q : i < get_or words 0 0 = omega (arith, build_length (row_at words) (get_or words 0 0)) in
    sym (build_at (row_at words) (get_or words 0 0) i no_row q)

-- the task of a row, in the table that the words carry
pub task_read : {words : List ℕ} {rows : ℕ} → Sized words rows → (i : ℕ) → i < rows → (row_at words i).core.task ≡ row (tasks_of (state_of words).rows) i
task_read {words} {rows} s i h =
    ap (λ (z : Row). z.core.task) (row_read words i (omega (arith, s.total))) ∙ sym (task_at_lem (state_of words).rows i)

pub row_put : {words : List ℕ} (l : Laid words) (i : ℕ) (r : Row) → i < length (state_of words).rows
    → sets_from words (i * 20) 3 (words_of r) ≡ laid (with_row (state_of words) i r)
row_put {words} l i r h =
    ap (λ (z : List ℕ). sets_from z (i * 20) 3 (words_of r)) l.is ∙ laid_put (state_of words) i r l.few h

-- its wait alone, and its wait, work and time left
pub wait_put : {words : List ℕ} (l : Laid words) (i wait : ℕ) (r : Row) → i < length (state_of words).rows
    → words_of r ≡ set (words_of (get_or (state_of words).rows i no_row)) 7 wait → set words (i * 20 + 10) wait ≡ laid (with_row (state_of words) i r)
wait_put {words} l i wait r h e =
    ap (λ (z : List ℕ). set z (i * 20 + 10) wait) l.is ∙ laid_put_word (state_of words) i 7 wait r l.few h (omega arith) e

pub going_put : {words : List ℕ} (l : Laid words) (i wait work left : ℕ) → i < length (state_of words).rows
    → set (set (set words (i * 20 + 10) wait) (i * 20 + 12) work) (i * 20 + 13) left ≡ laid (with_row (state_of words) i (going (get_or (state_of words).rows i no_row) wait work left))
going_put {words} l i wait work left h =
    ap (λ (z : List ℕ). set (set (set z (i * 20 + 10) wait) (i * 20 + 12) work) (i * 20 + 13) left) l.is
    ∙ laid_going (state_of words) i wait work left l.few h

-- a row put back as it was changes nothing
pub row_kept : {words : List ℕ} (l : Laid words) (i : ℕ) (r : Row) → r ≡ get_or (state_of words).rows i no_row
    → words ≡ laid (with_row (state_of words) i r)
row_kept {words} l i r e =
    l.is
    ∙ ap (λ (z : List Row). laid (record { time = (state_of words).time; idle = (state_of words).idle; rows = z }))
    (sym (ap (set (state_of words).rows i) e ∙ set-get_or (state_of words).rows i no_row))

-- words that are the words of a state say that state
pub says : {words : List ℕ} (s : State) → words ≡ laid s → state_of words ≡ s
says {words} s e = ap state_of e ∙ state_laid s

pub laid_as : {words : List ℕ} (s : State) → words ≡ laid s → length s.rows ≤ 32 → Laid words
laid_as {words} s e few =
    record { is = e ∙ ap laid (sym (says s e)); few = subst (λ (z : State). length z.rows ≤ 32) (sym (says s e)) few }

-- what a row that is read, changed and put back rests on
pub ruleset in_place = (words_long, row_read, row_put)
