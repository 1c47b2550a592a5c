-- The words of a table, seven to a row: its rows one after the other, and every word of an accepted table is at most 65,535.
use mathlib.Core.Bool.{Bool, true}
use mathlib.Core.List.{List, [], ◌∷◌}
use mathlib.Core.Path.{◌≡◌, refl, ap, ◌∙◌, subst}
use Prim.Native.Nat.{ℕ, zero, suc, ◌+◌, ◌*◌, ◌/◌, ◌≤◌, ◌<◌}
use native.Mathlib.Nat.{suc-mul}
use native.Mathlib.Omega.{arith}
use lib.Dec.{leb}
use lib.ListN.{length, get_or}
use lib.Seq.{get_or-append-add}
use borrow.Author.Tests.{le-leb}
use Rattle.law.specs.Sums.{every}
use Rattle.law.specs.Refusal.{accepted}
use Rattle.law.specs.Table.{width, task_of, task_at, Ranged, checked}
use Rattle.law.proofs.Table.{table_length, table_row, checked_accepted}

-- words, seven to a row
pub data Rows : ℕ → List ℕ → Type 0 where
  none : Rows zero []
  more : (id c t d m k p : ℕ) {n : ℕ} {rest : List ℕ} → Rows n rest → Rows (suc n) (id ∷ c ∷ t ∷ d ∷ m ∷ k ∷ p ∷ rest)

pub rows_of : (n : ℕ) (words : List ℕ) → length words ≡ n * width → Rows n words
rows_of zero [] e = none
rows_of zero (x ∷ words) e = absurd (omega arith)
rows_of (suc n) (id ∷ c ∷ t ∷ d ∷ m ∷ k ∷ p ∷ rest) e = more id c t d m k p (rows_of n rest (omega arith))
rows_of (suc n) [] e = absurd (omega arith)
rows_of (suc n) (a ∷ []) e = absurd (omega arith)
rows_of (suc n) (a ∷ b ∷ []) e = absurd (omega arith)
rows_of (suc n) (a ∷ b ∷ c ∷ []) e = absurd (omega arith)
rows_of (suc n) (a ∷ b ∷ c ∷ d ∷ []) e = absurd (omega arith)
rows_of (suc n) (a ∷ b ∷ c ∷ d ∷ f ∷ []) e = absurd (omega arith)
rows_of (suc n) (a ∷ b ∷ c ∷ d ∷ f ∷ g ∷ []) e = absurd (omega arith)

pub rows_length : {n : ℕ} {words : List ℕ} → Rows n words → length words ≡ n * width
rows_length none = refl
rows_length (more id c t d m k p {n = n} rows) = omega (arith, rows_length rows, suc-mul n width)

-- the rows behind the first
pub task_behind : (a b c d e f g : ℕ) (rest : List ℕ) (i : ℕ) → task_at (a ∷ b ∷ c ∷ d ∷ e ∷ f ∷ g ∷ rest) (suc i) ≡ task_at rest i
task_behind a b c d e f g rest i = simp shift
  where
    shift : (j : ℕ) → get_or (a ∷ b ∷ c ∷ d ∷ e ∷ f ∷ g ∷ rest) (suc i * width + j) 0 ≡ get_or rest (i * width + j) 0
    shift j =
        let place : suc i * width + j ≡ 7 + (i * width + j) = omega arith in
        ap (λ (z : ℕ). get_or (a ∷ b ∷ c ∷ d ∷ e ∷ f ∷ g ∷ rest) z 0) place
        ∙ get_or-append-add (a ∷ b ∷ c ∷ d ∷ e ∷ f ∷ g ∷ []) rest (i * width + j) 0

-- what an accepted run of words says of its rows
pub record TableRows (words : List ℕ) : Type 0 where
  pub whole : length words ≡ length words / width * width
  pub low : 1 ≤ length words / width
  pub high : length words / width ≤ 32
  pub rows : Rows (length words / width) words
  pub ranged : (i : ℕ) → i < length words / width → Ranged (task_at words i)

pub table_rows : (words vs : List ℕ) → checked words ≡ accepted vs → TableRows words
table_rows words vs e =
    let a = checked_accepted words vs e in
    let whole : length words ≡ length words / width * width = omega arith in
    record {
      whole = whole;
      low = omega (arith, table_length words);
      high = omega (arith, table_length words);
      rows = rows_of (length words / width) words whole;
      ranged = λ i h. subst Ranged (table_row words i h) (a.table.ranged i (omega (arith, table_length words)));
    }

-- a word of 16 bits
abbrev pub is_small : ℕ → Bool
is_small w = leb w 65535

rows_small : (n : ℕ) (words : List ℕ) → Rows n words → ((i : ℕ) → i < n → Ranged (task_at words i)) → every is_small words ≡ true
unfolding every task_of
rows_small n words none ranged = refl
rows_small n words (more id c t d m k p {n = less} {rest = rest} rows) ranged =
    let r = ranged 0 (omega arith) in
    let more = rows_small less rest rows (λ i h. subst Ranged (task_behind id c t d m k p rest i) (ranged (suc i) (omega arith))) in
    rw (
      le-leb id 65535 r.id_high,
      le-leb c 65535 r.c_high,
      le-leb t 65535 r.t_high,
      le-leb d 65535 (omega arith),
      le-leb m 65535 (omega arith),
      le-leb k 65535 (omega arith),
      le-leb p 65535 (omega (arith, r.p_high)),
      more,
    )

pub words_small : (words vs : List ℕ) → checked words ≡ accepted vs → every is_small words ≡ true
words_small words vs e = let a = table_rows words vs e in rows_small (length words / width) words a.rows a.ranged
