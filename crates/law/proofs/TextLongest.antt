-- The longest text: a row's lines have 47 bytes at most and the first line 8, so a well-formed table's text has 1,512 at most; and one has so many.
use mathlib.Core.List.{List, [], ◌∷◌, ◌++◌, map}
use mathlib.Core.Path.{◌≡◌, refl, subst}
use Prim.Native.Nat.{ℕ, zero, suc, ◌+◌, ◌*◌, ◌/◌, ◌≤◌, ◌<◌}
use native.Mathlib.Omega.{arith}
use lib.ListN.{length, length-append}
use Rattle.law.specs.Sums.{first_from, build}
use Rattle.law.specs.Refusal.{accepted, within}
use Rattle.law.specs.Table.{Task, width, task_of, task_at, table_of, Ranged, repeated, fault_of, faulty, rows_checked, checked}
use Rattle.law.specs.Text.{row_keys, old_keys, keys_of, lines}
use Rattle.law.specs.Reading.{decimal_of, decimal, text_of}
use Rattle.law.proofs.Words.{Rows, none, more, task_behind, table_rows}
use Rattle.law.proofs.TextDecimal.{decimal_longest}

-- the first six lines of a row, before those behind them
pub row_longest : (r : Task) (rest : List ℕ) (keys : List (List ℕ)) → Ranged r
    → length (lines (old_keys ++ keys) (map decimal (r.id ∷ r.c ∷ r.t ∷ r.d ∷ r.m ∷ r.k ∷ rest))) ≤ 43 + length (lines keys (map decimal rest))
unfolding lines
row_longest r rest keys g =
    let small : (v : ℕ) → v ≤ 65535 → length (decimal v) ≤ 5 = λ v h. decimal_longest 4 v (omega arith) in
    let few : (v : ℕ) → v ≤ 64 → length (decimal v) ≤ 2 = λ v h. decimal_longest 1 v (omega arith) in
    let one = small r.id g.id_high in
    let two = small r.c g.c_high in
    let three = small r.t g.t_high in
    let four = small r.d (omega (arith, g.d_high, g.t_high)) in
    let five = few r.m (omega (arith, g.pair.m_high, g.pair.k_high)) in
    simp length-append (omega (arith, one, two, three, four, five, few r.k g.pair.k_high))

-- all seven: p has one digit
rows_longest : (n : ℕ) (words : List ℕ) → Rows n words → ((i : ℕ) → i < n → Ranged (task_at words i))
    → length (lines (keys_of row_keys n) (map decimal words)) ≤ n * 47
unfolding keys_of lines task_of
rows_longest n words none ranged = omega arith
rows_longest n words (more id c t d m k p {n = less} {rest = rest} rows) ranged =
    let r = ranged 0 (omega arith) in
    let six = row_longest (task_at words 0) (p ∷ rest) ((112 ∷ 61 ∷ []) ∷ keys_of row_keys less) r in
    let behind = rows_longest less rest rows (λ i h. subst Ranged (task_behind id c t d m k p rest i) (ranged (suc i) (omega arith))) in
    omega (arith, six, length-append (decimal p) (10 ∷ lines (keys_of row_keys less) (map decimal rest)), decimal_longest 0 p (omega (arith, r.p_high)), behind)

-- "The longest accepted text is 1,512 bytes."
pub text_longest : (words vs : List ℕ) → checked words ≡ accepted vs → length (text_of row_keys words) ≤ 1512
unfolding text_of lines
text_longest words vs e =
    let a = table_rows words vs e in
    let n = length words / width in
    simp length-append (omega (arith, decimal_longest 1 n (omega (arith, a.high)), rows_longest n words a.rows a.ranged))

-- 32 rows of the longest values
unfoldable pub longest : ℕ → List ℕ
longest zero = []
longest (suc n) = (10000 + n) ∷ 65535 ∷ 65535 ∷ 65535 ∷ 64 ∷ 64 ∷ 0 ∷ longest n

pub longest_accepted : checked (longest 32) ≡ accepted (32 ∷ [])
unfolding longest checked rows_checked table_of task_of build faulty fault_of repeated first_from within
longest_accepted = refl

pub longest_words : length (longest 32) ≡ 224
unfolding longest
longest_words = refl

pub longest_reached : length (text_of row_keys (longest 32)) ≡ 1512
unfolding longest text_of decimal decimal_of lines keys_of
longest_reached = refl
