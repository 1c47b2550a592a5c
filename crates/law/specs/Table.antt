-- Document 01, "A task table", and the checks of its words in their order.
use Rattle.std.specs.Prelude.{Bool, not, List, [], ◌∷◌, ◌⊎◌, ◌≡◌, ℕ, ◌+◌, ◌*◌, ◌/◌, ◌%◌, ◌≤◌, ◌<◌, leb, ltb, eqb, length, get_or}
use Rattle.law.specs.Sums.{pick, first, build, bits_to}
use Rattle.law.specs.Refusal.{Answer, accepted, refused, or_refused, within}
use Rattle.law.specs.Pattern.{InRange, mandatory, count, deeply_red, red_count}

-- "six to a row: id, C, T, D, m, k"; document 02, 3/14: "A row gains a seventh word p"
pub record Task : Type 0 where
  pub id : ℕ
  pub c : ℕ
  pub t : ℕ
  pub d : ℕ
  pub m : ℕ
  pub k : ℕ
  pub p : ℕ

-- the words of a row, and their order
abbrev pub width : ℕ
width = 7

unfoldable pub task_of : (ℕ → ℕ) → Task
task_of word = record { id = word 0; c = word 1; t = word 2; d = word 3; m = word 4; k = word 5; p = word 6 }

-- row i of a lent run of words
abbrev pub task_at : List ℕ → ℕ → Task
task_at words i = task_of (λ j. get_or words (i * width + j) 0)

-- the rows of a lent run of words
unfoldable pub table_of : List ℕ → List Task
table_of words = build (task_at words) (length words / width)

-- what stands where there is no row
abbrev pub no_task : Task
no_task = record { id = 0; c = 0; t = 0; d = 0; m = 0; k = 0; p = 0 }

abbrev pub row : List Task → ℕ → Task
row tasks i = get_or tasks i no_task

-- "p, 0 for even, 1 for deeply-red"
abbrev pub is_red : Task → Bool
is_red r = eqb r.p 1

-- which jobs of a task are mandatory, and how many of its first q: by "each row's own pattern"
unfoldable pub kind_of : Task → ℕ → Bool
kind_of r a = pick (is_red r) (deeply_red r.m r.k a) (mandatory r.m r.k a)

unfoldable pub count_of : Task → ℕ → ℕ
count_of r q = pick (is_red r) (red_count r.m r.k q) (count r.m r.k q)

-- the word of a row's pattern: "Bit a, for a below k, is set exactly when job a is mandatory; higher bits are clear"
unfoldable pub word_of : Task → ℕ
word_of r = bits_to (kind_of r) r.k

-- "Ranges: id 1..65535 ..; T 1..65535; D 1..T; C 1..65535; k 1..64; m 1..k"; p "0 for even, 1 for deeply-red"
pub record Ranged (r : Task) : Type 0 where
  pub id_low : 1 ≤ r.id
  pub id_high : r.id ≤ 65535
  pub t_low : 1 ≤ r.t
  pub t_high : r.t ≤ 65535
  pub d_low : 1 ≤ r.d
  pub d_high : r.d ≤ r.t
  pub c_low : 1 ≤ r.c
  pub c_high : r.c ≤ 65535
  pub pair : InRange r.m r.k
  pub p_high : r.p ≤ 1

-- "It has 1 to 32 rows"; "each id once"
pub record WellFormed (tasks : List Task) : Type 0 where
  pub rows_low : 1 ≤ length tasks
  pub rows_high : length tasks ≤ 32
  pub ranged : (i : ℕ) → i < length tasks → Ranged (row tasks i)
  pub once : (i j : ℕ) → i < length tasks → j < length tasks → (row tasks i).id ≡ (row tasks j).id → i ≡ j

-- "id stands in an earlier row"
unfoldable pub repeated : List Task → ℕ → Bool
repeated tasks i = ltb (first (λ j. eqb (row tasks j).id (row tasks i).id) i) i

-- "4, 5, 6, 7, 8, 9: id, T, D, C, k, m outside its range"; "10: id stands in an earlier row"; "16, p above 1, with its row, comes after 9 and
-- before 10": the first that applies to a row, 0 where none does
unfoldable pub fault_of : Task → Bool → ℕ
fault_of r twice =
    pick (not (within 1 65535 r.id)) 4
    (pick (not (within 1 65535 r.t)) 5
    (pick (not (within 1 r.t r.d)) 6
    (pick (not (within 1 65535 r.c)) 7
    (pick (not (within 1 64 r.k)) 8
    (pick (not (within 1 r.k r.m)) 9 (pick (not (leb r.p 1)) 16 (pick twice 10 0)))))))

-- the numbers of a row's faults: 4 to 10, and 16
abbrev pub RowNumber : ℕ → Type 0
RowNumber n = ((4 ≤ n) × (n ≤ 10)) ⊎ (n ≡ 16)

abbrev pub row_fault : List Task → ℕ → ℕ
row_fault tasks i = fault_of (row tasks i) (repeated tasks i)

-- the first row with a fault; the number of rows where there is none
unfoldable pub faulty : List Task → ℕ
faulty tasks = first (λ i. not (eqb (row_fault tasks i) 0)) (length tasks)

-- "row by row 4 to 10 in number order" (16 before 10), with the row; else the number of rows
unfoldable pub rows_checked : List Task → Answer
rows_checked tasks =
    or_refused (eqb (faulty tasks) (length tasks)) (refused (row_fault tasks (faulty tasks)) (faulty tasks ∷ []))
    (accepted (length tasks ∷ []))

-- "for words 1, 2, 3, then row by row 4 to 10" (16 before 10); "1 reads 'of seven'"
unfoldable pub checked : List ℕ → Answer
checked words =
    or_refused (eqb (length words % width) 0) (refused 1 [])
    (or_refused (ltb 0 (length words / width)) (refused 2 [])
    (or_refused (leb (length words / width) 32) (refused 3 []) (rows_checked (table_of words))))
