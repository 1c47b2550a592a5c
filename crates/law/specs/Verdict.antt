-- Document 01, "Verdict": the load, the first tick that fits, and what the lent room holds.
use Rattle.std.specs.Prelude.{Bool, not, List, [], ◌∷◌, ◌++◌, ℕ, ◌+◌, ◌*◌, leb, eqb, length, drop}
use Rattle.law.specs.Sums.{ceil, sum, first_from, first, build}
use Rattle.law.specs.Refusal.{Answer, accepted, refused, or_refused, after, lent}
use Rattle.law.specs.Table.{Task, row, count_of, table_of, checked}

-- "C of j times ceil(q x m / k), with q = ceil(t / T) and m, k, T of row j"; document 02, 3/14: "the verdict uses the count of each row's own
-- pattern"
unfoldable pub demand : Task → ℕ → ℕ
demand r t = r.c * count_of r (ceil t r.t)

-- "for every row j above it," that; document 02, 7/14: "the load that rows above bring by t"
abbrev pub above : List Task → ℕ → ℕ → ℕ
above tasks i t = sum (λ j. demand (row tasks j) t) i

-- "For row i and a tick count t of at least 1, the load is C of row i plus" what rows above bring
unfoldable pub load : List Task → ℕ → ℕ → ℕ
load tasks i t = (row tasks i).c + above tasks i t

-- "a load of at most t"
unfoldable pub fits_at : List Task → ℕ → ℕ → Bool
fits_at tasks i t = leb (load tasks i t) t

-- "the search stops at the first tick that fits, and that tick is the row's response time"; D + 1 where no t from 1 to D fits
unfoldable pub response : List Task → ℕ → ℕ
response tasks i = first_from (fits_at tasks i) 1 (row tasks i).d

-- "The row fits when some t from 1 to D has a load of at most t"
unfoldable pub fits : List Task → ℕ → Bool
fits tasks i = leb (response tasks i) (row tasks i).d

-- "Rows are tried from row 0"; "the first row that doesn't fit", the number of rows where every row fits
unfoldable pub misfit : List Task → ℕ
misfit tasks = first (λ i. not (fits tasks i)) (length tasks)

-- "The table is admitted when every row fits"
unfoldable pub admitted : List Task → Bool
admitted tasks = eqb (misfit tasks) (length tasks)

-- "the response times .., one per row"
unfoldable pub responses : List Task → List ℕ
responses tasks = build (response tasks) (length tasks)

-- "for words 1, 2, 3, then row by row 4 to 10 .., then 13, then 11" (16 before 10)
unfoldable pub verdict : List ℕ → ℕ → Answer
verdict words room =
    after (checked words)
    (or_refused (leb (length (table_of words)) room) (refused 13 [])
    (or_refused (admitted (table_of words)) (refused 11 (misfit (table_of words) ∷ [])) (accepted (length (table_of words) ∷ []))))

-- "the response times are then written to a lent run of words, one per row, words after them untouched"
unfoldable pub verdict_room : List ℕ → List ℕ → List ℕ
verdict_room words room =
    lent (verdict words (length room)) (responses (table_of words) ++ drop (length (table_of words)) room) room
