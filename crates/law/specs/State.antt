-- Document 01, "One tick", its last paragraphs: which states are well formed, a run with its refusals, and a saved state as words.
use Rattle.std.specs.Prelude.{Bool, List, [], ◌∷◌, ◌++◌, map, ℕ, suc, ◌+◌, ◌-◌, ◌*◌, ◌^◌, leb, ltb, eqb, length, get_or, set, drop, replicate}
use Rattle.law.specs.Sums.{bit, both, pick, every, build}
use Rattle.law.specs.Refusal.{Answer, accepted, refused, or_refused, after, lent, within}
use Rattle.law.specs.Table.{Task, task_of, table_of, faulty, checked}
use Rattle.law.specs.Tick.{Core, Tally, Row, State, no_row, live, marks, spare, run, fresh, clock_end}

-- "the four settled counts"
abbrev pub settled_counts : Tally → ℕ
settled_counts y = y.mm + y.mx + y.om + y.ox

-- "a live job (work left above 0) has 1 to wait ticks left to its deadline and kind 1 if mandatory, 0 if optional, and a row without one
-- has deadline and kind 0"
unfoldable pub job_well : Core → Bool
job_well c = pick (live c) (both (within 1 c.wait c.left) (leb c.kind 1)) (both (eqb c.left 0) (eqb c.kind 0))

-- "wait is 0..T-1; the place is below k; the work left is 0..C", and the job
unfoldable pub core_well : Core → Bool
core_well c = both (ltb c.wait c.task.t) (both (ltb c.place c.task.k) (both (leb c.work c.task.c) (job_well c)))

-- "the released count is at most the time and equals the four settled counts plus one if a job is live, and the broken count is at most
-- the sum of those four"; "window bits from k up are clear". Document 02, 2/14: "a caller's state in which it isn't true is not well formed": the
-- number of met marks is that of the window
unfoldable pub tally_well : ℕ → Core → Tally → Bool
tally_well time c y =
    both (leb y.released time)
    (both (eqb y.released (settled_counts y + bit (live c)))
    (both (leb y.broken (settled_counts y))
    (both (ltb y.window (2 ^ c.task.k)) (eqb y.held (marks c.task.k y.window)))))

unfoldable pub row_well : ℕ → Row → Bool
row_well time r = both (tally_well time r.core r.tally) (core_well r.core)

-- the table that a state carries
abbrev pub tasks_of : List Row → List Task
tasks_of rows = map (λ r. r.core.task) rows

-- a table "has 1 to 32 rows" and no row of it has a fault
unfoldable pub table_well : List Task → Bool
table_well tasks = both (within 1 32 (length tasks)) (eqb (faulty tasks) (length tasks))

-- "A state offered by a caller is well formed when its table is; time is at most the clock's end; idle is at most the time; for each row ..".
-- "Nothing else is asked" (but for document 02, 2/14: see `tally_well`)
unfoldable pub state_well : State → Bool
state_well s =
    both (table_well (tasks_of s.rows))
    (both (leb s.time clock_end) (both (leb s.idle s.time) (every (row_well s.time) s.rows)))

-- A saved state is 64-bit words: the number of rows, the time, the idle count, then for each of 32 rows its words in this order
abbrev pub row_words : ℕ
row_words = 20

abbrev pub head_words : ℕ
head_words = 3

abbrev pub state_words : ℕ
state_words = 643

unfoldable pub row_of : (ℕ → ℕ) → Row
row_of word =
    record {
      core =
          record {
            task = task_of word;
            wait = word 7;
            place = word 8;
            work = word 9;
            left = word 10;
            kind = word 11;
          };
      tally =
          record {
            window = word 12;
            released = word 13;
            mm = word 14;
            mx = word 15;
            om = word 16;
            ox = word 17;
            broken = word 18;
            held = word 19;
          };
    }

abbrev pub row_at : List ℕ → ℕ → Row
row_at words i = row_of (λ j. get_or words (i * row_words + (head_words + j)) 0)

-- how many words a row's counts and its spare take
abbrev pub count_words : ℕ
count_words = 7

-- the state that words say
unfoldable pub state_of : List ℕ → State
state_of words =
    record { time = get_or words 1 0; idle = get_or words 2 0; rows = build (row_at words) (get_or words 0 0) }

-- the words of a row, a field each
unfoldable pub words_of : Row → List ℕ
words_of r =
    r.core.task.id
    ∷ r.core.task.c
    ∷ r.core.task.t
    ∷ r.core.task.d
    ∷ r.core.task.m
    ∷ r.core.task.k
    ∷ r.core.task.p
    ∷ r.core.wait
    ∷ r.core.place
    ∷ r.core.work
    ∷ r.core.left
    ∷ r.core.kind
    ∷ r.tally.window
    ∷ r.tally.released
    ∷ r.tally.mm
    ∷ r.tally.mx
    ∷ r.tally.om
    ∷ r.tally.ox
    ∷ r.tally.broken
    ∷ r.tally.held
    ∷ []

unfoldable pub rows_laid : List Row → List ℕ
rows_laid [] = []
rows_laid (r ∷ rows) = words_of r ++ rows_laid rows

-- the words of a state; "rows past the last are all zero"
unfoldable pub laid : State → List ℕ
laid s =
    length s.rows ∷ s.time ∷ s.idle ∷ rows_laid s.rows ++ replicate ((32 - length s.rows) * row_words) 0

-- stores of a run of words, from place b + n on
unfoldable pub sets_from : List ℕ → ℕ → ℕ → List ℕ → List ℕ
sets_from words b n [] = words
sets_from words b n (v ∷ vs) = sets_from (set words (b + n) v) b (suc n) vs

-- a state with another row i
abbrev pub with_row : State → ℕ → Row → State
with_row s i r = record { time = s.time; idle = s.idle; rows = set s.rows i r }

-- words that a caller offers as a state: as many as a saved state has, a well-formed state in them, "rows past the last are all zero"
unfoldable pub saved_well : List ℕ → Bool
saved_well words =
    both (eqb (length words) state_words)
    (both (state_well (state_of words)) (every (λ w. eqb w 0) (drop (head_words + get_or words 0 0 * row_words) words)))

-- whether words are a well-formed state, as an answer: "14: state not well formed"
unfoldable pub saved_answer : List ℕ → Answer
saved_answer words = or_refused (saved_well words) (refused 14 []) (accepted [])

-- "14: state not well formed", "15: time + n past the clock's end". "For a run: 14, 15"
unfoldable pub run_answer : List ℕ → ℕ → Answer
run_answer words n =
    or_refused (saved_well words) (refused 14 [])
    (or_refused (leb (get_or words 1 0 + n) clock_end) (refused 15 []) (accepted []))

-- "a run of 0 changes nothing"; "a refused run hands back the state it got"
unfoldable pub run_words : List ℕ → ℕ → List ℕ
run_words words n = lent (run_answer words n) (laid (run n (state_of words))) words

-- a row's counts and its spare, in the order in which they are printed
unfoldable pub counts_of : Row → List ℕ
counts_of r =
    r.tally.released
    ∷ r.tally.mm
    ∷ r.tally.mx
    ∷ r.tally.om
    ∷ r.tally.ox
    ∷ r.tally.broken
    ∷ spare r.core.task.m r.core.task.k r.tally.window
    ∷ []

-- the counts of row i of a saved state, laid into a lent room: 14, then 13. Where there is no row i, all are 0
unfoldable pub counts_answer : List ℕ → ℕ → Answer
counts_answer words room =
    or_refused (saved_well words) (refused 14 []) (or_refused (leb count_words room) (refused 13 []) (accepted []))

unfoldable pub counts_room : List ℕ → ℕ → List ℕ → List ℕ
counts_room words i room =
    lent (counts_answer words (length room)) (counts_of (get_or (state_of words).rows i no_row) ++ drop count_words room) room

-- Document 02, 2/14: "The screen asks for it in every frame": the number of met marks of row i as it is stored, 0 where there is no row i.
-- A frame has no time to go through the rows, so 14 covers here only what is seen without: the number of words, the number of rows
unfoldable pub held_answer : List ℕ → ℕ → Answer
held_answer words i =
    or_refused (both (eqb (length words) state_words) (within 1 32 (get_or words 0 0))) (refused 14 [])
    (accepted ((get_or (state_of words).rows i no_row).tally.held ∷ []))

-- the fresh state of a table of words, laid into a lent room: refusals of the table, then 13
unfoldable pub fresh_answer : List ℕ → ℕ → Answer
fresh_answer words room =
    after (checked words) (or_refused (leb state_words room) (refused 13 []) (accepted (length (table_of words) ∷ [])))

unfoldable pub fresh_words : List ℕ → List ℕ → List ℕ
fresh_words words room = lent (fresh_answer words (length room)) (laid (fresh (table_of words)) ++ drop state_words room) room
