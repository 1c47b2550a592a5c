-- Document 01, "Examples on each side of a limit": P1 to P12, and cases of document 02, 3/14, as one table, each case with what the definitions must
-- give.
use Rattle.std.specs.Prelude.{Bool, List, [], ◌∷◌, ◌++◌, map, ◌≡◌, ℕ, zero, suc, ◌-◌, length, take, replicate}
use Rattle.law.specs.Sums.{pick}
use Rattle.law.specs.Refusal.{Answer, accepted, refused}
use Rattle.law.specs.Pattern.{mandatory, deeply_red}
use Rattle.law.specs.Table.{table_of}
use Rattle.law.specs.Verdict.{load, verdict, verdict_room}
use Rattle.law.specs.Tick.{Outcome, nothing, met, missed}
use Rattle.law.specs.Promise.{state_after, settling}

-- What an example asks: which of the first n jobs of (m,k) are mandatory, by the even pattern or the deeply-red one; the verdict on words, with a
-- room of 32 words; the load of row i at t; what becomes of row i at time u.
pub data Example : Type 0 where
  jobs : ℕ → ℕ → ℕ → Example
  reds : ℕ → ℕ → ℕ → Example
  judged : List ℕ → Example
  loaded : List ℕ → ℕ → ℕ → Example
  settled : List ℕ → ℕ → ℕ → Example

-- the numbers below n that pass the test p
unfoldable pub pass_below : (ℕ → Bool) → ℕ → List ℕ
pass_below p zero = []
pass_below p (suc n) = pass_below p n ++ pick (p n) (n ∷ []) []

-- a refusal's number and what is also returned; or 0 and the response times
unfoldable pub verdict_shown : Answer → List ℕ → List ℕ
verdict_shown (accepted vs) times = 0 ∷ times
verdict_shown (refused n also) times = n ∷ also

unfoldable pub outcome_shown : Outcome → ℕ
outcome_shown nothing = 0
outcome_shown met = 1
outcome_shown missed = 2

unfoldable pub shown : Example → List ℕ
shown (jobs m k n) = pass_below (mandatory m k) n
shown (reds m k n) = pass_below (deeply_red m k) n
shown (judged words) = verdict_shown (verdict words 32) (take (length (table_of words)) (verdict_room words (replicate 32 0)))
shown (loaded words i t) = load (table_of words) i t ∷ []
shown (settled words i u) = outcome_shown (settling (state_after (table_of words) (u - 1)) i) ∷ []

-- a row of words, the id first; with p 0 where it is not said
abbrev pub row_of : ℕ → ℕ → ℕ → ℕ → ℕ → ℕ → ℕ → List ℕ
row_of id c t d m k p = id ∷ c ∷ t ∷ d ∷ m ∷ k ∷ p ∷ []

abbrev pub row_with : ℕ → ℕ → ℕ → ℕ → ℕ → ℕ → List ℕ
row_with id c t d m k = row_of id c t d m k 0

-- n rows of six words, as they were before request 3, with the ids n to 1
unfoldable pub six_words : ℕ → List ℕ
six_words zero = []
six_words (suc n) = suc n ∷ 1 ∷ 9 ∷ 9 ∷ 1 ∷ 1 ∷ six_words n

-- 0, .., n - 1
unfoldable pub up_to : ℕ → List ℕ
up_to zero = []
up_to (suc n) = up_to n ++ (n ∷ [])

pub record Case : Type 0 where
  pub example : Example
  pub expected : List ℕ

abbrev pub gives : Example → List ℕ → Case
gives e l = record { example = e; expected = l }

unfoldable pub cases : List Case
cases =
    -- P1 (2,3): of jobs 0..5, jobs 0, 1, 3, 4. P2 (3,5): of 0..9, jobs 0, 1, 3, 5, 6, 8
    gives (jobs 2 3 6) (0 ∷ 1 ∷ 3 ∷ 4 ∷ [])
    ∷ gives (jobs 3 5 10) (0 ∷ 1 ∷ 3 ∷ 5 ∷ 6 ∷ 8 ∷ [])
    -- P3 (1,64): of 0..64, jobs 0 and 64. P4 (63,64): of 0..63, all but 63
    ∷ gives (jobs 1 64 65) (0 ∷ 64 ∷ [])
    ∷ gives (jobs 63 64 64) (up_to 63)
    -- P5 the table above: responses 2 and 6. P6 the same with C 5 in row 1: refusal 11, row 1
    ∷ gives (judged (row_with 11 2 4 4 1 2 ++ row_with 12 4 6 6 2 3)) (0 ∷ 2 ∷ 6 ∷ [])
    ∷ gives (judged (row_with 11 2 4 4 1 2 ++ row_with 12 5 6 6 2 3)) (11 ∷ 1 ∷ [])
    -- P7: responses 2 and 4, although the load at 5 is 6. P8 the same with C 3 in row 1: 11, row 1
    ∷ gives (judged (row_with 1 2 4 4 1 1 ++ row_with 2 2 5 5 1 1)) (0 ∷ 2 ∷ 4 ∷ [])
    ∷ gives (loaded (row_with 1 2 4 4 1 1 ++ row_with 2 2 5 5 1 1) 1 5) (6 ∷ [])
    ∷ gives (judged (row_with 1 2 4 4 1 1 ++ row_with 2 3 5 5 1 1)) (11 ∷ 1 ∷ [])
    -- P9 one row 1,1,1,1,1: response 1
    ∷ gives (judged (row_with 1 1 1 1 1 1)) (0 ∷ 1 ∷ [])
    -- P10 one row 2,4,1,1,1: 11, row 0; in a run job 0 is missed at time 1
    ∷ gives (judged (row_with 1 2 4 1 1 1)) (11 ∷ 0 ∷ [])
    ∷ gives (settled (row_with 1 2 4 1 1 1) 0 1) (2 ∷ [])
    -- P11 no words: 2; eight words (document 02, 3/14): 1
    ∷ gives (judged []) (2 ∷ [])
    ∷ gives (judged (row_with 1 1 1 1 1 1 ++ (1 ∷ []))) (1 ∷ [])
    -- P12 row 0 with k 65, row 1 with id 0: 8, row 0
    ∷ gives (judged (row_with 1 1 1 1 1 65 ++ row_with 0 1 1 1 1 1)) (8 ∷ 0 ∷ [])
    -- Document 02, 3/14: "the first m of every k jobs are mandatory": (2,4), of jobs 0..9, jobs 0, 1, 4, 5, 8, 9. Against an even row 0 of (2,4)
    -- row 1 fits at 6; against a deeply-red one, which brings two jobs by then, it does not; and in a run its first job is met at 6, or missed
    ∷ gives (reds 2 4 10) (0 ∷ 1 ∷ 4 ∷ 5 ∷ 8 ∷ 9 ∷ [])
    ∷ gives (judged (row_of 11 2 4 4 2 4 0 ++ row_with 12 4 6 6 2 3)) (0 ∷ 2 ∷ 6 ∷ [])
    ∷ gives (judged (row_of 11 2 4 4 2 4 1 ++ row_with 12 4 6 6 2 3)) (11 ∷ 1 ∷ [])
    ∷ gives (judged (row_of 11 2 4 4 2 4 1 ++ row_with 12 2 6 6 2 3)) (0 ∷ 2 ∷ 4 ∷ [])
    ∷ gives (settled (row_of 11 2 4 4 2 4 0 ++ row_with 12 4 6 6 2 3) 1 6) (1 ∷ [])
    ∷ gives (settled (row_of 11 2 4 4 2 4 1 ++ row_with 12 4 6 6 2 3) 1 6) (2 ∷ [])
    -- "16, p above 1, with its row, comes after 9 and before 10": m 0 and p 2; p 2 and an id that stands in row 0. These seven rows of six words are
    -- judged as six rows of seven: the id of the second row is taken for p
    ∷ gives (judged (row_of 1 1 1 1 0 1 2)) (9 ∷ 0 ∷ [])
    ∷ gives (judged (row_with 1 1 1 1 1 1 ++ row_of 1 1 1 1 1 1 2)) (16 ∷ 1 ∷ [])
    ∷ gives (judged (row_with 1 1 1 1 1 1 ++ row_of 1 1 1 1 1 1 1)) (10 ∷ 1 ∷ [])
    ∷ gives (judged (six_words 7)) (16 ∷ 0 ∷ [])
    ∷ gives (judged (six_words 6)) (1 ∷ [])
    ∷ []

-- The one statement: every case of the table gives what the documents say, and P9 is "never idle", however long it runs.
pub record ExamplesHold : Type 0 where
  pub table : map (λ (c : Case). shown c.example) cases ≡ map (λ (c : Case). c.expected) cases
  pub never_idle : (n : ℕ) → (state_after (table_of (row_with 1 1 1 1 1 1)) n).idle ≡ 0
