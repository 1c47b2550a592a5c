-- Document 01, "Task text": the form of a text, as a set of byte strings, and the place of a fault by its rule. No reader is spoken of here.
use Rattle.std.specs.Prelude.{Bool, true, false, List, [], ◌∷◌, ◌++◌, ◌⊎◌, ◌≡◌, ℕ, zero, suc, ◌+◌, ◌-◌, ◌*◌, ◌<◌, leb, eqb, length, take}
use Rattle.law.specs.Sums.{both, pick, every}
use Rattle.law.specs.Refusal.{within}

-- "First `rows=N`": rows=
abbrev pub rows_key : List ℕ
rows_key = 114 ∷ 111 ∷ 119 ∷ 115 ∷ 61 ∷ []

-- "then for each row the lines id, c, t, d, m, k in that order", "and a seventh text line `p=`": id= c= t= d= m= k= p=. The list stands only here
abbrev pub row_keys : List (List ℕ)
row_keys =
    (105 ∷ 100 ∷ 61 ∷ [])
    ∷ (99 ∷ 61 ∷ [])
    ∷ (116 ∷ 61 ∷ [])
    ∷ (100 ∷ 61 ∷ [])
    ∷ (109 ∷ 61 ∷ [])
    ∷ (107 ∷ 61 ∷ [])
    ∷ (112 ∷ 61 ∷ [])
    ∷ []

-- document 02, 4/14: "six-line files": the old form, a row's first six lines
abbrev pub old_width : ℕ
old_width = 6

abbrev pub old_keys : List (List ℕ)
old_keys = take old_width row_keys

-- the keys of n rows, one row after the other
unfoldable pub keys_of : List (List ℕ) → ℕ → List (List ℕ)
keys_of keys zero = []
keys_of keys (suc n) = keys ++ keys_of keys n

-- 0 to 9
unfoldable pub is_digit : ℕ → Bool
is_digit b = within 48 57 b

-- "A value is 0, or a non-zero digit followed by at most four digits."
unfoldable pub is_value : List ℕ → Bool
is_value [] = false
is_value (b ∷ more) = pick (eqb b 48) (eqb (length more) 0) (both (is_digit b) (both (every is_digit more) (leb (length more) 4)))

-- the number that digits say, n standing before them
unfoldable pub number_from : ℕ → List ℕ → ℕ
number_from n [] = n
number_from n (b ∷ more) = number_from (n * 10 + (b - 48)) more

abbrev pub number_of : List ℕ → ℕ
number_of digits = number_from 0 digits

-- "key=value lines, each ended by LF": a line for each key, with its value
unfoldable pub lines : List (List ℕ) → List (List ℕ) → List ℕ
lines [] values = []
lines (key ∷ keys) [] = []
lines (key ∷ keys) (value ∷ values) = key ++ (value ++ (10 ∷ lines keys values))

-- A text of the form, for rows of these keys: "First `rows=N`, then for each row the lines .., nothing after." "ranges and repeated ids play
-- no part in this, and any value may stand after `rows=` on the first line"
pub record IsText (keys : List (List ℕ)) (text : List ℕ) : Type 0 where
  pub rows : List ℕ
  pub values : List (List ℕ)
  pub each : every is_value (rows ∷ values) ≡ true
  pub many : length values ≡ length (keys_of keys (number_of rows))
  pub same : text ≡ lines (rows_key ∷ keys_of keys (number_of rows)) (rows ∷ values)

-- "the beginning of" a "text of this form"
pub record Begins (keys : List (List ℕ)) (part : List ℕ) : Type 0 where
  pub rest : List ℕ
  pub text : IsText keys (part ++ rest)

-- "The place of a text fault is the index of the first byte that makes the text so far the beginning of no text of this form, or the length
-- if it ended early": the bytes before place j make it so nowhere; byte j does, or there is no byte j and the text is not whole
pub record FaultAt (keys : List (List ℕ)) (text : List ℕ) (j : ℕ) : Type 0 where
  pub before : (i : ℕ) → i < j → Begins keys (take (suc i) text)
  pub here : ((j < length text) × (Begins keys (take (suc j) text) → ⊥)) ⊎ ((j ≡ length text) × (IsText keys text → ⊥))
