-- Document 01, "Patterns": which jobs of a task are mandatory, and the pattern book.
use Rattle.std.specs.Prelude.{Bool, true, List, [], ◌∷◌, ◌++◌, ◌≡◌, ℕ, zero, suc, ◌+◌, ◌-◌, ◌*◌, ◌/◌, ◌%◌, ◌≤◌, eqb, ltb}
use Rattle.law.specs.Sums.{bit, smaller, ceil, bits_to}
use Rattle.law.specs.Refusal.{Answer, accepted, refused, or_refused, within}

-- "k 1..64; m 1..k"
pub record InRange (m k : ℕ) : Type 0 where
  pub m_low : 1 ≤ m
  pub m_high : m ≤ k
  pub k_high : k ≤ 64

-- "Job a is mandatory when a = floor(ceil(a x m / k) x k / m), otherwise optional"
unfoldable pub mandatory : ℕ → ℕ → ℕ → Bool
mandatory m k a = eqb a (ceil (a * m) k * k / m)

-- how many of the first q jobs are mandatory, by the formula: "the first q jobs hold exactly ceil(q x m / k) mandatory ones". That they do is proved
-- (`among_first`, proofs/Pattern)
unfoldable pub count : ℕ → ℕ → ℕ → ℕ
count m k q = ceil (q * m) k

-- Document 02, 3/14, the deeply-red pattern: "the first m of every k jobs are mandatory"
unfoldable pub deeply_red : ℕ → ℕ → ℕ → Bool
deeply_red m k a = ltb (a % k) m

-- "The mandatory count of the first q jobs is then floor(q / k) x m plus the smaller of q mod k and m". That it is, is proved
-- (`red`, proofs/Red)
unfoldable pub red_count : ℕ → ℕ → ℕ → ℕ
red_count m k q = q / k * m + smaller (q % k) m

-- "one 64-bit word for each pair (m,k)": "Bit a, for a below k, is set exactly when job a is mandatory; higher bits are clear"
unfoldable pub word : ℕ → ℕ → ℕ
word m k = bits_to (mandatory m k) k

-- "the pair's word at place k(k-1)/2 + m - 1"
unfoldable pub place_of : ℕ → ℕ → ℕ
place_of m k = k * (k - 1) / 2 + m - 1

-- the words of the pairs (1,k) to (m,k)
unfoldable pub shelf : ℕ → ℕ → List ℕ
shelf k zero = []
shelf k (suc m) = shelf k m ++ (word (suc m) k ∷ [])

-- the words of all pairs up to k, in the order of their places
unfoldable pub book_to : ℕ → List ℕ
book_to zero = []
book_to (suc k) = book_to k ++ shelf (suc k) (suc k)

-- "The pattern book holds one 64-bit word for each pair (m,k), 2,080 words in all"
unfoldable pub the_book : List ℕ
the_book = book_to 64

-- "For a question about one job: 8, 9, each with row 0": k outside its range, then m outside its range
unfoldable pub pair_checked : ℕ → ℕ → Answer → Answer
pair_checked m k next = or_refused (within 1 64 k) (refused 8 (0 ∷ [])) (or_refused (within 1 k m) (refused 9 (0 ∷ [])) next)

-- "A question about one job takes m, k and any 32-bit job number": 1 for mandatory, 0 for optional
unfoldable pub question : ℕ → ℕ → ℕ → Answer
question m k a = pair_checked m k (accepted (bit (mandatory m k a) ∷ []))

-- the word of a pair, refused as the question is
unfoldable pub pair_word : ℕ → ℕ → Answer
pair_word m k = pair_checked m k (accepted (word m k ∷ []))

-- What everything above a pattern may use of it: `kind` tells which jobs are mandatory, `counted q` how many of the first q are.
-- "the first q jobs hold exactly .. mandatory ones; q jobs in a row anywhere hold no more than that ..; k in a row hold exactly m".
-- Document 02, 3/14: "What demand 3 needs of a pattern is proved once over both" kinds
pub record IsPattern (m k : ℕ) (kind : ℕ → Bool) (counted : ℕ → ℕ) : Type 0 where
  pub none : counted 0 ≡ 0
  pub step : (a : ℕ) → counted (suc a) ≡ counted a + bit (kind a)
  pub first : kind 0 ≡ true
  pub most : (a q : ℕ) → counted (a + q) ≤ counted a + counted q
  pub turn : (a : ℕ) → counted (a + k) ≡ counted a + m
