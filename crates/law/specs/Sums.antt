-- Words of arithmetic that the other chapters use.
use Rattle.std.specs.Prelude.{Bool, true, false, List, [], ◌∷◌, ◌++◌, ℕ, zero, suc, ◌+◌, ◌-◌, ◌*◌, ◌/◌, ◌^◌, leb}

-- 1 for yes, 0 for no
abbrev pub bit : Bool → ℕ
bit true = 1
bit false = 0

-- both tests pass
abbrev pub both : Bool → Bool → Bool
both true b = b
both false b = false

-- the first where the test passes, else the second
abbrev pub pick {ℓ} : {A : Type ℓ} → Bool → A → A → A
pick true a b = a
pick false a b = b

-- the smaller of two numbers
abbrev pub smaller : ℕ → ℕ → ℕ
smaller a b = pick (leb a b) a b

-- the larger of two numbers
abbrev pub larger : ℕ → ℕ → ℕ
larger a b = pick (leb a b) b a

-- the quotient rounded up, for b of at least 1
unfoldable pub ceil : ℕ → ℕ → ℕ
ceil a b = (a + (b - 1)) / b

-- f 0 + .. + f (n - 1)
unfoldable pub sum : (ℕ → ℕ) → ℕ → ℕ
sum f zero = 0
sum f (suc n) = sum f n + f n

-- the largest of f 0, .., f (n - 1); 0 where n is 0
unfoldable pub highest : (ℕ → ℕ) → ℕ → ℕ
highest f zero = 0
highest f (suc n) = larger (highest f n) (f n)

-- the first of the n numbers from i on that passes the test p; i + n where none does
unfoldable pub first_from : (ℕ → Bool) → ℕ → ℕ → ℕ
first_from p i zero = i
first_from p i (suc n) = pick (p i) i (first_from p (suc i) n)

-- the first number below n that passes the test p; n where none does
abbrev pub first : (ℕ → Bool) → ℕ → ℕ
first p n = first_from p 0 n

-- the largest number from 0 to n that passes the test p; 0 where none does
unfoldable pub largest : (ℕ → Bool) → ℕ → ℕ
largest p zero = 0
largest p (suc n) = pick (p (suc n)) (suc n) (largest p n)

-- f 0, .., f (n - 1)
unfoldable pub build : {A : Type 0} → (ℕ → A) → ℕ → List A
build f zero = []
build f (suc n) = build f n ++ (f n ∷ [])

-- every element passes the test p
unfoldable pub every : {A : Type 0} → (A → Bool) → List A → Bool
every p [] = true
every p (x ∷ xs) = both (p x) (every p xs)

-- each element with its index, counted from i
unfoldable pub map_from : {A : Type 0} → (ℕ → A → A) → ℕ → List A → List A
map_from f i [] = []
map_from f i (x ∷ xs) = f i x ∷ map_from f (suc i) xs

-- how many of the q numbers from a on pass the test p
unfoldable pub among : (ℕ → Bool) → ℕ → ℕ → ℕ
among p a zero = 0
among p a (suc q) = among p a q + bit (p (a + q))

-- the number whose bit a, for a below n, is set exactly when a passes the test p
unfoldable pub bits_to : (ℕ → Bool) → ℕ → ℕ
bits_to p zero = 0
bits_to p (suc n) = bits_to p n + bit (p n) * 2 ^ n
