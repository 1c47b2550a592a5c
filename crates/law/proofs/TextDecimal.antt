-- Decimals: the digits of a number say that number, a value's number has that value for its digits, and how many digits there are.
use mathlib.Core.Bool.{true}
use mathlib.Core.List.{List, [], ◌∷◌, ◌++◌, append_assoc, append-nil}
use mathlib.Core.Path.{◌≡◌, refl, sym, ap, subst, ◌∙◌}
use Prim.Native.Nat.{ℕ, zero, suc, ◌+◌, ◌-◌, ◌*◌, ◌/◌, ◌%◌, ◌^◌, ◌≤◌, ◌<◌}
use native.Mathlib.Decide.{dec_lt}
use native.Mathlib.Nat.{zero-add, pow-succ', pow-le-pow_right, mul_assoc}
use native.Mathlib.Omega.{arith}
use lib.Dec.{eqb}
use lib.ListN.{length, length-append}
use borrow.Author.Tests.{leb-true, eqb-true, eqb-false, lt-ltb, le-ltb, le-leb, ne_eqb}
use Rattle.law.specs.Sums.{every}
use Rattle.law.specs.Refusal.{head}
use Rattle.law.specs.Text.{is_digit, is_value, number_from, number_of}
use Rattle.law.specs.Reading.{decimal_of, decimal}
use Rattle.law.proofs.TextLine.{zero_good}
use Rattle.law.proofs.Tests.{passes, fails, known, never_both, both_left, both_right, both_true}
use Rattle.law.proofs.Lists.{every_append}
use Rattle.law.proofs.Question.{within_low, within_high, within_is}

-- the digits of a number, by its last one
pub decimal_one : (n v : ℕ) → v < 10 → decimal_of (suc n) v ≡ (48 + v) ∷ []
unfolding decimal_of
decimal_one n v h = rw (lt-ltb v 10 h)

pub decimal_more : (n v : ℕ) → 10 ≤ v → decimal_of (suc n) v ≡ decimal_of n (v / 10) ++ ((48 + v % 10) ∷ [])
unfolding decimal_of
decimal_more n v h = rw (le-ltb v 10 h)

decimal_none : (v : ℕ) → decimal_of 0 v ≡ []
unfolding decimal_of
decimal_none v = refl

-- digits after digits
pub number_append : (n : ℕ) (xs ys : List ℕ) → number_from n (xs ++ ys) ≡ number_from (number_from n xs) ys
unfolding number_from
number_append n [] ys = refl
number_append n (b ∷ xs) ys = number_append (n * 10 + (b - 48)) xs ys

pub number_last : (n : ℕ) (xs : List ℕ) (b : ℕ) → number_from n (xs ++ (b ∷ [])) ≡ number_from n xs * 10 + (b - 48)
unfolding number_from
number_last n xs b = number_append n xs (b ∷ [])

number_none : number_of [] ≡ 0
unfolding number_from
number_none = refl

number_one : (b : ℕ) → number_of (b ∷ []) ≡ b - 48
unfolding number_from
number_one b = omega arith

number_first : (b : ℕ) (more : List ℕ) → number_of (b ∷ more) ≡ number_from (b - 48) more
unfolding number_from
number_first b more = ap (λ (n : ℕ). number_from n more) (omega arith)

digits_number : (n v : ℕ) → v < 10 ^ n → number_of (decimal_of n v) ≡ v
digits_number zero v h = ap number_of (decimal_none v) ∙ number_none ∙ omega arith
digits_number (suc n) v h =
    elim (dec_lt v 10) [
      | yes l ↦ ap number_of (decimal_one n v l) ∙ number_one (48 + v) ∙ omega arith
      | no l ↦ ap number_of (decimal_more n v (omega arith)) ∙ number_last 0 (decimal_of n (v / 10)) (48 + v % 10)
          ∙ omega (arith, digits_number n (v / 10) (omega arith))
    ]

pub decimal_number : (v : ℕ) → v < 10000000000 → number_of (decimal v) ≡ v
unfolding decimal
decimal_number v h = digits_number 10 v h

-- as many digits as the number has, whatever more may be asked for
pub digits_enough : (n m v : ℕ) → v < 10 ^ suc n → v < 10 ^ suc m → decimal_of (suc n) v ≡ decimal_of (suc m) v
digits_enough zero m v h k = decimal_one zero v (omega arith) ∙ sym (decimal_one m v (omega arith))
digits_enough (suc n) zero v h k = decimal_one (suc n) v (omega arith) ∙ sym (decimal_one zero v (omega arith))
digits_enough (suc n) (suc m) v h k =
    elim (dec_lt v 10) [
      | yes l ↦ decimal_one (suc n) v l ∙ sym (decimal_one (suc m) v l)
      | no l ↦ decimal_more (suc n) v (omega arith)
          ∙ ap (λ (ds : List ℕ). ds ++ ((48 + v % 10) ∷ [])) (digits_enough n m (v / 10) (omega arith) (omega arith))
          ∙ sym (decimal_more (suc m) v (omega arith))
    ]

-- how many
length_one : (n v : ℕ) → v < 10 → length (decimal_of (suc n) v) ≡ 1
length_one n v h = ap length (decimal_one n v h)

length_more : (n v : ℕ) → 10 ≤ v → length (decimal_of (suc n) v) ≡ suc (length (decimal_of n (v / 10)))
length_more n v h = ap length (decimal_more n v h) ∙ length-append (decimal_of n (v / 10)) ((48 + v % 10) ∷ []) ∙ omega arith

digits_most : (n m v : ℕ) → v < 10 ^ suc m → length (decimal_of n v) ≤ suc m
digits_most zero m v h = omega (arith, ap length (decimal_none v))
digits_most (suc n) zero v h = omega (arith, length_one n v (omega arith))
digits_most (suc n) (suc m) v h =
    elim (dec_lt v 10) [
      | yes l ↦ omega (arith, length_one n v l)
      | no l ↦ omega (arith, digits_most n m (v / 10) (omega arith), length_more n v (omega arith))
    ]

digits_few : (n v : ℕ) → length (decimal_of n v) ≤ n
digits_few zero v = omega (arith, ap length (decimal_none v))
digits_few (suc n) v =
    elim (dec_lt v 10) [
      | yes l ↦ omega (arith, length_one n v l)
      | no l ↦ omega (arith, digits_few n (v / 10), length_more n v (omega arith))
    ]

pub decimal_ten : (v : ℕ) → length (decimal v) ≤ 10
unfolding decimal
decimal_ten v = digits_few 10 v

pub decimal_longest : (m v : ℕ) → v < 10 ^ suc m → length (decimal v) ≤ suc m
unfolding decimal
decimal_longest m v h = digits_most 10 m v h

pub digits_shortest : (n v : ℕ) → 1 ≤ length (decimal_of (suc n) v)
digits_shortest n v =
    elim (dec_lt v 10) [
      | yes l ↦ omega (arith, length_one n v l)
      | no l ↦ omega (arith, length_more n v (omega arith))
    ]

pub decimal_shortest : (v : ℕ) → 1 ≤ length (decimal v)
unfolding decimal
decimal_shortest v = digits_shortest 9 v

-- all of them digits
pub digit_low : (b : ℕ) → is_digit b ≡ true → 48 ≤ b
unfolding is_digit
digit_low b e = within_low 48 57 b e

pub digit_high : (b : ℕ) → is_digit b ≡ true → b ≤ 57
unfolding is_digit
digit_high b e = within_high 48 57 b e

digit_is : (v : ℕ) → v < 10 → is_digit (48 + v) ≡ true
unfolding is_digit
digit_is v h = within_is 48 57 (48 + v) (omega arith) (omega arith)

every_none : every is_digit [] ≡ true
unfolding every
every_none = refl

every_one : (b : ℕ) → is_digit b ≡ true → every is_digit (b ∷ []) ≡ true
unfolding every
every_one b e = both_true (is_digit b) true e refl

digits_digits : (n v : ℕ) → every is_digit (decimal_of n v) ≡ true
digits_digits zero v = ap (every is_digit) (decimal_none v) ∙ every_none
digits_digits (suc n) v =
    elim (dec_lt v 10) [
      | yes l ↦ ap (every is_digit) (decimal_one n v l) ∙ every_one (48 + v) (digit_is v l)
      | no l ↦ ap (every is_digit) (decimal_more n v (omega arith))
          ∙ every_append is_digit (decimal_of n (v / 10)) _ (digits_digits n (v / 10)) (every_one (48 + v % 10) (digit_is (v % 10) (omega arith)))
    ]

-- the first of them not 0, but for the number 0
head_append : (xs ys : List ℕ) → 1 ≤ head xs → head (xs ++ ys) ≡ head xs
head_append [] ys h = absurd (omega arith)
head_append (x ∷ xs) ys h = refl

digits_lead : (n v : ℕ) → 1 ≤ v → v < 10 ^ n → 49 ≤ head (decimal_of n v)
digits_lead zero v h k = absurd (omega arith)
digits_lead (suc n) v h k =
    elim (dec_lt v 10) [
      | yes l ↦ omega (arith, ap head (decimal_one n v l))
      | no l ↦ let first = digits_lead n (v / 10) (omega arith) (omega arith) in
          omega (arith, ap head (decimal_more n v (omega arith)), head_append (decimal_of n (v / 10)) ((48 + v % 10) ∷ []) (omega arith))
    ]

-- so they are a value
value_of_digits : (ds : List ℕ) → every is_digit ds ≡ true → 49 ≤ head ds → length ds ≤ 5 → is_value ds ≡ true
unfolding is_value every
value_of_digits [] e h l = absurd (omega arith)
value_of_digits (b ∷ more) e h l =
    rw (ne_eqb b 48 (λ q. omega arith), both_left (is_digit b) _ e, both_right (is_digit b) _ e, le-leb (length more) 4 (omega arith))

pub decimal_value : (v : ℕ) → v ≤ 99999 → is_value (decimal v) ≡ true
unfolding decimal
decimal_value v h =
    elim (dec_lt 0 v) [
      | yes l ↦ let lead = digits_lead 10 v (omega arith) (omega arith) in
          value_of_digits (decimal_of 10 v) (digits_digits 10 v) lead (digits_most 10 4 v (omega arith))
      | no l ↦ let none : v ≡ 0 = omega arith in
          ap (λ (z : ℕ). is_value (decimal_of 10 z)) none ∙ ap is_value (decimal_one 9 0 (omega arith)) ∙ zero_good
    ]

-- what a value is: 0, or a non-zero digit and at most four digits more
pub data Value : List ℕ → Type 0 where
  nought : Value (48 ∷ [])
  leading : (b : ℕ) (more : List ℕ) → 49 ≤ b → b ≤ 57 → every is_digit more ≡ true → length more ≤ 4 → Value (b ∷ more)

pub value_says : (ds : List ℕ) → is_value ds ≡ true → Value ds
unfolding is_value
value_says [] e = absurd (never_both true refl (sym e))
value_says (b ∷ more) e =
    elim (known (eqb b 48)) [
      | passes z ↦ let first = eqb-true b 48 z in
          let none = alone more (eqb-true (length more) 0 (rw z at e)) in
          let same : 48 ∷ [] ≡ b ∷ more = cc in subst Value same nought
      | fails z ↦ let e = rw z at e in
          let digit = both_left (is_digit b) _ e in
          let rest = both_right (is_digit b) _ e in
          let few = leb-true (length more) 4 (both_right (every is_digit more) _ rest) in
          leading b more (omega (arith, digit_low b digit, eqb-false b 48 z)) (digit_high b digit) (both_left _ _ rest) few
    ]
  where
    alone : (l : List ℕ) → length l ≡ 0 → l ≡ []
    alone [] h = refl
    alone (x ∷ l) h = absurd (omega arith)

-- digits behind a number that is not 0 are its last digits
digits_behind : (n acc : ℕ) (bs : List ℕ) → 1 ≤ acc → every is_digit bs ≡ true
    → decimal_of (length bs + n) (number_from acc bs) ≡ decimal_of n acc ++ bs
unfolding number_from every
digits_behind n acc [] h e = ap (λ (k : ℕ). decimal_of k acc) (zero-add n) ∙ sym (append-nil (decimal_of n acc))
digits_behind n acc (b ∷ bs) h e =
    let digit = both_left (is_digit b) _ e in
    let low = digit_low b digit in
    let high = digit_high b digit in
    let more = acc * 10 + (b - 48) in
    let front : more / 10 ≡ acc = omega arith in
    let last : 48 + more % 10 ≡ b = omega arith in
    ap (λ (k : ℕ). decimal_of k (number_from more bs)) (omega arith)
    ∙ digits_behind (suc n) more bs (omega arith) (both_right (is_digit b) _ e)
    ∙ ap (λ (ds : List ℕ). ds ++ bs) (decimal_more n more (omega arith))
    ∙ append_assoc (decimal_of n (more / 10)) ((48 + more % 10) ∷ []) bs
    ∙ ap (λ (k : ℕ). decimal_of n k ++ ((48 + more % 10) ∷ bs)) front ∙ ap (λ (x : ℕ). decimal_of n acc ++ (x ∷ bs)) last

pub number_decimal : (ds : List ℕ) → is_value ds ≡ true → decimal (number_of ds) ≡ ds
unfolding decimal
number_decimal ds e = by ds (value_says ds e)
  where
    by : (ds : List ℕ) → Value ds → decimal_of 10 (number_of ds) ≡ ds
    by ds nought = ap (decimal_of 10) (number_one 48) ∙ decimal_one 9 0 (omega arith)
    by ds (leading b more low high digits few) =
        let fuel : 10 ≡ length more + suc (9 - length more) = omega arith in
        ap (λ (k : ℕ). decimal_of k (number_of (b ∷ more))) fuel
        ∙ ap (decimal_of (length more + suc (9 - length more))) (number_first b more)
        ∙ digits_behind (suc (9 - length more)) (b - 48) more (omega arith) digits
        ∙ ap (λ (ds : List ℕ). ds ++ more) (decimal_one (9 - length more) (b - 48) (omega arith))
        ∙ ap (λ (x : ℕ). x ∷ more) (omega arith)

number_below : (m acc : ℕ) (bs : List ℕ) → acc < m → every is_digit bs ≡ true → number_from acc bs < m * 10 ^ length bs
unfolding number_from every
number_below m acc [] h e = omega arith
number_below m acc (b ∷ bs) h e =
    let high = digit_high b (both_left (is_digit b) _ e) in
    let more = ap (λ (z : ℕ). m * z) (pow-succ' 10 (length bs)) ∙ sym (mul_assoc m 10 (10 ^ length bs)) in
    rw more (number_below (m * 10) (acc * 10 + (b - 48)) bs (omega arith) (both_right (is_digit b) _ e))

pub number_most : (ds : List ℕ) → is_value ds ≡ true → number_of ds ≤ 99999
number_most ds e = by ds (value_says ds e)
  where
    by : (ds : List ℕ) → Value ds → number_of ds ≤ 99999
    by ds nought = omega (arith, number_one 48)
    by ds (leading b more low high digits few) =
        omega (arith, number_first b more, number_below 10 (b - 48) more (omega arith) digits, pow-le-pow_right {n = 10} (omega arith) few)
