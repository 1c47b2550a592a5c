-- Rows laid with another number of words each: word by word, there and back.
use mathlib.Core.Bool.{Bool, true, false}
use mathlib.Core.List.{List, ◌++◌}
use mathlib.Core.Path.{◌≡◌, refl, sym, ap, ◌∙◌}
use Prim.Native.Nat.{ℕ, zero, suc, ◌+◌, ◌*◌, ◌/◌, ◌%◌, ◌≤◌, ◌<◌}
use native.Mathlib.Decide.{dec_lt}
use native.Mathlib.Nat.{suc-mul, mul-le-mul_right, mod-lt, div-add-mod', div-eq_of_lt, mod-eq_of_lt, mul-add-div_right, mul-add-mod_self_right, div-eq_of_eq-mul_left}
use native.Mathlib.Omega.{arith}
use lib.Dec.{ltb}
use lib.ListN.{length, get_or, take, length-append, get_or-append, get_or-eq_default}
use lib.Seq.{ext_get_or, get_or-take, get_or-append-add, length-take-le}
use borrow.Author.Tests.{lt-ltb, le-ltb}
use Rattle.law.specs.Sums.{pick, every}
use Rattle.law.specs.Carry.{relaid}
use Rattle.law.proofs.First.{build_length, build_at}
use Rattle.law.proofs.Lists.{every_at, every_all}
use Rattle.law.proofs.Words.{is_small}

-- place r of row q lies within n rows
pub in_rows : (to n q r : ℕ) → q < n → r < to → q * to + r < n * to
in_rows to n q r h l = omega (arith, mul-le-mul_right {m = suc q} {n = n} to h, suc-mul q to)

-- a place within n rows lies in one of them
pub row_of_lem : (to n l : ℕ) → 0 < to → l < n * to → l / to < n
row_of_lem to n l some h =
    elim (dec_lt (l / to) n) [
      | yes q ↦ q
      | no q ↦ absurd (omega (arith, mul-le-mul_right {m = n} {n = l / to} to (omega arith), div-add-mod' l to))
    ]

-- the word of row q at place r
word_in : (from : ℕ) (words : List ℕ) (q r : ℕ) → ℕ
word_in from words q r = pick (ltb r from) (get_or words (q * from + r) 0) 0

module _ (from to : ℕ) (words : List ℕ) (n : ℕ) (some : 0 < from) (whole : length words ≡ n * from) where
  rows_many : length words / from * to ≡ n * to
  rows_many = ap (λ (z : ℕ). z * to) (div-eq_of_eq-mul_left some whole)

  pub relaid_length : length (relaid from to words) ≡ n * to
  unfolding relaid
  relaid_length = build_length _ (length words / from * to) ∙ rows_many

  pub relaid_at : (l : ℕ) → l < n * to → get_or (relaid from to words) l 0 ≡ pick (ltb (l % to) from) (get_or words (l / to * from + l % to) 0) 0
  unfolding relaid
  relaid_at l h = build_at _ (length words / from * to) l 0 (omega (arith, rows_many))

  pub relaid_row : (q r : ℕ) → q < n → r < to → get_or (relaid from to words) (q * to + r) 0 ≡ pick (ltb r from) (get_or words (q * from + r) 0) 0
  unfolding word_in
  relaid_row q r h l =
      let row : (q * to + r) / to ≡ q = mul-add-div_right (omega arith) q r ∙ ap (λ (z : ℕ). q + z) (div-eq_of_lt l) ∙ omega arith in
      let place : (q * to + r) % to ≡ r = mul-add-mod_self_right q to r ∙ mod-eq_of_lt l in
      relaid_at (q * to + r) (in_rows to n q r h l)
      ∙ ap (λ (z : ℕ). word_in from words z ((q * to + r) % to)) row ∙ ap (word_in from words q) place

-- every word is one of the words before, or 0
small_at : (words : List ℕ) (l : ℕ) → every is_small words ≡ true → is_small (get_or words l 0) ≡ true
small_at words l e =
    elim (dec_lt l (length words)) [
      | yes h ↦ every_at is_small words l 0 e h
      | no h ↦ ap is_small (get_or-eq_default words 0 (omega arith))
    ]

pub relaid_small : (from to : ℕ) (words : List ℕ) (n : ℕ) → 0 < from → length words ≡ n * from → every is_small words ≡ true
    → every is_small (relaid from to words) ≡ true
relaid_small from to words n some whole e =
    every_all is_small (relaid from to words) 0
    (λ l h. ap is_small (relaid_at from to words n some whole l (omega (arith, relaid_length from to words n some whole))) ∙ by (ltb (l % to) from) (l / to * from + l % to))
  where
    by : (b : Bool) (i : ℕ) → is_small (pick b (get_or words i 0) 0) ≡ true
    by true i = small_at words i e
    by false i = refl

module _ (from to : ℕ) (some : 0 < from) (wider : from ≤ to) where
  -- into wider rows and back: the same words
  pub wide_back : (words : List ℕ) (n : ℕ) → length words ≡ n * from → relaid to from (relaid from to words) ≡ words
  wide_back words n whole =
      ext_get_or 0 (relaid to from wide) words (long ∙ sym whole) (λ l h. at l (omega (arith, long)))
    where
      wide : List ℕ
      wide = relaid from to words

      wide_long : length wide ≡ n * to
      wide_long = relaid_length from to words n some whole

      long : length (relaid to from wide) ≡ n * from
      long = relaid_length to from wide n (omega arith) wide_long

      at : (l : ℕ) → l < n * from → get_or (relaid to from wide) l 0 ≡ get_or words l 0
      at l h =
          let q = l / from in
          let r = l % from in
          let low : r < from = mod-lt l some in
          relaid_at to from wide n (omega arith) wide_long l h
          ∙ ap (λ (b : Bool). pick b (get_or wide (q * to + r) 0) 0) (lt-ltb r to (omega arith))
          ∙ relaid_row from to words n some whole q r (row_of_lem from n l some h) (omega arith)
          ∙ ap (λ (b : Bool). pick b (get_or words (q * from + r) 0) 0) (lt-ltb r from low)
          ∙ ap (λ (z : ℕ). get_or words z 0) (div-add-mod' l from)

  -- into narrower rows and back: the same words, where those left out were 0
  pub narrow_back : (words : List ℕ) (n : ℕ) → length words ≡ n * to
      → ((q r : ℕ) → q < n → from ≤ r → r < to → get_or words (q * to + r) 0 ≡ 0) → relaid from to (relaid to from words) ≡ words
  narrow_back words n whole none =
      ext_get_or 0 (relaid from to narrow) words (long ∙ sym whole) (λ l h. at l (omega (arith, long)))
    where
      narrow : List ℕ
      narrow = relaid to from words

      narrow_long : length narrow ≡ n * from
      narrow_long = relaid_length to from words n (omega arith) whole

      long : length (relaid from to narrow) ≡ n * to
      long = relaid_length from to narrow n some narrow_long

      at : (l : ℕ) → l < n * to → get_or (relaid from to narrow) l 0 ≡ get_or words l 0
      at l h =
          let q = l / to in
          let r = l % to in
          let low : r < to = mod-lt l (omega arith) in
          let row : q < n = row_of_lem to n l (omega arith) h in
          let same : get_or words (q * to + r) 0 ≡ get_or words l 0 = ap (λ (z : ℕ). get_or words z 0) (div-add-mod' l to) in
          relaid_at from to narrow n some narrow_long l h
          ∙ elim (dec_lt r from) [
            | yes k ↦ ap (λ (b : Bool). pick b (get_or narrow (q * from + r) 0) 0) (lt-ltb r from k)
                ∙ relaid_row to from words n (omega arith) whole q r row k
                ∙ ap (λ (b : Bool). pick b (get_or words (q * to + r) 0) 0) (lt-ltb r to low) ∙ same
            | no k ↦ ap (λ (b : Bool). pick b (get_or narrow (q * from + r) 0) 0) (le-ltb r from (omega arith))
                ∙ sym (none q r row (omega arith) low) ∙ same
          ]

-- a row and the rows behind it, into narrower ones
module _ (from to : ℕ) (some : 0 < to) (narrower : to ≤ from) (one rest : List ℕ) (n : ℕ) (row : length one ≡ from) (behind : length rest ≡ n * from) where
  all_long : length (one ++ rest) ≡ suc n * from
  all_long = length-append one rest ∙ omega (arith, suc-mul n from)

  front_long : length (take to one) ≡ to
  front_long = length-take-le to one (omega arith)

  long : length (relaid from to (one ++ rest)) ≡ suc n * to
  long = relaid_length from to (one ++ rest) (suc n) (omega arith) all_long

  rest_long : length (relaid from to rest) ≡ n * to
  rest_long = relaid_length from to rest n (omega arith) behind

  in_first : (l : ℕ) → l < to → get_or (relaid from to (one ++ rest)) l 0 ≡ get_or (take to one ++ relaid from to rest) l 0
  in_first l h =
      let zeroth : 0 * to + l ≡ l = omega arith in
      ap (λ (z : ℕ). get_or (relaid from to (one ++ rest)) z 0) (sym zeroth)
      ∙ relaid_row from to (one ++ rest) (suc n) (omega arith) all_long 0 l (omega arith) h
      ∙ ap (λ (b : Bool). pick b (get_or (one ++ rest) (0 * from + l) 0) 0) (lt-ltb l from (omega arith))
      ∙ ap (λ (z : ℕ). get_or (one ++ rest) z 0) (omega arith)
      ∙ get_or-append one rest 0 l (omega arith)
      ∙ sym (get_or-append (take to one) (relaid from to rest) 0 l (omega (arith, front_long)) ∙ get_or-take to one l 0 h)

  in_others : (q r : ℕ) → q < n → r < to → get_or (relaid from to (one ++ rest)) (suc q * to + r) 0 ≡ get_or (take to one ++ relaid from to rest) (suc q * to + r) 0
  in_others q r h l =
      let near : suc q * from + r ≡ length one + (q * from + r) = omega (arith, suc-mul q from) in
      let far : suc q * to + r ≡ length (take to one) + (q * to + r) = omega (arith, suc-mul q to, front_long) in
      relaid_row from to (one ++ rest) (suc n) (omega arith) all_long (suc q) r (omega arith) l
      ∙ ap (λ (z : ℕ). pick (ltb r from) (get_or (one ++ rest) z 0) 0) near
      ∙ ap (λ (z : ℕ). pick (ltb r from) z 0) (get_or-append-add one rest (q * from + r) 0)
      ∙ sym (relaid_row from to rest n (omega arith) behind q r h l)
      ∙ sym (ap (λ (z : ℕ). get_or (take to one ++ relaid from to rest) z 0) far ∙ get_or-append-add (take to one) (relaid from to rest) (q * to + r) 0)

  pub relaid_more : relaid from to (one ++ rest) ≡ take to one ++ relaid from to rest
  relaid_more =
      ext_get_or 0 (relaid from to (one ++ rest)) (take to one ++ relaid from to rest)
      (long ∙ sym (length-append (take to one) (relaid from to rest) ∙ omega (arith, front_long, rest_long, suc-mul n to)))
      (λ l h. by l (l / to) refl (omega (arith, long)))
    where
      by : (l q : ℕ) → l / to ≡ q → l < suc n * to → get_or (relaid from to (one ++ rest)) l 0 ≡ get_or (take to one ++ relaid from to rest) l 0
      by l zero e h = in_first l (omega (arith, div-add-mod' l to, mod-lt l some, ap (λ (z : ℕ). z * to) e))
      by l (suc q) e h =
          let place : suc q * to + l % to ≡ l = ap (λ (z : ℕ). z * to + l % to) (sym e) ∙ div-add-mod' l to in
          let there = row_of_lem to (suc n) l some h in
          ap (λ (z : ℕ). get_or (relaid from to (one ++ rest)) z 0) (sym place)
          ∙ in_others q (l % to) (omega arith) (mod-lt l some)
          ∙ ap (λ (z : ℕ). get_or (take to one ++ relaid from to rest) z 0) place
