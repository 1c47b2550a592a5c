-- A state laid out as words: each row stands at its place, a row stored there is the state with that row, and well-formed words are the
-- words of the state that they say.
use mathlib.Core.Bool.{true}
use mathlib.Core.List.{List, [], ◌∷◌, ◌++◌, append_assoc}
use mathlib.Core.Path.{◌≡◌, refl, sym, ap, ◌∙◌}
use Prim.Native.Nat.{ℕ, zero, suc, ◌+◌, ◌-◌, ◌*◌, ◌/◌, ◌%◌, ◌≤◌, ◌<◌}
use native.Mathlib.Decide.{dec_lt}
use native.Mathlib.Nat.{add-suc, add-zero, suc-mul}
use native.Mathlib.Omega.{arith}
use lib.Dec.{eqb}
use lib.ListN.{length, get_or, set, take, drop, replicate, length-append, length-replicate, length-set, length-drop, get_or-replicate, replicate-append-replicate, get_or-append}
use lib.Seq.{sets, sets-eq, set-get_or, get_or-set_same, get_or-set_other, get_or-append-add, get_or-drop, ext_get_or, take-append-add, drop-append-add}
use borrow.Author.Tests.{eqb-true}
use Rattle.law.specs.Sums.{every, build}
use Rattle.law.specs.Table.{task_of}
use Rattle.law.specs.Tick.{Row, State, no_row}
use Rattle.law.specs.State.{row_of, row_at, state_of, words_of, rows_laid, laid, sets_from, with_row}
use Rattle.law.proofs.Lists.{every_at}
use Rattle.law.proofs.First.{build_length, build_at}

-- ---- one row

pub row_length : (r : Row) → length (words_of r) ≡ 20
unfolding words_of
row_length r = refl

row_again : (r : Row) → row_of (λ j. get_or (words_of r) j 0) ≡ r
unfolding words_of row_of task_of
row_again r = refl

-- two rows of words are the same where their twenty words are
row_same : (f g : ℕ → ℕ) → ((j : ℕ) → j < 20 → f j ≡ g j) → row_of f ≡ row_of g
unfolding row_of task_of
row_same f g h =
    λ i. record {
      core =
          record {
            task =
                record {
                  id = h 0 (omega arith) i;
                  c = h 1 (omega arith) i;
                  t = h 2 (omega arith) i;
                  d = h 3 (omega arith) i;
                  m = h 4 (omega arith) i;
                  k = h 5 (omega arith) i;
                  p = h 6 (omega arith) i;
                };
            wait = h 7 (omega arith) i;
            place = h 8 (omega arith) i;
            work = h 9 (omega arith) i;
            left = h 10 (omega arith) i;
            kind = h 11 (omega arith) i;
          };
      tally =
          record {
            window = h 12 (omega arith) i;
            released = h 13 (omega arith) i;
            mm = h 14 (omega arith) i;
            mx = h 15 (omega arith) i;
            om = h 16 (omega arith) i;
            ox = h 17 (omega arith) i;
            broken = h 18 (omega arith) i;
            held = h 19 (omega arith) i;
          };
    }

word_of_row : (f : ℕ → ℕ) (j : ℕ) → j < 20 → get_or (words_of (row_of f)) j 0 ≡ f j
unfolding words_of row_of task_of build
word_of_row f j h = build_at f 20 j 0 h

-- ---- all rows

pub rows_length : (rows : List Row) → length (rows_laid rows) ≡ length rows * 20
unfolding rows_laid
rows_length [] = refl
rows_length (r ∷ rows) = length-append (words_of r) (rows_laid rows) ∙ omega (arith, row_length r, rows_length rows, suc-mul (length rows) 20)

-- word j of row i, whatever follows the rows
rows_at_lem : (rows : List Row) (rest : List ℕ) (i j : ℕ) → i < length rows → j < 20
    → get_or (rows_laid rows ++ rest) (i * 20 + j) 0 ≡ get_or (words_of (get_or rows i no_row)) j 0
unfolding rows_laid
rows_at_lem [] rest i j h l = absurd (omega arith)
rows_at_lem (r ∷ rows) rest zero j h l =
    let e : zero * 20 + j ≡ j = omega arith in
    rw e
    (ap (λ (z : List ℕ). get_or z j 0) (append_assoc (words_of r) (rows_laid rows) rest)
    ∙ get_or-append (words_of r) (rows_laid rows ++ rest) 0 j (omega (arith, row_length r)))
rows_at_lem (r ∷ rows) rest (suc i) j h l =
    let e : suc i * 20 + j ≡ length (words_of r) + (i * 20 + j) = omega (arith, suc-mul i 20, row_length r) in
    rw e
    (ap (λ (z : List ℕ). get_or z (length (words_of r) + (i * 20 + j)) 0) (append_assoc (words_of r) (rows_laid rows) rest)
    ∙ get_or-append-add (words_of r) (rows_laid rows ++ rest) (i * 20 + j) 0 ∙ rows_at_lem rows rest i j (omega arith) l)

first_set : (q r : Row) (l rest : List ℕ) → words_of r ++ drop 20 ((words_of q ++ l) ++ rest) ≡ (words_of r ++ l) ++ rest
unfolding words_of
first_set q r l rest = refl

-- another row i: its words in place of the old ones
rows_set : (rows : List Row) (rest : List ℕ) (i : ℕ) (r : Row) → i < length rows
    → take (i * 20) (rows_laid rows ++ rest) ++ (words_of r ++ drop (i * 20 + 20) (rows_laid rows ++ rest)) ≡ rows_laid (set rows i r) ++ rest
unfolding rows_laid
rows_set [] rest i r h = absurd (omega arith)
rows_set (q ∷ rows) rest zero r h = first_set q r (rows_laid rows) rest
rows_set (q ∷ rows) rest (suc i) r h =
    let x = rows_laid rows ++ rest in
    let w = words_of q in
    let e : suc i * 20 ≡ length w + i * 20 = omega (arith, suc-mul i 20, row_length q) in
    let f : suc i * 20 + 20 ≡ length w + (i * 20 + 20) = omega (arith, suc-mul i 20, row_length q) in
    ap (λ (z : List ℕ). take (suc i * 20) z ++ (words_of r ++ drop (suc i * 20 + 20) z)) (append_assoc w (rows_laid rows) rest)
    ∙ ap (λ (z : ℕ). take z (w ++ x) ++ (words_of r ++ drop (suc i * 20 + 20) (w ++ x))) e
    ∙ ap (λ (z : ℕ). take (length w + i * 20) (w ++ x) ++ (words_of r ++ drop z (w ++ x))) f
    ∙ ap (λ (z : List ℕ). z ++ (words_of r ++ drop (length w + (i * 20 + 20)) (w ++ x))) (take-append-add w x (i * 20))
    ∙ ap (λ (z : List ℕ). (w ++ take (i * 20) x) ++ (words_of r ++ z)) (drop-append-add w x (i * 20 + 20))
    ∙ append_assoc w (take (i * 20) x) (words_of r ++ drop (i * 20 + 20) x)
    ∙ ap (λ (z : List ℕ). w ++ z) (rows_set rows rest i r (omega arith)) ∙ sym (append_assoc w (rows_laid (set rows i r)) rest)

-- ---- the whole state

-- rows past the last
nothing_after : ℕ → List ℕ
nothing_after n = replicate ((32 - n) * 20) 0

body : (s : State) → laid s ≡ length s.rows ∷ s.time ∷ s.idle ∷ (rows_laid s.rows ++ nothing_after (length s.rows))
unfolding laid nothing_after
body s = refl

pub laid_length : (s : State) → length s.rows ≤ 32 → length (laid s) ≡ 643
unfolding laid
laid_length s h =
    let rest : List ℕ = replicate ((32 - length s.rows) * 20) 0 in
    let l : length rest ≡ (32 - length s.rows) * 20 = length-replicate ((32 - length s.rows) * 20) 0 in
    omega (arith, length-append (rows_laid s.rows) rest, rows_length s.rows, l)

-- word j of row i
laid_word : (s : State) (i j : ℕ) → i < length s.rows → j < 20
    → get_or (laid s) (i * 20 + (3 + j)) 0 ≡ get_or (words_of (get_or s.rows i no_row)) j 0
unfolding laid
laid_word s i j h l =
    let e : i * 20 + (3 + j) ≡ suc (suc (suc (i * 20 + j))) = omega arith in
    rw e (rows_at_lem s.rows _ i j h l)

pub laid_row : (s : State) (i : ℕ) → i < length s.rows → row_at (laid s) i ≡ get_or s.rows i no_row
laid_row s i h =
    row_same (λ j. get_or (laid s) (i * 20 + (3 + j)) 0) (λ j. get_or (words_of (get_or s.rows i no_row)) j 0) (λ j l. laid_word s i j h l)
    ∙ row_again (get_or s.rows i no_row)

sets_are : (words : List ℕ) (b n : ℕ) (vs : List ℕ) → sets_from words b n vs ≡ sets words (b + n) vs
unfolding sets_from
sets_are words b n [] = refl
sets_are words b n (v ∷ vs) =
    sets_are (set words (b + n) v) b (suc n) vs ∙ ap (λ (z : ℕ). sets (set words (b + n) v) z vs) (add-suc b n)

pub laid_put : (s : State) (i : ℕ) (r : Row) → length s.rows ≤ 32 → i < length s.rows
    → sets_from (laid s) (i * 20) 3 (words_of r) ≡ laid (with_row s i r)
unfolding laid nothing_after
laid_put s i r few h =
    let x = rows_laid s.rows ++ nothing_after (length s.rows) in
    let e : i * 20 + 3 ≡ suc (suc (suc (i * 20))) = omega arith in
    let f : i * 20 + 3 + length (words_of r) ≡ suc (suc (suc (i * 20 + 20))) = omega (arith, row_length r) in
    sets_are (laid s) (i * 20) 3 (words_of r)
    ∙ sets-eq (words_of r) (laid s) (i * 20 + 3) (omega (arith, laid_length s few, row_length r))
    ∙ append_assoc (take (i * 20 + 3) (laid s)) (words_of r) (drop (i * 20 + 3 + length (words_of r)) (laid s))
    ∙ ap (λ (z : ℕ). take z (laid s) ++ (words_of r ++ drop (i * 20 + 3 + length (words_of r)) (laid s))) e
    ∙ ap (λ (z : ℕ). take (suc (suc (suc (i * 20)))) (laid s) ++ (words_of r ++ drop z (laid s))) f
    ∙ ap (λ (z : List ℕ). length s.rows ∷ s.time ∷ s.idle ∷ z) (rows_set s.rows (nothing_after (length s.rows)) i r h)
    ∙ ap (λ (z : ℕ). z ∷ s.time ∷ s.idle ∷ (rows_laid (set s.rows i r) ++ nothing_after z)) (sym (length-set s.rows i r))

over : (n l : ℕ) → n + suc l ≡ suc n + l
over n l = omega arith

-- values that stand there already change nothing
sets_same : (words : List ℕ) (b n : ℕ) (vs : List ℕ) → ((l : ℕ) → l < length vs → get_or vs l 0 ≡ get_or words (b + (n + l)) 0) → sets_from words b n vs ≡ words
unfolding sets_from
sets_same words b n [] h = refl
sets_same words b n (v ∷ vs) h =
    let e : set words (b + n) v ≡ words = ap (set words (b + n)) (h 0 (omega arith) ∙ ap (λ (z : ℕ). get_or words (b + z) 0) (add-zero n)) ∙ set-get_or words (b + n) 0 in
    ap (λ (z : List ℕ). sets_from z b (suc n) vs) e
    ∙ sets_same words b (suc n) vs (λ l q. h (suc l) (omega arith) ∙ ap (λ (z : ℕ). get_or words (b + z) 0) (over n l))

-- of values that stand there already but for one, only that one is stored
sets_one : (words : List ℕ) (b n : ℕ) (vs : List ℕ) (j v : ℕ) → j < length vs → ((l : ℕ) → l < length vs → get_or vs l 0 ≡ get_or words (b + (n + l)) 0)
    → sets_from words b n (set vs j v) ≡ set words (b + (n + j)) v
unfolding sets_from
sets_one words b n [] j v q h = absurd (omega arith)
sets_one words b n (x ∷ vs) zero v q h =
    sets_same (set words (b + n) v) b (suc n) vs
    (λ l p. h (suc l) (omega arith) ∙ ap (λ (z : ℕ). get_or words (b + z) 0) (over n l) ∙ sym (get_or-set_other words (b + n) (b + (suc n + l)) v 0 (omega arith)))
    ∙ ap (λ (z : ℕ). set words (b + z) v) (sym (add-zero n))
sets_one words b n (x ∷ vs) (suc j) v q h =
    let e : set words (b + n) x ≡ words = ap (set words (b + n)) (h 0 (omega arith) ∙ ap (λ (z : ℕ). get_or words (b + z) 0) (add-zero n)) ∙ set-get_or words (b + n) 0 in
    ap (λ (z : List ℕ). sets_from z b (suc n) (set vs j v)) e
    ∙ sets_one words b (suc n) vs j v (omega arith) (λ l p. h (suc l) (omega arith) ∙ ap (λ (z : ℕ). get_or words (b + z) 0) (over n l))
    ∙ ap (λ (z : ℕ). set words (b + z) v) (sym (over n j))

-- one word of a row
pub laid_put_word : (s : State) (i j v : ℕ) (r : Row) → length s.rows ≤ 32 → i < length s.rows → j < 20
    → words_of r ≡ set (words_of (get_or s.rows i no_row)) j v → set (laid s) (i * 20 + (3 + j)) v ≡ laid (with_row s i r)
laid_put_word s i j v r few h l e =
    let q = get_or s.rows i no_row in
    sym (sets_one (laid s) (i * 20) 3 (words_of q) j v (omega (arith, row_length q)) (λ n p. sym (laid_word s i n h (omega (arith, row_length q)))))
    ∙ ap (sets_from (laid s) (i * 20) 3) (sym e) ∙ laid_put s i r few h

-- a row with another wait, work and time left
abbrev pub going : Row → ℕ → ℕ → ℕ → Row
going r wait work left =
    record {
      core = record { task = r.core.task; wait = wait; place = r.core.place; work = work; left = left; kind = r.core.kind };
      tally = r.tally;
    }

set_twice : {A : Type 0} (l : List A) (i : ℕ) (x y : A) → set (set l i x) i y ≡ set l i y
set_twice [] i x y = refl
set_twice (z ∷ l) zero x y = refl
set_twice (z ∷ l) (suc i) x y = ap (λ (q : List _). z ∷ q) (set_twice l i x y)

-- its three words
pub laid_going : (s : State) (i wait work left : ℕ) → length s.rows ≤ 32 → i < length s.rows
    → set (set (set (laid s) (i * 20 + 10) wait) (i * 20 + 12) work) (i * 20 + 13) left ≡ laid (with_row s i (going (get_or s.rows i no_row) wait work left))
unfolding words_of
laid_going s i wait work left few h =
    let r = get_or s.rows i no_row in
    let a = going r wait r.core.work r.core.left in
    let b = going r wait work r.core.left in
    let c = going r wait work left in
    let sa = with_row s i a in
    let sb = with_row sa i b in
    let ra : get_or sa.rows i no_row ≡ a = get_or-set_same s.rows i a no_row h in
    let la : length sa.rows ≡ length s.rows = length-set s.rows i a in
    let lb : length sb.rows ≡ length sa.rows = length-set sa.rows i b in
    let rb : get_or sb.rows i no_row ≡ b = get_or-set_same sa.rows i b no_row (omega arith) in
    ap (λ (z : List ℕ). set (set z (i * 20 + 12) work) (i * 20 + 13) left) (laid_put_word s i 7 wait a few h (omega arith) refl)
    ∙ ap (λ (z : List ℕ). set z (i * 20 + 13) left)
    (laid_put_word sa i 9 work b (omega arith) (omega arith) (omega arith) (ap (λ (z : Row). set (words_of z) 9 work) (sym ra)))
    ∙ laid_put_word sb i 10 left c (omega arith) (omega arith) (omega arith) (ap (λ (z : Row). set (words_of z) 10 left) (sym rb))
    ∙ ap (λ (z : List Row). laid (record { time = s.time; idle = s.idle; rows = z }))
    (set_twice sa.rows i b c ∙ set_twice s.rows i a c)

-- ---- words and the state that they say

pub state_laid : (s : State) → state_of (laid s) ≡ s
unfolding state_of laid
state_laid s = λ j. record { time = s.time; idle = s.idle; rows = same j }
  where
    same : build (row_at (laid s)) (length s.rows) ≡ s.rows
    same =
        ext_get_or no_row (build (row_at (laid s)) (length s.rows)) s.rows (build_length (row_at (laid s)) (length s.rows))
        (λ i h. at i (rw (build_length (row_at (laid s)) (length s.rows)) at h))
      where
        at : (i : ℕ) → i < length s.rows → get_or (build (row_at (laid s)) (length s.rows)) i no_row ≡ get_or s.rows i no_row
        at i h = build_at (row_at (laid s)) (length s.rows) i no_row h ∙ laid_row s i h

module _ (words : List ℕ) (long : length words ≡ 643) (few : get_or words 0 0 ≤ 32) where
  n_rows : ℕ
  n_rows = get_or words 0 0

  said : List Row
  said = (state_of words).rows

  said_length : length said ≡ n_rows
  unfolding said state_of n_rows
  said_length = build_length (row_at words) (get_or words 0 0)

  -- a word of a row
  in_row : (i j : ℕ) → i < n_rows → j < 20 → get_or words (i * 20 + (3 + j)) 0 ≡ get_or (laid (state_of words)) (i * 20 + (3 + j)) 0
  unfolding said state_of n_rows
  in_row i j h l =
      sym
      (laid_word (state_of words) i j (omega (arith, said_length)) l
      ∙ ap (λ (z : Row). get_or (words_of z) j 0) (build_at (row_at words) (get_or words 0 0) i no_row h)
      ∙ word_of_row (λ j. get_or words (i * 20 + (3 + j)) 0) j l)

  -- a word past the last row
  past_rows : (p : ℕ) → n_rows * 20 ≤ p → p < 640 → get_or (laid (state_of words)) (suc (suc (suc p))) 0 ≡ 0
  unfolding laid said n_rows
  past_rows p h l =
      let e : p ≡ length (rows_laid said) + (p - n_rows * 20) = omega (arith, rows_length said, said_length) in
      rw e
      (get_or-append-add (rows_laid said) (replicate ((32 - length said) * 20) 0) (p - n_rows * 20) 0
      ∙ get_or-replicate ((32 - length said) * 20) (p - n_rows * 20) 0 0 (omega (arith, said_length)))

  module _ (clear : every (λ w. eqb w 0) (drop (3 + get_or words 0 0 * 20) words) ≡ true) where
    clear_at : (p : ℕ) → n_rows * 20 ≤ p → p < 640 → get_or words (suc (suc (suc p))) 0 ≡ 0
    unfolding n_rows
    clear_at p h l =
        let k = 3 + get_or words 0 0 * 20 in
        let e : suc (suc (suc p)) ≡ k + (suc (suc (suc p)) - k) = omega arith in
        rw e
        (sym (get_or-drop k words (suc (suc (suc p)) - k) 0)
        ∙ eqb-true _ 0 (every_at (λ w. eqb w 0) (drop k words) (suc (suc (suc p)) - k) 0 clear (omega (arith, length-drop k words))))

    word_same : (i : ℕ) → i < 643 → get_or words i 0 ≡ get_or (laid (state_of words)) i 0
    unfolding laid n_rows said state_of
    word_same zero h = sym said_length
    word_same (suc zero) h = refl
    word_same (suc (suc zero)) h = refl
    word_same (suc (suc (suc p))) h =
        elim (dec_lt p (n_rows * 20)) [
          | yes q ↦ let e : suc (suc (suc p)) ≡ p / 20 * 20 + (3 + p % 20) = omega arith in
              rw e (in_row (p / 20) (p % 20) (omega arith) (omega arith))
          | no q ↦ clear_at p (omega arith) (omega arith) ∙ sym (past_rows p (omega arith) (omega arith))
        ]

    -- well-formed words are the words of the state that they say
    pub saved_laid : words ≡ laid (state_of words)
    unfolding said n_rows
    saved_laid =
        ext_get_or 0 words (laid (state_of words)) (long ∙ sym (laid_length (state_of words) (omega (arith, said_length))))
        (λ i h. word_same i (omega arith))

-- ---- a state with nothing in its rows

abbrev pub blank : ℕ → State
blank n = record { time = 0; idle = 0; rows = replicate n no_row }

zeros : (n : ℕ) → words_of no_row ++ replicate n 0 ≡ replicate (20 + n) 0
unfolding words_of
zeros n = replicate-append-replicate 20 n 0

blank_rows : (n : ℕ) → rows_laid (replicate n no_row) ≡ replicate (n * 20) 0
unfolding rows_laid
blank_rows zero = refl
blank_rows (suc n) =
    let e : 20 + n * 20 ≡ suc n * 20 = omega (arith, suc-mul n 20) in
    ap (λ (z : List ℕ). words_of no_row ++ z) (blank_rows n) ∙ zeros (n * 20) ∙ ap (λ (z : ℕ). replicate z 0) e

pub blank_laid : (n : ℕ) → n ≤ 32 → set (replicate 643 0) 0 n ≡ laid (blank n)
unfolding laid
blank_laid n h =
    let e : n * 20 + (32 - n) * 20 ≡ 640 = omega arith in
    ap (λ (z : ℕ). n ∷ 0 ∷ 0 ∷ replicate z 0) (sym e)
    ∙ ap (λ (z : List ℕ). n ∷ 0 ∷ 0 ∷ z) (sym (replicate-append-replicate (n * 20) ((32 - n) * 20) 0))
    ∙ ap (λ (z : List ℕ). n ∷ 0 ∷ 0 ∷ (z ++ replicate ((32 - n) * 20) 0)) (sym (blank_rows n))
    ∙ ap (λ (z : ℕ). z ∷ 0 ∷ 0 ∷ (rows_laid (replicate n no_row) ++ replicate ((32 - z) * 20) 0)) (sym (length-replicate n no_row))
