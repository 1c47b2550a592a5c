-- How far a reading looks: no further than the longest text of so many rows and one byte more. So a text may be cut there, and a fault's place is small.
use mathlib.Core.Bool.{Bool, true, false}
use mathlib.Core.List.{List, [], ◌∷◌, ◌++◌}
use mathlib.Core.Path.{◌≡◌, refl, ap, ◌∙◌}
use Prim.Native.Nat.{ℕ, zero, suc, ◌+◌, ◌*◌, ◌≤◌, ◌<◌}
use native.Mathlib.Decide.{dec_lt}
use native.Mathlib.Nat.{suc-mul, mul-le-mul}
use native.Mathlib.Omega.{arith}
use lib.Dec.{leb, ltb, eqb}
use lib.ListN.{length, take}
use lib.Seq.{take-take, take_all, length-take-le}
use borrow.Author.Tests.{ne_eqb, leb-true}
use Rattle.law.specs.Sums.{pick}
use Rattle.law.specs.Refusal.{Answer, accepted, refused, or_refused, after, head}
use Rattle.law.specs.Table.{table_of, rows_checked}
use Rattle.law.specs.Text.{rows_key, row_keys, keys_of}
use Rattle.law.specs.Reading.{Found, found, fault, key_length, line_at, lines_at, ended, rows_at, words_read, rows_found, first_found, text_answer, read_answer}
use Rattle.law.proofs.TextLine.{reached, key_high, value_reached, line_cut, line_on, line_local}
use Rattle.law.proofs.TextLines.{came, fell, outcome, reached_behind, lines_none, lines_off, lines_on, lines_local}
use Rattle.law.proofs.TextAnswers.{text_says, words_read_lem}
use Rattle.law.proofs.TextSteps.{value_most}

-- a line: its key, five digits, LF
pub line_reach : (text : List ℕ) (at : ℕ) (key : List ℕ) → reached (line_at text at key) ≤ at + (length key + 6)
line_reach text at key =
    elim (dec_lt (key_length text at key) (length key)) [
      | yes h ↦ omega (arith, ap reached (line_cut text at key _ refl h))
      | no h ↦ omega (
        arith,
        value_reached text (at + length key),
        value_most text (at + length key),
        ap reached (line_on text at key (omega (arith, key_high text at key))),
      )
    ]

-- the bytes of a line for each key, at most
abbrev pub spans : List (List ℕ) → ℕ
spans [] = 0
spans (key ∷ keys) = length key + 6 + spans keys

pub lines_reach : (text : List ℕ) (at : ℕ) (keys : List (List ℕ)) → reached (lines_at text at keys) ≤ at + spans keys
lines_reach text at [] = omega (arith, ap reached (lines_none text at))
lines_reach text at (key ∷ keys) =
    elim (outcome (line_at text at key)) [
      | fell j f ↦ omega (arith, line_reach text at key, ap reached f, ap reached (lines_off text at key keys j f))
      | came word mid f ↦ omega (
        arith,
        line_reach text at key,
        ap reached f,
        ap reached (lines_on text at key keys word mid f),
        reached_behind word (lines_at text mid keys),
        lines_reach text mid keys,
      )
    ]

spans_append : (keys more : List (List ℕ)) → spans (keys ++ more) ≡ spans keys + spans more
spans_append [] more = omega arith
spans_append (key ∷ keys) more = omega (arith, spans_append keys more)

pub spans_rows : (keys : List (List ℕ)) (n : ℕ) → spans (keys_of keys n) ≡ n * spans keys
unfolding keys_of
spans_rows keys zero = omega arith
spans_rows keys (suc n) = spans_append keys (keys_of keys n) ∙ omega (arith, spans_rows keys n, suc-mul n (spans keys))

-- the end of the text is one place further
ended_reach : (text : List ℕ) (f : Found) → reached (ended text f) ≤ suc (reached f)
ended_reach text (fault j) = omega arith
ended_reach text (found values next) = by (eqb next (length text))
  where
    by : (b : Bool) → reached (pick b (found values next) (fault next)) ≤ suc next
    by true = omega arith
    by false = omega arith

pub rows_reach : (keys : List (List ℕ)) (text : List ℕ) (at n : ℕ) → reached (rows_at keys text at n) ≤ suc (at + n * spans keys)
unfolding rows_at
rows_reach keys text at n =
    omega (arith, ended_reach text (lines_at text at (keys_of keys n)), lines_reach text at (keys_of keys n), spans_rows keys n)

-- a text that is cut behind all that is looked at
module _ (text : List ℕ) (m : ℕ) where
  same : take m (take m text) ≡ take m text
  same = take-take m m text (omega arith)

  pub line_short : (at : ℕ) (key : List ℕ) → at + (length key + 6) ≤ m → line_at (take m text) at key ≡ line_at text at key
  line_short at key h = line_local text at key (take m text) m same (omega (arith, line_reach text at key))

  ended_short : (f : Found) → reached f < m → ended (take m text) f ≡ ended text f
  ended_short (fault j) h = refl
  ended_short (found values next) h =
      elim (dec_lt m (length text)) [
        | yes l ↦
            let cut = length-take-le m text (omega arith) in
            let a = ne_eqb next (length (take m text)) (λ e. omega arith) in
            let b = ne_eqb next (length text) (λ e. omega arith) in rw (a, b)
        | no l ↦ ap (λ (z : List ℕ). pick (eqb next (length z)) (found values next) (fault next)) (take_all m text (omega arith))
      ]

  pub rows_short : (keys : List (List ℕ)) (at n : ℕ) → suc (at + n * spans keys) ≤ m → rows_at keys (take m text) at n ≡ rows_at keys text at n
  unfolding rows_at
  rows_short keys at n h =
      let reach : reached (lines_at text at (keys_of keys n)) < m = omega (arith, lines_reach text at (keys_of keys n), spans_rows keys n) in
      ap (ended (take m text)) (lines_local text (take m text) m same at (keys_of keys n) (omega arith))
      ∙ ended_short (lines_at text at (keys_of keys n)) reach

-- "1,836": the first line has eleven bytes at most, 32 rows have 57 each, and one place more is looked at
module _ (keys : List (List ℕ)) (short : spans keys ≤ 57) where
  pub rows_span : (n : ℕ) → n ≤ 32 → n * spans keys ≤ 1824
  rows_span n h = mul-le-mul h short

  module _ (text : List ℕ) (m : ℕ) (enough : 1836 ≤ m) where
    rows_same : (values : List ℕ) (next : ℕ) → line_at text 0 rows_key ≡ found values next → head values ≤ 32
        → rows_at keys (take m text) next (head values) ≡ rows_at keys text next (head values)
    rows_same values next e few =
        rows_short text m keys next (head values) (omega (arith, rows_span (head values) few, line_reach text 0 rows_key, ap reached e))

    pub text_short : text_answer keys (take m text) ≡ text_answer keys text
    unfolding text_answer
    text_short =
        ap (first_found keys (take m text)) (line_short text m 0 rows_key (omega arith)) ∙ by (line_at text 0 rows_key) refl
      where
        rows : (values : List ℕ) (next : ℕ) → line_at text 0 rows_key ≡ found values next → (b : Bool) → leb (head values) 32 ≡ b
            → or_refused b (refused 3 []) (rows_found (head values) (rows_at keys (take m text) next (head values)))
            ≡ or_refused b (refused 3 []) (rows_found (head values) (rows_at keys text next (head values)))
        rows values next l true e = ap (rows_found (head values)) (rows_same values next l (leb-true (head values) 32 e))
        rows values next l false e = refl

        by : (f : Found) → line_at text 0 rows_key ≡ f → first_found keys (take m text) f ≡ first_found keys text f
        by (fault j) e = refl
        by (found values next) e = ap (or_refused (ltb 0 (head values)) (refused 2 [])) (rows values next e (leb (head values) 32) refl)

    pub words_short : (vs : List ℕ) → text_answer keys text ≡ accepted vs → words_read keys (take m text) ≡ words_read keys text
    words_short vs e =
        let s = text_says keys text vs e in
        words_read_lem keys (take m text) (line_short text m 0 rows_key (omega arith) ∙ s.line) (rows_same s.values s.next s.line s.high ∙ s.rows)

-- what follows accepted lines from their words is the same of the cut text
pub after_short : (keys : List (List ℕ)) → spans keys ≤ 57 → (text : List ℕ) (m : ℕ) → 1836 ≤ m → (more : List ℕ → Answer)
    → after (text_answer keys (take m text)) (more (words_read keys (take m text))) ≡ after (text_answer keys text) (more (words_read keys text))
after_short keys short text m enough more =
    ap (λ (a : Answer). after a (more (words_read keys (take m text)))) (text_short keys short text m enough) ∙ by (text_answer keys text) refl
  where
    by : (a : Answer) → text_answer keys text ≡ a → after a (more (words_read keys (take m text))) ≡ after a (more (words_read keys text))
    by (accepted vs) e = ap more (words_short keys short text m enough vs e)
    by (refused n also) e = refl

pub read_short_text : (text : List ℕ) (m room : ℕ) → 1836 ≤ m → read_answer (take m text) room ≡ read_answer text room
unfolding read_answer
read_short_text text m room h =
    after_short row_keys (omega arith) text m h
    (λ words. after (rows_checked (table_of words)) (or_refused (leb (length words) room) (refused 13 []) (accepted (length (table_of words) ∷ []))))
