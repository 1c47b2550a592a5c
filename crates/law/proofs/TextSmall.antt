-- What a refusal of a text also returns is small: a place no further than reading looks, or a row.
use mathlib.Core.Bool.{Bool, true, false, not}
use mathlib.Core.List.{List, [], ◌∷◌}
use mathlib.Core.Path.{◌≡◌, refl, ap}
use Prim.Native.Nat.{ℕ, ◌≤◌}
use native.Mathlib.Omega.{arith}
use lib.Dec.{leb, ltb, eqb}
use lib.ListN.{length}
use borrow.Author.Tests.{leb-true}
use Rattle.law.specs.Refusal.{Answer, accepted, refused, or_refused, after, head}
use Rattle.law.specs.Table.{Task, table_of, row_fault, faulty, rows_checked}
use Rattle.law.specs.Text.{rows_key, row_keys}
use Rattle.law.specs.Reading.{Found, found, fault, line_at, rows_at, words_read, rows_found, first_found, text_answer, read_answer, put_answer}
use Rattle.law.proofs.First.{first_high}
use Rattle.law.proofs.Table.{table_length}
use Rattle.law.proofs.TextLine.{reached}
use Rattle.law.proofs.TextReach.{spans, line_reach, rows_reach, rows_span}
use Rattle.law.proofs.TextTrips.{lines_trip}

-- the row or place that goes with a refusal, 0 where there is none
abbrev pub also_in : Answer → ℕ
also_in (accepted vs) = 0
also_in (refused n also) = head also

-- of an answer after another, and of one that may be refused
pub after_also : (a next : Answer) (most : ℕ) → also_in a ≤ most → ((vs : List ℕ) → a ≡ accepted vs → also_in next ≤ most) → also_in (after a next) ≤ most
after_also (accepted vs) next most h l = l vs refl
after_also (refused n also) next most h l = h

or_refused_also : (b : Bool) (n : ℕ) (next : Answer) (most : ℕ) → also_in next ≤ most → also_in (or_refused b (refused n []) next) ≤ most
or_refused_also true n next most h = h
or_refused_also false n next most h = omega arith

pub rows_also : (tasks : List Task) → also_in (rows_checked tasks) ≤ length tasks
unfolding rows_checked faulty
rows_also tasks = by (eqb (faulty tasks) (length tasks))
  where
    by : (b : Bool) → also_in (or_refused b (refused (row_fault tasks (faulty tasks)) (faulty tasks ∷ [])) (accepted (length tasks ∷ []))) ≤ length tasks
    by true = omega arith
    by false = omega (arith, first_high (λ i. not (eqb (row_fault tasks i) 0)) 0 (length tasks))

pub put_also : (text : List ℕ) (room : ℕ) → also_in (put_answer text room) ≤ 0
unfolding put_answer
put_also text room = or_refused_also (leb (length text) room) 13 (accepted (length text ∷ [])) 0 (omega arith)

module _ (keys : List (List ℕ)) (short : spans keys ≤ 57) (text : List ℕ) where
  pub lines_also : also_in (text_answer keys text) ≤ 1836
  unfolding text_answer
  lines_also = by (line_at text 0 rows_key) refl
    where
      found_also : (n : ℕ) (f : Found) → also_in (rows_found n f) ≤ reached f
      found_also n (found words last) = omega arith
      found_also n (fault j) = omega arith

      rows : (values : List ℕ) (next : ℕ) → line_at text 0 rows_key ≡ found values next → (b : Bool) → leb (head values) 32 ≡ b
          → also_in (or_refused b (refused 3 []) (rows_found (head values) (rows_at keys text next (head values)))) ≤ 1836
      rows values next line false e = omega arith
      rows values next line true e =
          omega (
            arith,
            found_also (head values) (rows_at keys text next (head values)),
            rows_reach keys text next (head values),
            rows_span keys short (head values) (leb-true (head values) 32 e),
            line_reach text 0 rows_key,
            ap reached line,
          )

      by : (f : Found) → line_at text 0 rows_key ≡ f → also_in (first_found keys text f) ≤ 1836
      by (fault j) e = omega (arith, line_reach text 0 rows_key, ap reached e)
      by (found values next) e =
          or_refused_also (ltb 0 (head values)) 2 _ 1836 (rows values next e (leb (head values) 32) refl)

pub refused_small : (text : List ℕ) (room n : ℕ) (also : List ℕ) → read_answer text room ≡ refused n also → head also ≤ 1836
unfolding read_answer
refused_small text room n also e =
    let words = words_read row_keys text in
    let last = or_refused (leb (length words) room) (refused 13 []) (accepted (length (table_of words) ∷ [])) in
    let most : also_in (after (text_answer row_keys text) (after (rows_checked (table_of words)) last)) ≤ 1836 =
    after_also (text_answer row_keys text) (after (rows_checked (table_of words)) last) 1836 (lines_also row_keys (omega arith) text)
    (λ vs l. after_also (rows_checked (table_of words)) last 1836
    (let t = (lines_trip row_keys (omega arith) text vs l).1 in omega (arith, rows_also (table_of words), table_length words, t.whole, t.high))
    (λ vs' c. or_refused_also (leb (length words) room) 13 (accepted (length (table_of words) ∷ [])) 1836 (omega arith))) in
    omega (arith, most, ap also_in e)
