-- What a loop over the words of a row, or over rows, has read so far; the lines that are left come behind.
use mathlib.Core.List.{List, [], ◌∷◌, ◌++◌}
use mathlib.Core.Path.{◌≡◌, refl, sym, ap, ◌∙◌}
use Prim.Native.Nat.{ℕ, suc, ◌+◌, ◌-◌, ◌*◌, ◌≤◌, ◌<◌}
use native.Mathlib.Nat.{suc-mul, mul-le-mul}
use native.Mathlib.Numerals.{add-one}
use native.Mathlib.Omega.{arith}
use lib.ListN.{length, get_or, take, drop, set, length-set, length-drop, drop_of_length-le}
use lib.Seq.{length-take-le, get_or-take, drop-cons, take-suc-set, take-length, take-append-add, take-append_seam}
use borrow.Rule.Slice.PartMut.{mid_of, put_mid, same_len_mid}
use Rattle.std.specs.Prelude.{Result, Ok, Err}
use Rattle.std.specs.Result.{IsErr}
use Rattle.line.specs.declared.read.Fault.{Fault}
use Rattle.text.specs.Said.{told}
use Rattle.law.specs.Text.{row_keys, keys_of}
use Rattle.law.specs.Reading.{found, fault, line_at, lines_at}
use Rattle.law.proofs.TextSteps.{ReadSo, so_next, so_fault, so_more, so_broken, so_all, keys_more}

-- the first j words of a row
pub record RowSo (text : List ℕ) (from : ℕ) (row : List ℕ) (n at j : ℕ) : Type 0 where
  pub so : ReadSo text from (take n row_keys) (take j row) (drop j (take n row_keys)) at
  pub long : length row ≡ n
  pub narrow : n ≤ 7

module _ {text : List ℕ} {from : ℕ} {row : List ℕ} {n at j : ℕ} (r : RowSo text from row n at j) where
  module _ (h : j < n) where
    due : ReadSo text from (take n row_keys) (take j row) (get_or row_keys j [] ∷ drop (suc j) (take n row_keys)) at
    due = rw (drop-cons (take n row_keys) j [] (omega (arith, length-take-le n row_keys r.narrow)), get_or-take n row_keys j [] h) at r.so

    pub row_next : {v next : ℕ} → found (v ∷ []) next ≡ line_at text at (get_or row_keys j []) → RowSo text from (set row j v) n next (j + 1)
    row_next {v} e =
        record {
          so = rw (add-one, take-suc-set row j v (omega (arith, r.long))) (so_next due (sym e));
          long = length-set row j v ∙ r.long;
          narrow = r.narrow;
        }

    pub row_fault : {next : ℕ} → fault next ≡ line_at text at (get_or row_keys j []) → fault next ≡ lines_at text from (take n row_keys)
    row_fault e = sym (so_fault due (sym e))

  pub row_end : j ≡ n → found row at ≡ lines_at text from (take n row_keys)
  row_end h =
      let none = drop_of_length-le (take n row_keys) {i = j} (omega (arith, length-take-le n row_keys r.narrow)) in
      let all : take j row ≡ row = ap (λ (z : ℕ). take z row) (h ∙ sym r.long) ∙ take-length row in
      sym (so_all (rw (none, all) at r.so))

-- a row's words, among those of so many rows
put_row : (words row : List ℕ) (from n : ℕ) → from ≤ length words → take (from + length row) (put_mid from n words row) ≡ take from words ++ row
put_row words row from n h =
    let long = length-take-le from words h in
    ap (λ (z : ℕ). take (z + length row) (put_mid from n words row)) (sym long)
    ∙ take-append-add (take from words) (row ++ drop n (drop from words)) (length row)
    ∙ ap (λ (l : List ℕ). take from words ++ l) (take-append_seam row (drop n (drop from words)))

no_keys : (keys : List (List ℕ)) → keys_of keys 0 ≡ []
unfolding keys_of
no_keys keys = refl

-- the first i rows
pub record RowsSo (text : List ℕ) (from rows width : ℕ) (words : List ℕ) (at i : ℕ) : Type 0 where
  pub so : ReadSo text from (keys_of (take width row_keys) rows) (take (i * width) words) (keys_of (take width row_keys) (rows - i)) at
  pub long : length words ≡ 224
  pub few : rows ≤ 32
  pub narrow : width ≤ 7

module _ {text : List ℕ} {from rows width : ℕ} {words : List ℕ} {at i : ℕ} (r : RowsSo text from rows width words at i) where
  module _ (h : i < rows) where
    in_last : i * width + width ≤ 224
    in_last =
        let p : suc i ≤ 32 = omega (arith, r.few) in
        omega (arith, suc-mul i width, mul-le-mul p r.narrow)

    after : (i + 1) * width ≡ i * width + width
    after = omega (arith, suc-mul i width, ap (λ (z : ℕ). z * width) (add-one i))

    -- the words of the row that is due
    abbrev old : List ℕ
    old = mid_of (i * width) ((i + 1) * width - i * width) words

    wide : length old ≡ width
    wide =
        length-take-le ((i + 1) * width - i * width) (drop (i * width) words)
        (omega (arith, after, in_last, r.long, length-drop (i * width) words)) ∙ omega (arith, after)

    due_row : ReadSo text from (keys_of (take width row_keys) rows) (take (i * width) words) (take width row_keys ++ keys_of (take width row_keys) (rows - suc i)) at
    due_row = rw (keys_more (take width row_keys) rows i h) at r.so

    pub rows_next : {row : List ℕ} {next : ℕ} → length row ≡ length old → found row next ≡ lines_at text at (take (length old) row_keys)
        → RowsSo text from rows width (put_mid (i * width) ((i + 1) * width - i * width) words row) next (i + 1)
    rows_next {row} l e =
        let new : List ℕ = put_mid (i * width) ((i + 1) * width - i * width) words row in
        let one : (i + 1) * width ≡ i * width + length row = omega (arith, after, wide, l) in
        let front : take ((i + 1) * width) new ≡ take (i * width) words ++ row =
        ap (λ (z : ℕ). take z new) one ∙ put_row words row (i * width) ((i + 1) * width - i * width) (omega (arith, r.long, in_last)) in
        record {
          so = rw (front, add-one) (so_more (take width row_keys) (keys_of (take width row_keys) (rows - suc i)) due_row (sym (rw wide at e)));
          long = same_len_mid (i * width) ((i + 1) * width - i * width) words row l ∙ r.long;
          few = r.few;
          narrow = r.narrow;
        }

    pub rows_fault : {next : ℕ} → fault next ≡ lines_at text at (take (length old) row_keys)
        → fault next ≡ lines_at text from (keys_of (take width row_keys) rows)
    rows_fault e = sym (so_broken (take width row_keys) (keys_of (take width row_keys) (rows - suc i)) due_row (sym (rw wide at e)))

  pub rows_done : i ≡ rows → found (take (rows * width) words) at ≡ lines_at text from (keys_of (take width row_keys) rows)
  rows_done h =
      let none : rows - i ≡ 0 = omega arith in
      sym (so_all (rw (none, no_keys (take width row_keys), h) at r.so))

-- the way out of a `?`
pub told_err : (r : Result Unit Fault) (values : List ℕ) (next : ℕ) → IsErr r → told r values next ≡ fault next
told_err (Ok u) values next h = cc h
told_err (Err f) values next h = refl
