-- The text of a table, put line by line: the first line, then that of each word.
use mathlib.Core.List.{List, [], ◌++◌, append_assoc, append-nil}
use mathlib.Core.Path.{◌≡◌, sym, ap, ◌∙◌}
use Prim.Native.Nat.{ℕ, suc, ◌+◌, ◌*◌, ◌%◌, ◌≤◌, ◌<◌}
use native.Mathlib.Nat.{mod-lt, zero-mod, mod-add-mod}
use native.Mathlib.Numerals.{add-one}
use native.Mathlib.Omega.{arith}
use lib.ListN.{length, get_or, take, length-append}
use lib.Seq.{length-take-le, get_or-take}
use Rattle.law.specs.Text.{rows_key, row_keys}
use Rattle.law.specs.Reading.{text_of}
use Rattle.law.proofs.TextWrite.{row_lines, rows_none, rows_next, rows_most, text_rows}
use Rattle.line.specs.Put.{line_of}

-- words in whole rows, whose text has room
pub record Whole (words : List ℕ) (rows width : ℕ) : Type 0 where
  pub whole : length words ≡ rows * width
  pub some : 0 < width
  pub narrow : width ≤ 7
  pub fits : length (text_of (take width row_keys) words) ≤ 1512

module _ {words : List ℕ} {rows width : ℕ} (w : Whole words rows width) where
  wide : length (take width row_keys) ≡ width
  wide = length-take-le width row_keys w.narrow

  whole_rows : length words ≡ rows * length (take width row_keys)
  whole_rows = w.whole ∙ ap (λ (z : ℕ). rows * z) (sym wide)

  lined : text_of (take width row_keys) words ≡ line_of rows_key rows ++ row_lines (take width row_keys) words rows (length words)
  unfolding line_of
  lined = text_rows (take width row_keys) words rows whole_rows (omega (arith, wide, w.some))

  lined_long : length (text_of (take width row_keys) words) ≡ length (line_of rows_key rows) + length (row_lines (take width row_keys) words rows (length words))
  lined_long = ap length lined ∙ length-append (line_of rows_key rows) (row_lines (take width row_keys) words rows (length words))

  pub first_fits : length (line_of rows_key rows) ≤ 1512
  first_fits = omega (arith, lined_long, w.fits)

-- the lines of the first l words stand behind the first line
pub record PutSo (words : List ℕ) (rows width : ℕ) (page : List ℕ) (l j : ℕ) : Type 0 where
  pub asked : Whole words rows width
  pub in_row : j ≡ l % width
  pub bytes : page ≡ line_of rows_key rows ++ row_lines (take width row_keys) words rows l

pub put_start : {words page : List ℕ} {rows width : ℕ} → Whole words rows width → page ≡ line_of rows_key rows → PutSo words rows width page 0 0
put_start {words} {page} {rows} {width} w e =
    record {
      asked = w;
      in_row = sym (zero-mod width);
      bytes = e ∙ sym (append-nil (line_of rows_key rows))
          ∙ ap (λ (z : List ℕ). line_of rows_key rows ++ z) (sym (rows_none (take width row_keys) words rows));
    }

module _ {words : List ℕ} {rows width : ℕ} {page : List ℕ} {l j : ℕ} (p : PutSo words rows width page l j) where
  module _ (h : l < length words) where
    -- the line that is due
    abbrev line : List ℕ
    line = line_of (get_or row_keys j []) (get_or words l 0)

    next : row_lines (take width row_keys) words rows (suc l) ≡ row_lines (take width row_keys) words rows l ++ line
    unfolding line_of
    next =
        rows_next (take width row_keys) words rows (whole_rows p.asked) l h
        ∙ ap (λ (z : ℕ). row_lines (take width row_keys) words rows l ++ line_of (get_or (take width row_keys) (l % z) []) (get_or words l 0)) (wide p.asked)
        ∙ ap (λ (z : List ℕ). row_lines (take width row_keys) words rows l ++ line_of z (get_or words l 0))
        (get_or-take width row_keys (l % width) [] (mod-lt l p.asked.some) ∙ ap (λ (z : ℕ). get_or row_keys z []) (sym p.in_row))

    pub put_next : {new : List ℕ} {j' : ℕ} → new ≡ page ++ line → j' ≡ (j + 1) % width → PutSo words rows width new (l + 1) j'
    put_next e q =
        record {
          asked = p.asked;
          in_row = q ∙ ap (λ (z : ℕ). (z + 1) % width) p.in_row ∙ mod-add-mod l width 1;
          bytes = rw add-one
              (e ∙ ap (λ (z : List ℕ). z ++ line) p.bytes
              ∙ append_assoc (line_of rows_key rows) (row_lines (take width row_keys) words rows l) line
              ∙ ap (λ (z : List ℕ). line_of rows_key rows ++ z) (sym next));
        }

    pub due_fits : length page + length line ≤ 1512
    due_fits =
        omega (
          arith,
          p.asked.fits,
          lined_long p.asked,
          simp length-append at (ap length p.bytes),
          simp length-append at (ap length next),
          rows_most (take width row_keys) words rows (whole_rows p.asked) (suc l) h,
        )

  pub in_width : j < width
  in_width = omega (arith, p.in_row, mod-lt l p.asked.some)

  pub put_all : l ≡ length words → page ≡ text_of (take width row_keys) words
  put_all e =
      p.bytes ∙ ap (λ (z : ℕ). line_of rows_key rows ++ row_lines (take width row_keys) words rows z) e ∙ sym (lined p.asked)
