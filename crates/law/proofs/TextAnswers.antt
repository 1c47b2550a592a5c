-- The answers of reading and of writing a task text, one law for each way out, and what the lent room holds then.
use mathlib.Core.List.{List, [], ◌∷◌}
use mathlib.Core.Path.{◌≡◌, refl, sym, ap, ◌∙◌}
use Prim.Native.Nat.{ℕ, ◌*◌, ◌/◌, ◌%◌, ◌≤◌, ◌<◌}
use native.Mathlib.Omega.{arith}
use lib.Dec.{leb, ltb, eqb}
use lib.ListN.{length}
use borrow.Author.Tests.{ltb-true, leb-true, lt-ltb, le-ltb, le-leb, lt-leb, eq-eqb}
use Rattle.law.specs.Refusal.{accepted, refused, head}
use Rattle.law.specs.Table.{Task, width, table_of, row_fault, faulty, rows_checked, checked}
use Rattle.law.specs.Text.{rows_key, row_keys}
use Rattle.law.specs.Reading.{Found, found, fault, line_at, rows_at, text_read, words_read, rows_found, first_found, text_answer, read_answer, filled, read_room, text_of, put_answer, put_room, write_answer, write_room}
use Rattle.law.proofs.Table.{passed_on}
use Rattle.law.proofs.Verdict.{after_accepted}

-- words in whole rows, 1 to 32 of them, are checked by their rows alone
pub checked_of_rows : (words : List ℕ) (n : ℕ) → length words ≡ n * width → 1 ≤ n → n ≤ 32 → checked words ≡ rows_checked (table_of words)
unfolding checked
checked_of_rows words n e low high =
    let whole : length words % width ≡ 0 = omega arith in
    let many : length words / width ≡ n = omega arith in
    rw (eq-eqb (length words % width) 0 whole, lt-ltb 0 (length words / width) (omega arith), le-leb (length words / width) 32 (omega arith))

-- the words of a text are those that its rows give, whatever the first line says
pub words_read_lem : (keys : List (List ℕ)) (text : List ℕ) {values words : List ℕ} {next last : ℕ} → line_at text 0 rows_key ≡ found values next
    → rows_at keys text next (head values) ≡ found words last → words_read keys text ≡ words
unfolding words_read text_read
words_read_lem keys text line rows = rw (line, rows)

-- a text's lines: "the first line (12), its value (2, 3), the remaining lines (12)"
module _ (keys : List (List ℕ)) (text : List ℕ) where
  pub text_twelve_first : {j : ℕ} → line_at text 0 rows_key ≡ fault j → text_answer keys text ≡ refused 12 (j ∷ [])
  unfolding text_answer
  text_twelve_first e = rw e

  module _ {values : List ℕ} {next : ℕ} (line : line_at text 0 rows_key ≡ found values next) where
    pub text_two : head values ≡ 0 → text_answer keys text ≡ refused 2 []
    unfolding text_answer
    text_two e = rw (line, le-ltb 0 (head values) (omega arith))

    pub text_three : 32 < head values → text_answer keys text ≡ refused 3 []
    unfolding text_answer
    text_three h = rw (line, lt-ltb 0 (head values) (omega arith), lt-leb (head values) 32 h)

    module _ (low : 1 ≤ head values) (high : head values ≤ 32) where
      pub text_twelve : {j : ℕ} → rows_at keys text next (head values) ≡ fault j → text_answer keys text ≡ refused 12 (j ∷ [])
      unfolding text_answer
      text_twelve e = rw (line, lt-ltb 0 (head values) low, le-leb (head values) 32 high, e)

      pub text_accepted : {words : List ℕ} {last : ℕ} → rows_at keys text next (head values) ≡ found words last
          → text_answer keys text ≡ accepted (head values ∷ [])
      unfolding text_answer
      text_accepted e = rw (line, lt-ltb 0 (head values) low, le-leb (head values) 32 high, e)

-- what accepted lines say: they came all the way
pub record TextBy (keys : List (List ℕ)) (text vs : List ℕ) : Type 0 where
  pub values : List ℕ
  pub next : ℕ
  pub last : ℕ
  pub line : line_at text 0 rows_key ≡ found values next
  pub low : 1 ≤ head values
  pub high : head values ≤ 32
  pub rows : rows_at keys text next (head values) ≡ found (words_read keys text) last
  pub many : vs ≡ head values ∷ []

pub text_says : (keys : List (List ℕ)) (text vs : List ℕ) → text_answer keys text ≡ accepted vs → TextBy keys text vs
unfolding text_answer
text_says keys text vs e = first (line_at text 0 rows_key) refl e
  where
    rest : (values : List ℕ) (next : ℕ) → line_at text 0 rows_key ≡ found values next → 1 ≤ head values → head values ≤ 32
        → (f : Found) → rows_at keys text next (head values) ≡ f → rows_found (head values) f ≡ accepted vs → TextBy keys text vs
    rest values next line low high (found words last) rows q =
        record {
          values = values;
          next = next;
          last = last;
          line = line;
          low = low;
          high = high;
          rows = rw (words_read_lem keys text line rows) rows;
          many = cc q;
        }
    rest values next line low high (fault j) rows q = absurd (let z : ◌≡◌ {A = ℕ} 0 1 = cc in omega arith)

    first : (f : Found) → line_at text 0 rows_key ≡ f → first_found keys text f ≡ accepted vs → TextBy keys text vs
    first (found values next) line q =
        let some = passed_on (ltb 0 (head values)) 2 [] vs _ q in
        let few = passed_on (leb (head values) 32) 3 [] vs _ some.1 in
        rest values next line (ltb-true 0 (head values) some.0) (leb-true (head values) 32 few.0) _ refl few.1
    first (fault j) line q = absurd (let z : ◌≡◌ {A = ℕ} 0 1 = cc in omega arith)

-- reading: the lines, then "rows (4 to 10), 13"
module _ (text : List ℕ) (room : ℕ) where
  pub read_lines : {n : ℕ} {also : List ℕ} → text_answer row_keys text ≡ refused n also → read_answer text room ≡ refused n also
  unfolding read_answer
  read_lines e = rw e

  module _ {rows : List ℕ} (lines : text_answer row_keys text ≡ accepted rows) where
    pub read_rows : {n : ℕ} {also : List ℕ} → rows_checked (table_of (words_read row_keys text)) ≡ refused n also
        → read_answer text room ≡ refused n also
    unfolding read_answer
    read_rows e = rw (lines, e)

    module _ {vs : List ℕ} (clean : rows_checked (table_of (words_read row_keys text)) ≡ accepted vs) where
      pub read_short : room < length (words_read row_keys text) → read_answer text room ≡ refused 13 []
      unfolding read_answer
      read_short h = rw (lines, clean, lt-leb (length (words_read row_keys text)) room h)

      pub read_accepted : length (words_read row_keys text) ≤ room
          → read_answer text room ≡ accepted (length (table_of (words_read row_keys text)) ∷ [])
      unfolding read_answer
      read_accepted h = rw (lines, clean, le-leb (length (words_read row_keys text)) room h)

-- rows that are accepted give their number
pub rows_give : (tasks : List Task) (vs : List ℕ) → rows_checked tasks ≡ accepted vs → vs ≡ length tasks ∷ []
unfolding rows_checked
rows_give tasks vs e =
    let p = passed_on (eqb (faulty tasks) (length tasks)) (row_fault tasks (faulty tasks)) (faulty tasks ∷ []) vs _ e in
    cc p.1

-- what an accepted reading says: it came all the way
pub record ReadBy (text : List ℕ) (room : ℕ) (vs : List ℕ) : Type 0 where
  pub ns : List ℕ
  pub lines : text_answer row_keys text ≡ accepted ns
  pub clean : rows_checked (table_of (words_read row_keys text)) ≡ accepted vs
  pub fits : length (words_read row_keys text) ≤ room
  pub many : vs ≡ length (table_of (words_read row_keys text)) ∷ []

pub read_says : (text : List ℕ) (room : ℕ) (vs : List ℕ) → read_answer text room ≡ accepted vs → ReadBy text room vs
unfolding read_answer
read_says text room vs e =
    let words = words_read row_keys text in
    let l = after_accepted (text_answer row_keys text) _ vs e in
    let a = after_accepted (rows_checked (table_of words)) _ vs l.2 in
    let r = passed_on (leb (length words) room) 13 [] vs _ a.2 in
    let many : length (table_of words) ∷ [] ≡ vs = cc r.1 in
    record {
      ns = l.0;
      lines = l.1;
      clean = a.1 ∙ ap accepted (rows_give (table_of words) a.0 a.1 ∙ many);
      fits = leb-true (length words) room r.0;
      many = sym many;
    }

-- the room: filled from the start by an accepted reading, else as it was
pub read_filled : (text room : List ℕ) {vs : List ℕ} → read_answer text (length room) ≡ accepted vs
    → read_room text room ≡ filled (words_read row_keys text) room
unfolding read_room
read_filled text room e = rw e

pub read_kept : (text room : List ℕ) {n : ℕ} {also : List ℕ} → read_answer text (length room) ≡ refused n also → read_room text room ≡ room
unfolding read_room
read_kept text room e = rw e

-- a text put into a room: 13, else its length; the room is filled, or as it was
module _ (text : List ℕ) (room : ℕ) where
  pub put_short : room < length text → put_answer text room ≡ refused 13 []
  unfolding put_answer
  put_short h = rw (lt-leb (length text) room h)

  pub put_accepted : length text ≤ room → put_answer text room ≡ accepted (length text ∷ [])
  unfolding put_answer
  put_accepted h = rw (le-leb (length text) room h)

  pub put_says : {vs : List ℕ} → put_answer text room ≡ accepted vs → (length text ≤ room) × (vs ≡ length text ∷ [])
  unfolding put_answer
  put_says {vs} e =
      let r = passed_on (leb (length text) room) 13 [] vs _ e in
      (leb-true (length text) room r.0, cc r.1)

pub put_filled : (text room : List ℕ) {vs : List ℕ} → put_answer text (length room) ≡ accepted vs → put_room text room ≡ filled text room
unfolding put_room
put_filled text room e = rw e

pub put_kept : (text room : List ℕ) {n : ℕ} {also : List ℕ} → put_answer text (length room) ≡ refused n also → put_room text room ≡ room
unfolding put_room
put_kept text room e = rw e

-- writing: the refusals of the table, then 13
module _ (words : List ℕ) (room : ℕ) where
  pub write_refused : {n : ℕ} {also : List ℕ} → checked words ≡ refused n also → write_answer words room ≡ refused n also
  unfolding write_answer
  write_refused e = rw e

  pub write_put : {vs : List ℕ} → checked words ≡ accepted vs → write_answer words room ≡ put_answer (text_of row_keys words) room
  unfolding write_answer
  write_put e = rw e

-- what an accepted writing says
pub record WrittenBy (words : List ℕ) (room : ℕ) (vs : List ℕ) : Type 0 where
  pub ws : List ℕ
  pub good : checked words ≡ accepted ws
  pub fits : length (text_of row_keys words) ≤ room
  pub long : vs ≡ length (text_of row_keys words) ∷ []

pub write_says : (words : List ℕ) (room : ℕ) (vs : List ℕ) → write_answer words room ≡ accepted vs → WrittenBy words room vs
unfolding write_answer
write_says words room vs e =
    let a = after_accepted (checked words) _ vs e in
    let r = put_says (text_of row_keys words) room a.2 in
    record { ws = a.0; good = a.1; fits = r.0; long = r.1 }

pub write_filled : (words room : List ℕ) {vs : List ℕ} → write_answer words (length room) ≡ accepted vs
    → write_room words room ≡ filled (text_of row_keys words) room
unfolding write_room
write_filled words room e = rw e

pub write_kept : (words room : List ℕ) {n : ℕ} {also : List ℕ} → write_answer words (length room) ≡ refused n also → write_room words room ≡ room
unfolding write_room
write_kept words room e = rw e

-- the room of an accepted table's text is that of the text
pub write_room_lem : (words room : List ℕ) {vs : List ℕ} → checked words ≡ accepted vs → write_room words room ≡ put_room (text_of row_keys words) room
unfolding write_room put_room write_answer
write_room_lem words room e = rw e
