-- The answers of the two converters, one law for each way out, and what the lent room holds then; what an accepted call says.
use mathlib.Core.Bool.{false}
use mathlib.Core.List.{List, [], ◌∷◌}
use mathlib.Core.Path.{◌≡◌, refl, sym, ap, ◌∙◌}
use Prim.Native.Nat.{ℕ, ◌*◌, ◌≤◌, ◌<◌}
use native.Mathlib.Omega.{arith}
use lib.Dec.{leb, eqb}
use lib.ListN.{length}
use borrow.Author.Tests.{le-leb, eqb-true, eq-eqb, ne_eqb}
use Rattle.law.specs.Refusal.{Answer, accepted, refused, or_refused, after, lent, head}
use Rattle.law.specs.Table.{Task, width, table_of, row, is_red, rows_checked, checked}
use Rattle.law.specs.Text.{row_keys, old_width, old_keys}
use Rattle.law.specs.Reading.{words_read, text_answer, read_answer, filled, put_answer, put_room}
use Rattle.law.specs.Carry.{new_words, new_text, old_text, unsaid, sayable, new_checked, old_checked, to_new_answer, to_old_answer, to_new_room, to_old_room}
use Rattle.law.proofs.First.{first_before, first_is, first_high}
use Rattle.law.proofs.Table.{table_length, passed_on}
use Rattle.law.proofs.Verdict.{after_accepted}
use Rattle.law.proofs.TextAnswers.{checked_of_rows, rows_give, read_says, put_says}
use Rattle.law.proofs.TextTrips.{LinesTrip, lines_trip}
use Rattle.law.proofs.Relaid.{relaid_length}

-- ---- from old to new: the lines, the table, 13
module _ (text : List ℕ) where
  pub new_lines : {n : ℕ} {also : List ℕ} → text_answer old_keys text ≡ refused n also → new_checked text ≡ refused n also
  unfolding new_checked
  new_lines e = rw e

  pub new_rows : {ns : List ℕ} → text_answer old_keys text ≡ accepted ns → new_checked text ≡ rows_checked (table_of (new_words text))
  unfolding new_checked
  new_rows e = rw e

  pub new_refused : (room : ℕ) {n : ℕ} {also : List ℕ} → new_checked text ≡ refused n also → to_new_answer text room ≡ refused n also
  unfolding to_new_answer
  new_refused room e = rw e

  pub new_put : (room : ℕ) {vs : List ℕ} → new_checked text ≡ accepted vs → to_new_answer text room ≡ put_answer (new_text text) room
  unfolding to_new_answer
  new_put room e = rw e

pub new_kept : (text room : List ℕ) {n : ℕ} {also : List ℕ} → to_new_answer text (length room) ≡ refused n also → to_new_room text room ≡ room
unfolding to_new_room
new_kept text room e = rw e

pub new_filled : (text room : List ℕ) {vs : List ℕ} → to_new_answer text (length room) ≡ accepted vs → to_new_room text room ≡ filled (new_text text) room
unfolding to_new_room
new_filled text room e = rw e

pub new_room : (text room : List ℕ) → to_new_answer text (length room) ≡ put_answer (new_text text) (length room)
    → to_new_room text room ≡ put_room (new_text text) room
unfolding to_new_room put_room
new_room text room e = ap (λ (a : Answer). lent a (filled (new_text text) room) room) e

-- ---- from new to old: the lines, the table, 17, 13
pub unsaid_high : (tasks : List Task) → unsaid tasks ≤ length tasks
unfolding unsaid
unsaid_high tasks = omega (arith, first_high (λ i. is_red (row tasks i)) 0 (length tasks))

pub sayable_refused : (tasks : List Task) (i : ℕ) → unsaid tasks ≡ i → i < length tasks → sayable tasks ≡ refused 17 (i ∷ [])
unfolding sayable
sayable_refused tasks i e h = rw (e, ne_eqb i (length tasks) (λ q. omega arith))

pub sayable_accepted : (tasks : List Task) → unsaid tasks ≡ length tasks → sayable tasks ≡ accepted (length tasks ∷ [])
unfolding sayable
sayable_accepted tasks e = rw (eq-eqb (unsaid tasks) (length tasks) e)

-- no row of a table that can be said is deeply-red, and a table of such rows can be said
pub sayable_even : (tasks : List Task) (vs : List ℕ) → sayable tasks ≡ accepted vs → (i : ℕ) → i < length tasks → is_red (row tasks i) ≡ false
unfolding sayable unsaid
sayable_even tasks vs e i h =
    let p = passed_on (eqb (unsaid tasks) (length tasks)) 17 (unsaid tasks ∷ []) vs _ e in
    first_before (λ j. is_red (row tasks j)) 0 (length tasks) i (omega arith) (omega (arith, eqb-true (unsaid tasks) (length tasks) p.0))

pub even_sayable : (tasks : List Task) → ((i : ℕ) → i < length tasks → is_red (row tasks i) ≡ false) → sayable tasks ≡ accepted (length tasks ∷ [])
unfolding unsaid
even_sayable tasks h =
    sayable_accepted tasks
    (first_is (λ j. is_red (row tasks j)) 0 (length tasks) (length tasks) (omega arith) (omega arith) (λ l. absurd (omega arith)) (λ i l q. h i q))

module _ (text : List ℕ) where
  abbrev table : List Task
  table = table_of (words_read row_keys text)

  pub old_lines : {n : ℕ} {also : List ℕ} → text_answer row_keys text ≡ refused n also → old_checked text ≡ refused n also
  unfolding old_checked
  old_lines e = rw e

  module _ {ns : List ℕ} (lines : text_answer row_keys text ≡ accepted ns) where
    pub old_rows : {n : ℕ} {also : List ℕ} → rows_checked table ≡ refused n also → old_checked text ≡ refused n also
    unfolding old_checked
    old_rows e = rw (lines, e)

    pub old_said : {vs : List ℕ} → rows_checked table ≡ accepted vs → old_checked text ≡ sayable table
    unfolding old_checked
    old_said e = rw (lines, e)

  -- a room of 224 words is long enough for reading: so reading it so decides the lines and the table
  pub old_unread : {n : ℕ} {also : List ℕ} → read_answer text 224 ≡ refused n also → old_checked text ≡ refused n also
  unfolding read_answer old_checked
  old_unread {n} {also} e = by (text_answer row_keys text) refl e
    where
      words : List ℕ
      words = words_read row_keys text

      fits : Answer
      fits = or_refused (leb (length words) 224) (refused 13 []) (accepted (length table ∷ []))

      rows : (b : Answer) → fits ≡ accepted (length table ∷ []) → after b fits ≡ refused n also → after b (sayable table) ≡ refused n also
      rows (refused m more) f q = q
      rows (accepted vs) f q = absurd (let z : ◌≡◌ {A = ℕ} 0 1 = cc in omega arith)

      by : (a : Answer) → text_answer row_keys text ≡ a → after a (after (rows_checked table) fits) ≡ refused n also
          → after a (after (rows_checked table) (sayable table)) ≡ refused n also
      by (refused m more) l q = q
      by (accepted ns) l q =
          let t = (lines_trip row_keys (omega arith) text ns l).1 in
          rows (rows_checked table) (rw (le-leb (length words) 224 (omega (arith, t.whole, t.high)))) q

  pub old_read : {vs : List ℕ} → read_answer text 224 ≡ accepted vs → old_checked text ≡ sayable table
  old_read {vs} e = let r = read_says text 224 vs e in old_said r.lines r.clean

  pub old_refused : (room : ℕ) {n : ℕ} {also : List ℕ} → old_checked text ≡ refused n also → to_old_answer text room ≡ refused n also
  unfolding to_old_answer
  old_refused room e = rw e

  pub old_put : (room : ℕ) {vs : List ℕ} → old_checked text ≡ accepted vs → to_old_answer text room ≡ put_answer (old_text text) room
  unfolding to_old_answer
  old_put room e = rw e

pub old_kept : (text room : List ℕ) {n : ℕ} {also : List ℕ} → to_old_answer text (length room) ≡ refused n also → to_old_room text room ≡ room
unfolding to_old_room
old_kept text room e = rw e

pub old_filled : (text room : List ℕ) {vs : List ℕ} → to_old_answer text (length room) ≡ accepted vs → to_old_room text room ≡ filled (old_text text) room
unfolding to_old_room
old_filled text room e = rw e

pub old_room : (text room : List ℕ) → to_old_answer text (length room) ≡ put_answer (old_text text) (length room)
    → to_old_room text room ≡ put_room (old_text text) room
unfolding to_old_room put_room
old_room text room e = ap (λ (a : Answer). lent a (filled (old_text text) room) room) e

-- ---- what an accepted call says: it came all the way
-- an old text's words in wider rows
pub new_long : (text : List ℕ) (n : ℕ) → LinesTrip old_keys text n → length (new_words text) ≡ n * width
unfolding new_words
new_long text n t = relaid_length old_width width (words_read old_keys text) n (omega arith) t.whole

-- the table that an old text says
pub record NewTable (text vs : List ℕ) : Type 0 where
  pub n : ℕ
  pub lines : text_answer old_keys text ≡ accepted (n ∷ [])
  pub trip : LinesTrip old_keys text n
  pub long : length (new_words text) ≡ n * width
  pub good : checked (new_words text) ≡ accepted vs
  pub many : vs ≡ n ∷ []

pub new_table : (text vs : List ℕ) → new_checked text ≡ accepted vs → NewTable text vs
unfolding new_checked
new_table text vs e =
    let l = after_accepted (text_answer old_keys text) _ vs e in
    let trip = lines_trip old_keys (omega arith) text l.0 l.1 in
    let t = trip.1 in
    let long = new_long text (head l.0) t in
    let rows : length (table_of (new_words text)) ≡ head l.0 = omega (arith, table_length (new_words text), long) in
    record {
      n = head l.0;
      lines = l.1 ∙ ap accepted trip.0;
      trip = t;
      long = long;
      good = checked_of_rows (new_words text) (head l.0) long t.low t.high ∙ l.2;
      many = rows_give (table_of (new_words text)) vs l.2 ∙ ap (λ (z : ℕ). z ∷ []) rows;
    }

pub record NewBy (text : List ℕ) (room : ℕ) (vs : List ℕ) : Type 0 where
  pub ws : List ℕ
  pub table : NewTable text ws
  pub fits : length (new_text text) ≤ room
  pub wrote : vs ≡ length (new_text text) ∷ []

pub new_says : (text : List ℕ) (room : ℕ) (vs : List ℕ) → to_new_answer text room ≡ accepted vs → NewBy text room vs
unfolding to_new_answer
new_says text room vs e =
    let a = after_accepted (new_checked text) _ vs e in
    let p = put_says (new_text text) room a.2 in
    record { ws = a.0; table = new_table text a.0 a.1; fits = p.0; wrote = p.1 }

-- the table that a new text says, which the old form can say
pub record OldTable (text vs : List ℕ) : Type 0 where
  pub n : ℕ
  pub lines : text_answer row_keys text ≡ accepted (n ∷ [])
  pub trip : LinesTrip row_keys text n
  pub good : checked (words_read row_keys text) ≡ accepted vs
  pub even : (i : ℕ) → i < length (table_of (words_read row_keys text)) → is_red (row (table_of (words_read row_keys text)) i) ≡ false
  pub many : vs ≡ n ∷ []

pub old_table : (text vs : List ℕ) → old_checked text ≡ accepted vs → OldTable text vs
unfolding old_checked sayable
old_table text vs e =
    let words = words_read row_keys text in
    let l = after_accepted (text_answer row_keys text) _ vs e in
    let c = after_accepted (rows_checked (table_of words)) _ vs l.2 in
    let s = passed_on (eqb (unsaid (table_of words)) (length (table_of words))) 17 (unsaid (table_of words) ∷ []) vs _ c.2 in
    let trip = lines_trip row_keys (omega arith) text l.0 l.1 in
    let t = trip.1 in
    let rows : length (table_of words) ≡ head l.0 = omega (arith, table_length words, t.whole) in
    let counted : vs ≡ length (table_of words) ∷ [] = cc s.1 in
    record {
      n = head l.0;
      lines = l.1 ∙ ap accepted trip.0;
      trip = t;
      good = checked_of_rows words (head l.0) t.whole t.low t.high ∙ c.1
          ∙ ap accepted (rows_give (table_of words) c.0 c.1 ∙ sym counted);
      even = sayable_even (table_of words) vs c.2;
      many = counted ∙ ap (λ (z : ℕ). z ∷ []) rows;
    }

pub record OldBy (text : List ℕ) (room : ℕ) (vs : List ℕ) : Type 0 where
  pub ws : List ℕ
  pub table : OldTable text ws
  pub fits : length (old_text text) ≤ room
  pub wrote : vs ≡ length (old_text text) ∷ []

pub old_says : (text : List ℕ) (room : ℕ) (vs : List ℕ) → to_old_answer text room ≡ accepted vs → OldBy text room vs
unfolding to_old_answer
old_says text room vs e =
    let a = after_accepted (old_checked text) _ vs e in
    let p = put_says (old_text text) room a.2 in
    record { ws = a.0; table = old_table text a.0 a.1; fits = p.0; wrote = p.1 }
