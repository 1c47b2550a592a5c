-- A whole text: reading finds exactly the texts of the form, and the place of a fault is the one of document 01's rule, to the byte.
use mathlib.Core.Bool.{Bool, true, false}
use mathlib.Core.List.{List, [], ◌∷◌, ◌++◌, map, append_assoc, append-nil}
use mathlib.Core.Logic.{inl, inr, ⊎_elim}
use mathlib.Core.Path.{◌≡◌, refl, sym, ap, ◌∙◌, subst}
use Prim.Native.Nat.{ℕ, suc, ◌+◌, ◌≤◌, ◌<◌}
use native.Mathlib.Decide.{dec_lt, ℕ_discrete}
use native.Mathlib.Omega.{arith}
use lib.ListN.{length, take, drop, length-append, length-take, length-map, take-append-drop, drop_of_length-le}
use lib.Seq.{take-take, take_at, length-take-le}
use lib.Dec.{leb, ltb}
use borrow.Author.Tests.{eq-eqb, ne_eqb}
use Rattle.law.specs.Sums.{every}
use Rattle.law.specs.Refusal.{Answer, accepted, refused, or_refused, after, head, code_of, value_of}
use Rattle.law.specs.Table.{Task, table_of, rows_checked}
use Rattle.law.specs.Text.{rows_key, row_keys, keys_of, is_value, number_of, lines, IsText, Begins, FaultAt}
use Rattle.law.specs.Reading.{found, fault, values_of, line_at, lines_at, rows_at, text_read, words_read, rows_found, first_found, text_answer, read_answer}
use Rattle.law.proofs.Tests.{both_left, both_right, both_true}
use Rattle.law.proofs.Table.{rows_number, row_number_not}
use Rattle.law.proofs.TextAnswers.{text_twelve_first, text_twelve, read_lines}
use Rattle.law.proofs.TextLine.{is_key, reached, Line, line_whole, line_sound, line_stuck, line_local}
use Rattle.law.proofs.TextLines.{came, fell, outcome, came_fell, line_ahead, Lines, lines_whole, lines_sound, lines_stuck, whole_behind, line_before, zeros, zeros_good, zeros_many, lines_front, keys_bytes, lines_low, lines_local}

-- the first line, then the rows to the end of the text
module _ (keys : List (List ℕ)) (text : List ℕ) where
  pub read_cut : (j : ℕ) → line_at text 0 rows_key ≡ fault j → text_read keys text ≡ fault j
  unfolding text_read
  read_cut j e = rw e

  pub read_on : (values : List ℕ) (next : ℕ) → line_at text 0 rows_key ≡ found values next
      → text_read keys text ≡ rows_at keys text next (head values)
  unfolding text_read
  read_on values next e = rw e

  pub rows_cut : (at n j : ℕ) → lines_at text at (keys_of keys n) ≡ fault j → rows_at keys text at n ≡ fault j
  unfolding rows_at
  rows_cut at n j e = rw e

  pub rows_end : (at n next : ℕ) (values : List ℕ) → lines_at text at (keys_of keys n) ≡ found values next → next ≡ length text
      → rows_at keys text at n ≡ found values next
  unfolding rows_at
  rows_end at n next values e h = rw (e, eq-eqb next (length text) h)

  pub rows_more : (at n next : ℕ) (values : List ℕ) → lines_at text at (keys_of keys n) ≡ found values next → (next ≡ length text → ⊥)
      → rows_at keys text at n ≡ fault next
  unfolding rows_at
  rows_more at n next values e h = rw (e, ne_eqb next (length text) h)

-- a text of the form is read whole
module _ {keys : List (List ℕ)} {text : List ℕ} (t : IsText keys text) where
  apart : drop 0 text ≡ rows_key ++ (t.rows ++ (10 ∷ lines (keys_of keys (number_of t.rows)) t.values))
  unfolding lines
  apart = t.same

  pub text_first : line_at text 0 rows_key ≡ found (number_of t.rows ∷ []) (6 + length t.rows)
  unfolding every
  text_first =
      line_whole text 0 rows_key t.rows _ (both_left _ _ t.each) apart ∙ ap (λ (z : ℕ). found (number_of t.rows ∷ []) z) (omega arith)

  behind_first : drop (6 + length t.rows) text ≡ lines (keys_of keys (number_of t.rows)) t.values
  behind_first =
      let e : 6 + length t.rows ≡ 0 + (5 + suc (length t.rows)) = omega arith in
      ap (λ (z : ℕ). drop z text) e ∙ line_ahead text 0 rows_key t.rows _ apart

  pub text_whole : text_read keys text ≡ found (map number_of t.values) (length text)
  unfolding every
  text_whole =
      read_on keys text _ _ text_first
      ∙ rows_end keys text _ _ _ _
      (lines_whole text (6 + length t.rows) (keys_of keys (number_of t.rows)) t.values []
      (both_right (is_value t.rows) _ t.each) t.many (behind_first ∙ sym (append-nil _))) ends
      ∙ ap (found (map number_of t.values)) ends
    where
      ends : 6 + length t.rows + length (lines (keys_of keys (number_of t.rows)) t.values) ≡ length text
      ends = omega (arith, simp length-append at (ap length apart))

-- a first line and the lines of its rows are a text
form_of : {keys : List (List ℕ)} {text : List ℕ} (n : ℕ) (rows : List ℕ) (values : List (List ℕ)) → number_of rows ≡ n → is_value rows ≡ true
    → every is_value values ≡ true → length values ≡ length (keys_of keys n)
    → text ≡ rows_key ++ (rows ++ (10 ∷ lines (keys_of keys n) values)) → IsText keys text
unfolding lines every
form_of n rows values count first others many same =
    record {
      rows = rows;
      values = values;
      each = both_true _ _ first others;
      many = rw count many;
      same = rw count same;
    }

-- what is read is a text of the form, with the words that were read
pub record TextFound (keys : List (List ℕ)) (text words : List ℕ) (next : ℕ) : Type 0 where
  pub ends : next ≡ length text
  pub form : IsText keys text
  pub are : map number_of form.values ≡ words
  pub many : length words ≡ length (keys_of keys (number_of form.rows))
  pub counted : line_at text 0 rows_key ≡ found (number_of form.rows ∷ []) (6 + length form.rows)

module _ (keys : List (List ℕ)) (text : List ℕ) where
  lines_text : {count words : List ℕ} {mid next : ℕ} (first : Line text 0 rows_key count mid)
      → Lines text mid (keys_of keys (head count)) words next → next ≡ length text → IsText keys text
  lines_text {count} {mid} {next} first others e =
      form_of (head count) first.digits others.digits (sym (ap head first.word)) first.good others.good others.many
      (first.there ∙ ap (λ (l : List ℕ). rows_key ++ (first.digits ++ (10 ∷ l))) all)
    where
      all : drop mid text ≡ lines (keys_of keys (head count)) others.digits
      all =
          others.there ∙ ap (λ (l : List ℕ). lines (keys_of keys (head count)) others.digits ++ l) (drop_of_length-le text {i = next} (omega arith))
          ∙ append-nil _

  pub text_form : (words : List ℕ) (next : ℕ) → text_read keys text ≡ found words next → IsText keys text
  text_form words next e =
      elim (outcome (line_at text 0 rows_key)) [
        | fell j f ↦ absurd (came_fell e (read_cut keys text j f))
        | came count mid f ↦ elim (outcome (lines_at text mid (keys_of keys (head count)))) [
          | fell j g ↦ absurd (came_fell e (read_on keys text count mid f ∙ rows_cut keys text mid _ j g))
          | came ws last g ↦ elim (ℕ_discrete last (length text)) [
            | no h ↦ absurd (came_fell e (read_on keys text count mid f ∙ rows_more keys text mid _ last ws g h))
            | yes h ↦
                let first = line_sound text 0 rows_key count mid f in
                lines_text first (lines_sound text mid _ ws last first.fits g) h
          ]
        ]
      ]

  pub text_sound : (words : List ℕ) (next : ℕ) → text_read keys text ≡ found words next → TextFound keys text words next
  text_sound words next e =
      let t = text_form words next e in
      let same : found (map number_of t.values) (length text) ≡ found words next = sym (text_whole t) ∙ e in
      record {
        ends = sym (ap reached same);
        form = t;
        are = ap values_of same;
        many = sym (ap length (ap values_of same)) ∙ length-map t.values number_of ∙ t.many;
        counted = text_first t;
      }

-- the three places where a text can fault: in its first line, in a line of its rows, behind them
data Faulted (keys : List (List ℕ)) (text : List ℕ) (j : ℕ) : Type 0 where
  at_first : line_at text 0 rows_key ≡ fault j → Faulted keys text j
  in_rows : (count : List ℕ) (mid : ℕ) → line_at text 0 rows_key ≡ found count mid → lines_at text mid (keys_of keys (head count)) ≡ fault j
      → Faulted keys text j
  past_rows : (count : List ℕ) (mid : ℕ) (words : List ℕ) → line_at text 0 rows_key ≡ found count mid
      → lines_at text mid (keys_of keys (head count)) ≡ found words j → (j ≡ length text → ⊥) → Faulted keys text j

-- the good part before a fault, and what makes it a text
record TextStuck (keys : List (List ℕ)) (text : List ℕ) (j : ℕ) : Type 0 where
  high : j ≤ length text
  rest : List ℕ
  form : IsText keys (take j text ++ rest)

rows_key_lem : is_key rows_key ≡ true
unfolding every
rows_key_lem = refl

module _ (keys : List (List ℕ)) (text : List ℕ) (j : ℕ) where
  faulted : text_read keys text ≡ fault j → Faulted keys text j
  faulted e =
      elim (outcome (line_at text 0 rows_key)) [
        | fell i f ↦ at_first (f ∙ sym (read_cut keys text i f) ∙ e)
        | came count mid f ↦ elim (outcome (lines_at text mid (keys_of keys (head count)))) [
          | fell i g ↦ in_rows count mid f (g ∙ sym (read_on keys text count mid f ∙ rows_cut keys text mid _ i g) ∙ e)
          | came ws last g ↦ elim (ℕ_discrete last (length text)) [
            | no h ↦
                let all = read_on keys text count mid f ∙ rows_more keys text mid _ last ws g h in
                let same : last ≡ j = omega (arith, ap reached (sym all ∙ e)) in
                past_rows count mid ws f (g ∙ ap (found ws) same) (λ q. h (same ∙ q))
            | yes h ↦ absurd (came_fell (read_on keys text count mid f ∙ rows_end keys text mid _ last ws g h) e)
          ]
        ]
      ]

  text_stuck : every is_key keys ≡ true → Faulted keys text j → TextStuck keys text j
  text_stuck bytes f =
      elim f [
        | at_first e ↦
            let s = line_stuck text 0 rows_key rows_key_lem (omega arith) j e in
            let n = number_of s.digits in
            let others = zeros (keys_of keys n) in
            record {
              high = s.high;
              rest = s.rest ++ lines (keys_of keys n) others;
              form = form_of n s.digits others refl s.good (zeros_good (keys_of keys n)) (zeros_many (keys_of keys n))
                  (whole_behind s (lines (keys_of keys n) others));
            }
        | in_rows count mid e g ↦
            let first = line_sound text 0 rows_key count mid e in
            let s = lines_stuck text mid _ j (keys_bytes keys (head count) bytes) first.fits g in
            record {
              high = s.high;
              rest = s.rest;
              form = form_of (head count) first.digits s.digits (sym (ap head first.word)) first.good s.good s.many
                  (s.whole ∙ line_before first (lines (keys_of keys (head count)) s.digits));
            }
        | past_rows count mid words e g h ↦
            let first = line_sound text 0 rows_key count mid e in
            let l = lines_sound text mid _ words j first.fits g in
            record {
              high = l.fits;
              rest = [];
              form = form_of (head count) first.digits l.digits (sym (ap head first.word)) first.good l.good l.many
                  (append-nil (take j text) ∙ lines_front l ∙ line_before first (lines (keys_of keys (head count)) l.digits));
            }
      ]

  -- a text with the same beginning has the same fault
  text_local : (other : List ℕ) → Faulted keys text j → j < length text → take (suc j) other ≡ take (suc j) text
      → text_read keys other ≡ fault j
  text_local other f h same =
      elim f [
        | at_first e ↦ read_cut keys other j (line_local text 0 rows_key other (suc j) same (omega (arith, ap reached e)) ∙ e)
        | in_rows count mid e g ↦
            let past = lines_low text mid (keys_of keys (head count)) in
            let first = line_local text 0 rows_key other (suc j) same (omega (arith, ap reached e, ap reached g)) in
            let others = lines_local text other (suc j) same mid (keys_of keys (head count)) (omega (arith, ap reached g)) in
            read_on keys other count mid (first ∙ e) ∙ rows_cut keys other mid _ j (others ∙ g)
        | past_rows count mid words e g q ↦
            let past = lines_low text mid (keys_of keys (head count)) in
            let first = line_local text 0 rows_key other (suc j) same (omega (arith, ap reached e, ap reached g)) in
            let others = lines_local text other (suc j) same mid (keys_of keys (head count)) (omega (arith, ap reached g)) in
            read_on keys other count mid (first ∙ e)
            ∙ rows_more keys other mid _ j words (others ∙ g)
            (λ ends. omega (arith, length-take (suc j) other, length-take (suc j) text, ap length same))
      ]

-- what begins a beginning begins the same text
begins_shorter : {keys : List (List ℕ)} (text rest : List ℕ) (i j : ℕ) → i ≤ j → IsText keys (take j text ++ rest)
    → Begins keys (take i text)
begins_shorter {keys} text rest i j h t =
    record { rest = drop i (take j text) ++ rest; text = subst (λ (l : List ℕ). IsText keys l) again t }
  where
    again : take j text ++ rest ≡ take i text ++ (drop i (take j text) ++ rest)
    again =
        ap (λ (l : List ℕ). l ++ rest) (sym (take-append-drop i (take j text)) ∙ ap (λ (l : List ℕ). l ++ drop i (take j text)) (take-take i j text h))
        ∙ append_assoc (take i text) (drop i (take j text)) rest

-- a text of the form begins with each of its beginnings
begins_with : {keys : List (List ℕ)} {text : List ℕ} (i : ℕ) → IsText keys text → Begins keys (take i text)
begins_with {keys} {text} i t =
    record { rest = drop i text; text = subst (λ (l : List ℕ). IsText keys l) (sym (take-append-drop i text)) t }

-- from the rule alone: a text has one fault at most, and a text of the form has none
pub fault_high : {keys : List (List ℕ)} {text : List ℕ} {j : ℕ} → FaultAt keys text j → j ≤ length text
fault_high f = ⊎_elim (λ c. omega arith) (λ c. omega arith) f.here

fault_not_before : {keys : List (List ℕ)} {text : List ℕ} {i j : ℕ} → FaultAt keys text i → FaultAt keys text j → i < j → ⊥
fault_not_before {i} f g h = ⊎_elim (λ c. c.1 (g.before i h)) (λ c. omega (arith, c.0, fault_high g)) f.here

pub fault_once : {keys : List (List ℕ)} {text : List ℕ} {i j : ℕ} → FaultAt keys text i → FaultAt keys text j → i ≡ j
fault_once {i} {j} f g =
    elim (dec_lt i j) [
      | yes h ↦ absurd (fault_not_before f g h)
      | no h ↦ elim (dec_lt j i) [
        | yes l ↦ absurd (fault_not_before g f l)
        | no l ↦ omega arith
      ]
    ]

pub form_faultless : {keys : List (List ℕ)} {text : List ℕ} {j : ℕ} → IsText keys text → FaultAt keys text j → ⊥
form_faultless {j} t f = ⊎_elim (λ c. c.1 (begins_with (suc j) t)) (λ c. c.1 t) f.here

-- reading finds the place of the rule
module _ (keys : List (List ℕ)) (bytes : every is_key keys ≡ true) (text : List ℕ) (j : ℕ) where
  pub place_sound : text_read keys text ≡ fault j → FaultAt keys text j
  place_sound e =
      record {
        before = λ i h. begins_shorter text s.rest (suc i) j h s.form;
        here = elim (dec_lt j (length text)) [
          | yes h ↦ inl (
            h,
            λ b. came_fell (text_whole b.text)
                (text_local keys text j _ way h (take_at (take (suc j) text) b.rest (suc j) (length-take-le (suc j) text h))),
          )
          | no h ↦ inr (omega (arith, s.high), λ t. came_fell (text_whole t) e)
        ];
      }
    where
      way : Faulted keys text j
      way = faulted keys text j e

      s : TextStuck keys text j
      s = text_stuck keys text j bytes way

pub place_exact : (keys : List (List ℕ)) (bytes : every is_key keys ≡ true) (text : List ℕ) (j : ℕ) → FaultAt keys text j
    → text_read keys text ≡ fault j
place_exact keys bytes text j f =
    elim (outcome (text_read keys text)) [
      | came words next e ↦ absurd (form_faultless (text_form keys text words next e) f)
      | fell i e ↦ e ∙ ap fault (fault_once (place_sound keys bytes text i e) f)
    ]

-- the answers of reading: number 12 comes with the place of the rule
pub row_keys_lem : every is_key row_keys ≡ true
unfolding every
row_keys_lem = refl

-- another number is not 12
passed_by : (b : Bool) (n : ℕ) (also : List ℕ) (next : Answer) → (n ≡ 12 → ⊥) → or_refused b (refused n []) next ≡ refused 12 also
    → next ≡ refused 12 also
passed_by true n also next h e = e
passed_by false n also next h e = absurd (h (ap code_of e))

rows_twelve : (keys : List (List ℕ)) (text : List ℕ) (at n j : ℕ) → rows_found n (rows_at keys text at n) ≡ refused 12 (j ∷ [])
    → rows_at keys text at n ≡ fault j
rows_twelve keys text at n j e =
    elim (outcome (rows_at keys text at n)) [
      | came words next f ↦ absurd (omega (arith, ap code_of (sym (ap (rows_found n) f) ∙ e)))
      | fell i f ↦ f ∙ ap fault (ap value_of (sym (ap (rows_found n) f) ∙ e))
    ]

twelve_read : (keys : List (List ℕ)) (text : List ℕ) (j : ℕ) → text_answer keys text ≡ refused 12 (j ∷ []) → text_read keys text ≡ fault j
unfolding text_answer
twelve_read keys text j e =
    elim (outcome (line_at text 0 rows_key)) [
      | fell i f ↦ read_cut keys text i f ∙ ap fault (ap value_of (sym (ap (first_found keys text) f) ∙ e))
      | came count next f ↦
          let low = passed_by (ltb 0 (head count)) 2 (j ∷ []) _ (λ q. omega arith) (sym (ap (first_found keys text) f) ∙ e) in
          let high = passed_by (leb (head count) 32) 3 (j ∷ []) _ (λ q. omega arith) low in
          read_on keys text count next f ∙ rows_twelve keys text next (head count) j high
    ]

pub lines_twelve : (keys : List (List ℕ)) → every is_key keys ≡ true → (text : List ℕ) (j : ℕ) → text_answer keys text ≡ refused 12 (j ∷ [])
    → FaultAt keys text j
lines_twelve keys bytes text j e = place_sound keys bytes text j (twelve_read keys text j e)

-- what follows accepted lines has another number: so 12 is theirs
pub twelve_before : (a next : Answer) (also : List ℕ) → (next ≡ refused 12 also → ⊥) → after a next ≡ refused 12 also → a ≡ refused 12 also
twelve_before (accepted vs) next also h e = absurd (h e)
twelve_before (refused n more) next also h e = e

pub rows_not_twelve : (tasks : List Task) (also : List ℕ) → rows_checked tasks ≡ refused 12 also → ⊥
rows_not_twelve tasks also e = row_number_not (rows_number tasks 12 also e) (omega arith) (omega arith)

pub table_not_twelve : (tasks : List Task) (next : Answer) (also : List ℕ) → (next ≡ refused 12 also → ⊥)
    → after (rows_checked tasks) next ≡ refused 12 also → ⊥
table_not_twelve tasks next also h e = rows_not_twelve tasks also (twelve_before (rows_checked tasks) next also h e)

pub room_not_twelve : (b : Bool) (vs also : List ℕ) → or_refused b (refused 13 []) (accepted vs) ≡ refused 12 also → ⊥
room_not_twelve b vs also e = omega (arith, ap code_of (passed_by b 13 also (accepted vs) (λ q. omega arith) e))

pub refused_twelve : (text : List ℕ) (room j : ℕ) → read_answer text room ≡ refused 12 (j ∷ []) → FaultAt row_keys text j
unfolding read_answer
refused_twelve text room j e =
    lines_twelve row_keys row_keys_lem text j
    (twelve_before (text_answer row_keys text) _ (j ∷ [])
    (table_not_twelve (table_of (words_read row_keys text)) _ (j ∷ []) (room_not_twelve (leb (length (words_read row_keys text)) room) _ (j ∷ []))) e)

-- the first line that leads to 12: it is not whole, or its number of rows is in its range
pub data LeadsOn (text : List ℕ) : Type 0 where
  broken : (i : ℕ) → line_at text 0 rows_key ≡ fault i → LeadsOn text
  counts : (n next : ℕ) → line_at text 0 rows_key ≡ found (n ∷ []) next → 1 ≤ n → n ≤ 32 → LeadsOn text

pub lines_exact : (keys : List (List ℕ)) → every is_key keys ≡ true → (text : List ℕ) (j : ℕ) → FaultAt keys text j → LeadsOn text
    → text_answer keys text ≡ refused 12 (j ∷ [])
lines_exact keys bytes text j f (broken i e) =
    let same : fault i ≡ fault j = sym (read_cut keys text i e) ∙ place_exact keys bytes text j f in
    text_twelve_first keys text (e ∙ same)
lines_exact keys bytes text j f (counts n next e low high) =
    text_twelve keys text e low high (sym (read_on keys text (n ∷ []) next e) ∙ place_exact keys bytes text j f)

pub twelve_exact : (text : List ℕ) (room j : ℕ) → FaultAt row_keys text j → LeadsOn text → read_answer text room ≡ refused 12 (j ∷ [])
twelve_exact text room j f l = read_lines text room (lines_exact row_keys row_keys_lem text j f l)
