-- How long what the converters write is, how small what a refusal also returns, how far they look, and where a fault of a text's lines is.
use mathlib.Core.Bool.{Bool, true, false}
use mathlib.Core.List.{List, [], ◌∷◌, ◌++◌, map}
use mathlib.Core.Path.{◌≡◌, refl, sym, ap, ◌∙◌, subst}
use Prim.Native.Nat.{ℕ, suc, ◌*◌, ◌/◌, ◌≤◌, ◌<◌}
use native.Mathlib.Omega.{arith}
use lib.Dec.{leb, eqb}
use lib.ListN.{length, take, length-append}
use Rattle.law.specs.Sums.{first_from, build, every}
use Rattle.law.specs.Refusal.{Answer, accepted, refused, or_refused, after, lent, head, code_of}
use Rattle.law.specs.Table.{Task, width, task_of, task_at, table_of, Ranged, rows_checked, checked}
use Rattle.law.specs.Text.{row_keys, old_width, old_keys, keys_of, lines, FaultAt}
use Rattle.law.specs.Reading.{words_read, text_answer, decimal_of, decimal, text_of, filled, put_answer}
use Rattle.law.specs.Carry.{relaid, new_words, new_text, old_words, old_text, unsaid, sayable, new_checked, old_checked, to_new_answer, to_old_answer, to_new_room, to_old_room}
use Rattle.law.proofs.Table.{table_length}
use Rattle.law.proofs.Words.{Rows, none, more, task_behind, table_rows, rows_length}
use Rattle.law.proofs.TextDecimal.{decimal_longest}
use Rattle.law.proofs.TextLine.{is_key}
use Rattle.law.proofs.TextAnswers.{checked_of_rows, put_accepted}
use Rattle.law.proofs.TextPlace.{row_keys_lem, lines_twelve, lines_exact, LeadsOn, twelve_before, rows_not_twelve, table_not_twelve, room_not_twelve}
use Rattle.law.proofs.TextReach.{after_short, words_short}
use Rattle.law.proofs.TextLongest.{row_longest, text_longest, longest, longest_accepted}
use Rattle.law.proofs.TextSmall.{also_in, after_also, rows_also, put_also, lines_also}
use Rattle.law.proofs.TextTrips.{lines_trip, table_whole, written_back, written_lines}
use Rattle.law.proofs.Relaid.{relaid_length, relaid_more}
use Rattle.law.proofs.Carry.{new_long, new_lines, new_refused, new_put, new_table, new_says, old_lines, old_said, old_refused, old_put, old_table, old_says, unsaid_high}
use Rattle.law.proofs.CarryTrips.{new_words_back, new_back}

-- ---- the longest old text: a row's six lines have 43 bytes at most
old_rows_longest : (n : ℕ) (words : List ℕ) → Rows n words → ((i : ℕ) → i < n → Ranged (task_at words i))
    → length (lines (keys_of old_keys n) (map decimal (relaid width old_width words))) ≤ n * 43
unfolding keys_of task_of lines
old_rows_longest n words none ranged = omega arith
old_rows_longest n words (more id c t d m k p {n = less} {rest = rest} rows) ranged =
    let one : List ℕ = id ∷ c ∷ t ∷ d ∷ m ∷ k ∷ p ∷ [] in
    let apart = relaid_more width old_width (omega arith) (omega arith) one rest less refl (rows_length rows) in
    let first = row_longest (task_at words 0) (relaid width old_width rest) (keys_of old_keys less) (ranged 0 (omega arith)) in
    let behind = old_rows_longest less rest rows (λ i h. subst Ranged (task_behind id c t d m k p rest i) (ranged (suc i) (omega arith))) in
    omega (arith, ap (λ (ws : List ℕ). length (lines (old_keys ++ keys_of old_keys less) (map decimal ws))) apart, first, behind)

pub old_longest : (words vs : List ℕ) → checked words ≡ accepted vs → length (text_of old_keys (relaid width old_width words)) ≤ 1384
unfolding text_of lines
old_longest words vs e =
    let a = table_rows words vs e in
    let n = length words / width in
    let many : length (relaid width old_width words) / old_width ≡ n = omega (arith, relaid_length width old_width words n (omega arith) a.whole) in
    let rows : List ℕ = lines (keys_of old_keys n) (map decimal (relaid width old_width words)) in
    rw many
    (omega (
      arith,
      length-append (decimal n) (10 ∷ rows),
      decimal_longest 1 n (omega (arith, a.high)),
      old_rows_longest n words a.rows a.ranged,
    ))

-- and one that is written has so many
longest_old : length (text_of old_keys (relaid width old_width (longest 32))) ≡ 1384
unfolding longest relaid build text_of decimal decimal_of lines keys_of
longest_old = refl

longest_said : sayable (table_of (longest 32)) ≡ accepted (32 ∷ [])
unfolding longest sayable unsaid first_from table_of task_of build
longest_said = refl

pub old_reached : to_old_answer (text_of row_keys (longest 32)) 1384 ≡ accepted (1384 ∷ [])
unfolding old_text old_words
old_reached =
    let text = text_of row_keys (longest 32) in
    let w = table_whole (longest 32) (32 ∷ []) longest_accepted in
    let back : words_read row_keys text ≡ longest 32 = written_back w in
    let rows = sym (checked_of_rows (longest 32) _ w.whole w.low w.high) ∙ longest_accepted in
    let long : length (old_text text) ≡ 1384 = ap (λ (ws : List ℕ). length (text_of old_keys (relaid width old_width ws))) back ∙ longest_old in
    old_put text 1384
    (old_said text (written_lines w) (ap (λ (ws : List ℕ). rows_checked (table_of ws)) back ∙ rows)
    ∙ ap (λ (ws : List ℕ). sayable (table_of ws)) back ∙ longest_said)
    ∙ put_accepted (old_text text) 1384 (omega (arith, long)) ∙ ap (λ (z : ℕ). accepted (z ∷ [])) long

-- so no accepted old text is longer
pub new_most : (text : List ℕ) (room : ℕ) (vs : List ℕ) → to_new_answer text room ≡ accepted vs → length text ≤ 1384
unfolding old_text old_words
new_most text room vs e =
    let s = new_says text room vs e in
    let same : text_of old_keys (relaid width old_width (new_words text)) ≡ text =
    ap (λ (ws : List ℕ). text_of old_keys (relaid width old_width ws)) (sym (new_words_back text room vs e)) ∙ new_back text room vs e in
    omega (arith, old_longest (new_words text) s.ws s.table.good, ap length same)

-- ---- the rooms of the two programs are never too short
pub new_enough : (text vs : List ℕ) (room : ℕ) → 1512 ≤ room → new_checked text ≡ accepted vs → to_new_answer text room ≡ accepted (length (new_text text) ∷ [])
unfolding new_text
new_enough text vs room h e =
    let t = new_table text vs e in
    new_put text room e ∙ put_accepted (new_text text) room (omega (arith, text_longest (new_words text) vs t.good))

pub old_enough : (text vs : List ℕ) (room : ℕ) → 1384 ≤ room → old_checked text ≡ accepted vs → to_old_answer text room ≡ accepted (length (old_text text) ∷ [])
unfolding old_text old_words
old_enough text vs room h e =
    let t = old_table text vs e in
    old_put text room e ∙ put_accepted (old_text text) room (omega (arith, old_longest (words_read row_keys text) vs t.good))

-- ---- what a refusal also returns
pub new_also : (text : List ℕ) (room : ℕ) → also_in (to_new_answer text room) ≤ 1836
unfolding to_new_answer new_checked
new_also text room =
    let table = table_of (new_words text) in
    after_also (new_checked text) (put_answer (new_text text) room) 1836
    (after_also (text_answer old_keys text) (rows_checked table) 1836 (lines_also old_keys (omega arith) text)
    (λ vs l. let t = (lines_trip old_keys (omega arith) text vs l).1 in omega (arith, rows_also table, table_length (new_words text), new_long text (head vs) t, t.high)))
    (λ ws c. omega (arith, put_also (new_text text) room))

sayable_also : (tasks : List Task) → also_in (sayable tasks) ≤ length tasks
unfolding sayable
sayable_also tasks = by (eqb (unsaid tasks) (length tasks))
  where
    by : (b : Bool) → also_in (or_refused b (refused 17 (unsaid tasks ∷ [])) (accepted (length tasks ∷ []))) ≤ length tasks
    by true = omega arith
    by false = unsaid_high tasks

pub old_also : (text : List ℕ) (room : ℕ) → also_in (to_old_answer text room) ≤ 1836
unfolding to_old_answer old_checked
old_also text room =
    let words = words_read row_keys text in
    let table = table_of words in
    let few : (vs : List ℕ) → text_answer row_keys text ≡ accepted vs → length table ≤ 32 =
    λ vs l. (let t = (lines_trip row_keys (omega arith) text vs l).1 in omega (arith, table_length words, t.whole, t.high)) in
    after_also (old_checked text) (put_answer (old_text text) room) 1836
    (after_also (text_answer row_keys text) (after (rows_checked table) (sayable table)) 1836 (lines_also row_keys (omega arith) text)
    (λ vs l. after_also (rows_checked table) (sayable table) 1836 (omega (arith, rows_also table, few vs l))
    (λ ws c. omega (arith, sayable_also table, few vs l))))
    (λ us s. omega (arith, put_also (old_text text) room))

-- ---- an input may be cut behind its first 1,836 bytes
after_after : (a b c : Answer) → after (after a b) c ≡ after a (after b c)
after_after (accepted vs) b c = refl
after_after (refused n also) b c = refl

module _ (text : List ℕ) (m : ℕ) (enough : 1836 ≤ m) where
  pub new_cut : (room : ℕ) → to_new_answer (take m text) room ≡ to_new_answer text room
  unfolding to_new_answer new_checked new_text new_words
  new_cut room =
      let more : List ℕ → Answer =
      λ words. after (rows_checked (table_of (relaid old_width width words))) (put_answer (text_of row_keys (relaid old_width width words)) room) in
      after_after (text_answer old_keys (take m text)) _ _ ∙ after_short old_keys (omega arith) text m enough more ∙ sym (after_after (text_answer old_keys text) _ _)

  pub old_cut : (room : ℕ) → to_old_answer (take m text) room ≡ to_old_answer text room
  unfolding to_old_answer old_checked old_text old_words
  old_cut room =
      let more : List ℕ → Answer =
      λ words. after (after (rows_checked (table_of words)) (sayable (table_of words))) (put_answer (text_of old_keys (relaid width old_width words)) room) in
      after_after (text_answer row_keys (take m text)) _ _ ∙ after_short row_keys (omega arith) text m enough more ∙ sym (after_after (text_answer row_keys text) _ _)

  -- the text that is written is the same
  new_text_cut : (room : ℕ) (vs : List ℕ) → to_new_answer text room ≡ accepted vs → new_text (take m text) ≡ new_text text
  unfolding new_text new_words
  new_text_cut room vs e =
      let s = new_says text room vs e in
      ap (λ (ws : List ℕ). text_of row_keys (relaid old_width width ws)) (words_short old_keys (omega arith) text m enough _ s.table.lines)

  old_text_cut : (room : ℕ) (vs : List ℕ) → to_old_answer text room ≡ accepted vs → old_text (take m text) ≡ old_text text
  unfolding old_text old_words
  old_text_cut room vs e =
      let s = old_says text room vs e in
      ap (λ (ws : List ℕ). text_of old_keys (relaid width old_width ws)) (words_short row_keys (omega arith) text m enough _ s.table.lines)

  -- and so is the room
  pub new_room_cut : (room : List ℕ) → to_new_room (take m text) room ≡ to_new_room text room
  unfolding to_new_room
  new_room_cut room =
      ap (λ (a : Answer). lent a (filled (new_text (take m text)) room) room) (new_cut (length room)) ∙ by (to_new_answer text (length room)) refl
    where
      by : (a : Answer) → to_new_answer text (length room) ≡ a → lent a (filled (new_text (take m text)) room) room ≡ lent a (filled (new_text text) room) room
      by (refused n also) e = refl
      by (accepted vs) e = ap (λ (t : List ℕ). filled t room) (new_text_cut (length room) vs e)

  pub old_room_cut : (room : List ℕ) → to_old_room (take m text) room ≡ to_old_room text room
  unfolding to_old_room
  old_room_cut room =
      ap (λ (a : Answer). lent a (filled (old_text (take m text)) room) room) (old_cut (length room)) ∙ by (to_old_answer text (length room)) refl
    where
      by : (a : Answer) → to_old_answer text (length room) ≡ a → lent a (filled (old_text (take m text)) room) room ≡ lent a (filled (old_text text) room) room
      by (refused n also) e = refl
      by (accepted vs) e = ap (λ (t : List ℕ). filled t room) (old_text_cut (length room) vs e)

-- ---- 12 comes with the place of the rule, of the form read
old_keys_lem : every is_key old_keys ≡ true
unfolding every
old_keys_lem = refl

put_not_twelve : (text : List ℕ) (room : ℕ) (also : List ℕ) → put_answer text room ≡ refused 12 also → ⊥
unfolding put_answer
put_not_twelve text room also e = room_not_twelve (leb (length text) room) (length text ∷ []) also e

pub new_twelve : (text : List ℕ) (room j : ℕ) → to_new_answer text room ≡ refused 12 (j ∷ []) → FaultAt old_keys text j
unfolding to_new_answer new_checked
new_twelve text room j e =
    let before = twelve_before (new_checked text) (put_answer (new_text text) room) (j ∷ []) (put_not_twelve (new_text text) room (j ∷ [])) e in
    lines_twelve old_keys old_keys_lem text j
    (twelve_before (text_answer old_keys text) _ (j ∷ []) (rows_not_twelve (table_of (new_words text)) (j ∷ [])) before)

pub new_twelve_exact : (text : List ℕ) (room j : ℕ) → FaultAt old_keys text j → LeadsOn text → to_new_answer text room ≡ refused 12 (j ∷ [])
new_twelve_exact text room j f l = new_refused text room (new_lines text (lines_exact old_keys old_keys_lem text j f l))

sayable_not_twelve : (tasks : List Task) (also : List ℕ) → sayable tasks ≡ refused 12 also → ⊥
unfolding sayable
sayable_not_twelve tasks also e = by (eqb (unsaid tasks) (length tasks)) e
  where
    by : (b : Bool) → or_refused b (refused 17 (unsaid tasks ∷ [])) (accepted (length tasks ∷ [])) ≡ refused 12 also → ⊥
    by true e = omega (arith, ap code_of e)
    by false e = omega (arith, ap code_of e)

pub old_twelve : (text : List ℕ) (room j : ℕ) → to_old_answer text room ≡ refused 12 (j ∷ []) → FaultAt row_keys text j
unfolding to_old_answer old_checked
old_twelve text room j e =
    let table = table_of (words_read row_keys text) in
    let before = twelve_before (old_checked text) (put_answer (old_text text) room) (j ∷ []) (put_not_twelve (old_text text) room (j ∷ [])) e in
    lines_twelve row_keys row_keys_lem text j
    (twelve_before (text_answer row_keys text) _ (j ∷ []) (table_not_twelve table (sayable table) (j ∷ []) (sayable_not_twelve table (j ∷ []))) before)

pub old_twelve_exact : (text : List ℕ) (room j : ℕ) → FaultAt row_keys text j → LeadsOn text → to_old_answer text room ≡ refused 12 (j ∷ [])
old_twelve_exact text room j f l = old_refused text room (old_lines text (lines_exact row_keys row_keys_lem text j f l))
