-- `carry::old_rows` meets its contract: the table that is read, what the old form can say of it, the words without p; each way out by its law.
use mathlib.Core.List.{List, [], ◌∷◌}
use mathlib.Core.Path.{◌≡◌, sym, ap, ◌∙◌}
use Prim.Native.Nat.{ℕ, ◌*◌, ◌≤◌}
use native.Mathlib.Omega.{arith}
use lib.ListN.{length, take, replicate}
use lib.Seq.{take_at, length-take-le}
use Rattle.law.specs.Refusal.{accepted, head}
use Rattle.law.specs.Table.{table_of}
use Rattle.law.specs.Text.{row_keys}
use Rattle.law.specs.Reading.{words_read, read_answer}
use Rattle.law.specs.Carry.{relaid, sayable, old_words}
use Rattle.law.proofs.TextAnswers.{read_filled}
use Rattle.law.proofs.TextTrips.{Trip, read_write}
use Rattle.law.proofs.Carry.{old_unread, old_read, old_table}
use Rattle.refusal.specs.Shown.{answered}
use Rattle.refusal.proofs.Passed.{passed_on}
use Rattle.carry.proofs.Stood.{stood_not}
use Rattle.carry.proofs.old_rows.Goals.{After-check_old, In_ok-rows}
use Rattle.carry.proofs.old_rows.Goals as goal

abbrev text : In_ok-rows → List ℕ
text c = c.args.text.now

abbrev rows : In_ok-rows → ℕ
rows c = c.in_ok-rows.rows

-- the text was read, and its words stand from the start
is_read : (c : In_ok-rows) → read_answer (text c) 224 ≡ accepted (rows c ∷ [])
is_read c = sym c.read.ensures.answer ∙ ap answered c.in_ok-rows.was

trip : (c : In_ok-rows) → Trip (text c) 224 (rows c ∷ [])
trip c = read_write (text c) 224 (rows c ∷ []) (is_read c)

whole : (c : In_ok-rows) → length (words_read row_keys (text c)) ≡ rows c * 7
whole c = (trip c).whole ∙ ap (λ (z : List ℕ). head z * 7) (sym (trip c).rows)

few : (c : In_ok-rows) → rows c ≤ 32
few c = omega (arith, (trip c).high, whole c)

abbrev laid : In_ok-rows → List ℕ
laid c = c.read.new.room

words_are : (c : In_ok-rows) → take (rows c * 7) (laid c) ≡ words_read row_keys (text c)
words_are c =
    ap (take (rows c * 7)) (c.read.ensures.room ∙ read_filled (text c) (replicate 224 0) (is_read c))
    ∙ take_at (words_read row_keys (text c)) _ (rows c * 7) (whole c)

fits : (c : In_ok-rows) → rows c * 7 ≤ length (laid c)
fits c = omega (arith, few c, c.read.auto.room)

-- what the old form can say of the table
said : (o : After-check_old) → sayable (table_of (words_read row_keys (o.args.text.now))) ≡ answered o.check_old.result
said o = ap (λ (ws : List ℕ). sayable (table_of ws)) (sym (ap (take ((o.in_ok-rows.rows) * 7)) (o.read.ensures.room ∙ read_filled (o.args.text.now) (replicate 224 0) (sym o.read.ensures.answer ∙ ap answered o.in_ok-rows.was))
    ∙ take_at (words_read row_keys (o.args.text.now)) _ ((o.in_ok-rows.rows) * 7) ((read_write (o.args.text.now) 224 ((o.in_ok-rows.rows) ∷ []) (sym o.read.ensures.answer ∙ ap answered o.in_ok-rows.was)).whole ∙ ap (λ (z : List ℕ). head z * 7) (sym (read_write (o.args.text.now) 224 ((o.in_ok-rows.rows) ∷ []) (sym o.read.ensures.answer ∙ ap answered o.in_ok-rows.was)).rows)))) ∙ sym o.check_old.ensures

-- the words without p
old-are : (c : In_ok-rows) → relaid 7 6 (take (rows c * 7) (laid c)) ≡ old_words (text c)
unfolding old_words
old-are c = ap (relaid 7 6) (words_are c)

pub returns-in_err-rows : goal.returns-in_err-rows
returns-in_err-rows c =
    let a = c.args in
    record { answer = passed_on _ _ c.from_residual.ensures.1 ∙ sym (old_unread a.text.now (sym c.read.ensures.answer ∙ ap answered c.in_err-rows.was)); words = stood_not _ _ _ _ _ c.from_residual.ensures.1 }

pub overflow_mul-n : goal.overflow_mul-n
overflow_mul-n c = omega (arith, few c)

pub slice_bounds-words-end : goal.slice_bounds-words-end
slice_bounds-words-end c = fits c

pub slice_bounds-check_old-end : goal.slice_bounds-check_old-end
slice_bounds-check_old-end c = sym (length-take-le (rows (goal.at.slice_bounds-check_old-end c).In_ok-rows * 7) (laid (goal.at.slice_bounds-check_old-end c).In_ok-rows) (fits (goal.at.slice_bounds-check_old-end c).In_ok-rows))

pub returns-in_err-check_old : goal.returns-in_err-check_old
returns-in_err-check_old c =
    record { answer = passed_on _ _ c.from_residual-in_err-check_old.ensures.1 ∙ sym (old_read (text (goal.at.returns-in_err-check_old c).In_ok-rows) (is_read (goal.at.returns-in_err-check_old c).In_ok-rows) ∙ said (goal.at.returns-in_err-check_old c).After-check_old ∙ ap answered c.in_err-check_old.was); words = stood_not _ _ _ _ _ c.from_residual-in_err-check_old.ensures.1 }

pub slice_bounds-words-end-2 : goal.slice_bounds-words-end-2
slice_bounds-words-end-2 c = fits (goal.at.slice_bounds-words-end-2 c).In_ok-rows

pub slice_bounds-relay-end : goal.slice_bounds-relay-end
slice_bounds-relay-end c =
    sym (length-take-le (rows (goal.at.slice_bounds-relay-end c).In_ok-rows * 7) (laid (goal.at.slice_bounds-relay-end c).In_ok-rows) (fits (goal.at.slice_bounds-relay-end c).In_ok-rows))

pub relay-requires : goal.relay-requires
relay-requires c =
    (length-take-le (rows (goal.at.relay-requires c).In_ok-rows * 7) (laid (goal.at.relay-requires c).In_ok-rows) (fits (goal.at.relay-requires c).In_ok-rows), omega (arith, few (goal.at.relay-requires c).In_ok-rows, c.requires), omega arith, omega arith)

pub returns : goal.returns
returns c =
    let all = old_read (text (goal.at.returns c).In_ok-rows) (is_read (goal.at.returns c).In_ok-rows) ∙ said (goal.at.returns c).After-check_old ∙ ap answered c.in_ok-check_old.was in
    let old = old_table (text (goal.at.returns c).In_ok-rows) _ all in
    let same : old.n ≡ rows (goal.at.returns c).In_ok-rows = omega (arith, old.trip.whole, whole (goal.at.returns c).In_ok-rows) in
    record { answer = ap accepted (sym (old.many ∙ ap (λ (z : ℕ). z ∷ []) same)) ∙ sym all; words = c.relay.ensures ∙ old-are (goal.at.returns c).In_ok-rows }
