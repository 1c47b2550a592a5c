-- `carry::to_new` meets its contract: the table that is read, then its new text.
use mathlib.Core.List.{List, [], ◌∷◌}
use mathlib.Core.Path.{◌≡◌, sym, ap, ◌∙◌}
use Prim.Native.Nat.{ℕ, ◌*◌, ◌≤◌}
use native.Mathlib.Omega.{arith}
use lib.ListN.{length, take}
use lib.Seq.{length-take-le}
use Rattle.law.specs.Refusal.{accepted, head}
use Rattle.law.specs.Text.{row_keys}
use Rattle.law.specs.Reading.{text_of, put_answer, put_room}
use Rattle.law.specs.Carry.{new_words, new_text, new_checked}
use Rattle.law.proofs.TextLongest.{text_longest}
use Rattle.law.proofs.Carry.{NewTable, new_table, new_refused, new_put, new_kept, new_room}
use Rattle.text.specs.Said.{stood}
use Rattle.std.specs.Prelude.{Result}
use Rattle.refusal.specs.Shown.{answered}
use Rattle.refusal.proofs.Passed.{passed_on}
use Rattle.refusal.specs.declared.Refusal.{Refusal}
use Rattle.carry.proofs.to_new.Goals.{In_ok-rows}
use Rattle.carry.proofs.to_new.Goals as goal

abbrev text : In_ok-rows → List ℕ
text c = c.args.text.now

abbrev rows : In_ok-rows → ℕ
rows c = c.in_ok-rows.rows

-- the table was accepted, and its words stand from the start
checked-so : (c : In_ok-rows) → new_checked (text c) ≡ accepted (rows c ∷ [])
checked-so c = sym c.new_rows.ensures.answer ∙ ap answered c.in_ok-rows.was

said : (c : In_ok-rows) → NewTable (text c) (rows c ∷ [])
said c = new_table (text c) (rows c ∷ []) (checked-so c)

abbrev laid : In_ok-rows → List ℕ
laid c = c.new_rows.new.words

words_are : (c : In_ok-rows) → take (rows c * 7) (laid c) ≡ new_words (text c)
words_are c =
    ap (λ (r : Result ℕ Refusal). stood r 7 (laid c) (new_words (text c))) (sym c.in_ok-rows.was)
    ∙ c.new_rows.ensures.words

few : (c : In_ok-rows) → rows c ≤ 32
few c = omega (arith, (said c).trip.high, ap head (said c).many)

fits : (c : In_ok-rows) → rows c * 7 ≤ length (laid c)
fits c = omega (arith, few c, c.new_rows.auto.words)

-- the text to write, and that it is not too long
text-is : (c : In_ok-rows) → text_of row_keys (take (rows c * 7) (laid c)) ≡ new_text (text c)
unfolding new_text
text-is c = ap (text_of row_keys) (words_are c)

short : (c : In_ok-rows) → length (new_text (text c)) ≤ 1512
unfolding new_text
short c = text_longest (new_words (text c)) (rows c ∷ []) (said c).good

pub overflow_mul-words : goal.overflow_mul-words
overflow_mul-words c = omega (arith, few c)

pub slice_bounds-words-end : goal.slice_bounds-words-end
slice_bounds-words-end c = fits c

pub slice_bounds-write_rows-end : goal.slice_bounds-write_rows-end
slice_bounds-write_rows-end c = sym (length-take-le (rows (goal.at.slice_bounds-write_rows-end c).In_ok-rows * 7) (laid (goal.at.slice_bounds-write_rows-end c).In_ok-rows) (fits (goal.at.slice_bounds-write_rows-end c).In_ok-rows))

pub write_rows-requires : goal.write_rows-requires
write_rows-requires c = (
  length-take-le (rows (goal.at.write_rows-requires c).In_ok-rows * 7) (laid (goal.at.write_rows-requires c).In_ok-rows) (fits (goal.at.write_rows-requires c).In_ok-rows),
  few (goal.at.write_rows-requires c).In_ok-rows,
  omega arith,
  omega arith,
  omega (arith, ap length (text-is (goal.at.write_rows-requires c).In_ok-rows), short (goal.at.write_rows-requires c).In_ok-rows),
)

pub returns : goal.returns
returns c =
    let room = c.args.room.now in
    let e = new_put (text (goal.at.returns c).In_ok-rows) (length room) (checked-so (goal.at.returns c).In_ok-rows) in record { answer = c.write_rows.ensures.answer ∙ ap (λ (z : List ℕ). put_answer z (length room)) (text-is (goal.at.returns c).In_ok-rows) ∙ sym e; room = c.write_rows.ensures.room ∙ ap (λ (z : List ℕ). put_room z room) (text-is (goal.at.returns c).In_ok-rows) ∙ sym (new_room (text (goal.at.returns c).In_ok-rows) room e) }

pub returns-in_err-rows : goal.returns-in_err-rows
returns-in_err-rows c =
    let a = c.args in
    let bad = sym c.new_rows.ensures.answer ∙ ap answered c.in_err-rows.was in
    let e = new_refused a.text.now (length a.room.now) bad in
    record { answer = passed_on _ _ c.from_residual.ensures.1 ∙ sym e; room = sym (new_kept a.text.now a.room.now e) }
