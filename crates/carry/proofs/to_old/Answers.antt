-- `carry::to_old` meets its contract: the table that is read, then its old text.
use mathlib.Core.List.{List, [], ◌∷◌}
use mathlib.Core.Path.{◌≡◌, sym, ap, ◌∙◌}
use Prim.Native.Nat.{ℕ, ◌*◌, ◌≤◌}
use native.Mathlib.Omega.{arith}
use lib.ListN.{length, take}
use lib.Seq.{length-take-le}
use Rattle.law.specs.Refusal.{accepted, head}
use Rattle.law.specs.Text.{row_keys, old_keys}
use Rattle.law.specs.Reading.{words_read, text_of, put_answer, put_room}
use Rattle.law.specs.Carry.{old_words, old_text, old_checked}
use Rattle.law.proofs.CarrySizes.{old_longest}
use Rattle.law.proofs.Carry.{OldTable, old_table, old_refused, old_put, old_kept, old_room}
use Rattle.text.specs.Said.{stood}
use Rattle.std.specs.Prelude.{Result}
use Rattle.refusal.specs.Shown.{answered}
use Rattle.refusal.proofs.Passed.{passed_on}
use Rattle.refusal.specs.declared.Refusal.{Refusal}
use Rattle.carry.proofs.to_old.Goals.{In_ok-rows}
use Rattle.carry.proofs.to_old.Goals as goal

abbrev text : In_ok-rows → List ℕ
text c = c.args.text.now

abbrev rows : In_ok-rows → ℕ
rows c = c.in_ok-rows.rows

-- the table was accepted, and its words stand from the start
checked-so : (c : In_ok-rows) → old_checked (text c) ≡ accepted (rows c ∷ [])
checked-so c = sym c.old_rows.ensures.answer ∙ ap answered c.in_ok-rows.was

said : (c : In_ok-rows) → OldTable (text c) (rows c ∷ [])
said c = old_table (text c) (rows c ∷ []) (checked-so c)

abbrev laid : In_ok-rows → List ℕ
laid c = c.old_rows.new.old

words_are : (c : In_ok-rows) → take (rows c * 6) (laid c) ≡ old_words (text c)
words_are c =
    ap (λ (r : Result ℕ Refusal). stood r 6 (laid c) (old_words (text c))) (sym c.in_ok-rows.was)
    ∙ c.old_rows.ensures.words

few : (c : In_ok-rows) → rows c ≤ 32
few c = omega (arith, (said c).trip.high, ap head (said c).many)

fits : (c : In_ok-rows) → rows c * 6 ≤ length (laid c)
fits c = omega (arith, few c, c.old_rows.auto.old)

-- the text to write, and that it is not too long
text-is : (c : In_ok-rows) → text_of old_keys (take (rows c * 6) (laid c)) ≡ old_text (text c)
unfolding old_text
text-is c = ap (text_of old_keys) (words_are c)

short : (c : In_ok-rows) → length (old_text (text c)) ≤ 1512
unfolding old_text old_words
short c = omega (arith, old_longest (words_read row_keys (text c)) (rows c ∷ []) (said c).good)

pub overflow_mul-old : goal.overflow_mul-old
overflow_mul-old c = omega (arith, few c)

pub slice_bounds-old-end : goal.slice_bounds-old-end
slice_bounds-old-end c = fits c

pub slice_bounds-write_rows-end : goal.slice_bounds-write_rows-end
slice_bounds-write_rows-end c = sym (length-take-le (rows (goal.at.slice_bounds-write_rows-end c).In_ok-rows * 6) (laid (goal.at.slice_bounds-write_rows-end c).In_ok-rows) (fits (goal.at.slice_bounds-write_rows-end c).In_ok-rows))

pub write_rows-requires : goal.write_rows-requires
write_rows-requires c = (
  length-take-le (rows (goal.at.write_rows-requires c).In_ok-rows * 6) (laid (goal.at.write_rows-requires c).In_ok-rows) (fits (goal.at.write_rows-requires c).In_ok-rows),
  few (goal.at.write_rows-requires c).In_ok-rows,
  omega arith,
  omega arith,
  omega (arith, ap length (text-is (goal.at.write_rows-requires c).In_ok-rows), short (goal.at.write_rows-requires c).In_ok-rows),
)

pub returns : goal.returns
returns c =
    let room = c.args.room.now in
    let e = old_put (text (goal.at.returns c).In_ok-rows) (length room) (checked-so (goal.at.returns c).In_ok-rows) in record { answer = c.write_rows.ensures.answer ∙ ap (λ (z : List ℕ). put_answer z (length room)) (text-is (goal.at.returns c).In_ok-rows) ∙ sym e; room = c.write_rows.ensures.room ∙ ap (λ (z : List ℕ). put_room z room) (text-is (goal.at.returns c).In_ok-rows) ∙ sym (old_room (text (goal.at.returns c).In_ok-rows) room e) }

pub returns-in_err-rows : goal.returns-in_err-rows
returns-in_err-rows c =
    let a = c.args in
    let bad = sym c.old_rows.ensures.answer ∙ ap answered c.in_err-rows.was in
    let e = old_refused a.text.now (length a.room.now) bad in
    record { answer = passed_on _ _ c.from_residual.ensures.1 ∙ sym e; room = sym (old_kept a.text.now a.room.now e) }
