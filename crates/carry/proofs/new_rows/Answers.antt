-- `carry::new_rows` meets its contract: the lines, the words in wider rows, the table; each way out by its law.
use mathlib.Core.List.{List, [], ◌∷◌}
use mathlib.Core.Path.{◌≡◌, sym, ap, ◌∙◌}
use Prim.Native.Nat.{ℕ, ◌*◌, ◌≤◌}
use native.Mathlib.Omega.{arith}
use lib.ListN.{length, take}
use lib.Seq.{length-take-le}
use Rattle.law.specs.Refusal.{accepted}
use Rattle.law.specs.Table.{checked}
use Rattle.law.specs.Text.{old_keys}
use Rattle.law.specs.Reading.{words_read, text_answer}
use Rattle.law.specs.Carry.{relaid, new_words, new_checked}
use Rattle.law.proofs.TextAnswers.{checked_of_rows}
use Rattle.law.proofs.TextTrips.{LinesTrip, lines_trip}
use Rattle.law.proofs.Carry.{new_lines, new_rows, new_long}
use Rattle.refusal.specs.Shown.{answered}
use Rattle.refusal.proofs.Passed.{passed_on}
use Rattle.text.specs.Said.{stood}
use Rattle.std.specs.Prelude.{Result}
use Rattle.refusal.specs.declared.Refusal.{Refusal}
use Rattle.carry.proofs.Stood.{stood_not, stood_by}
use Rattle.carry.proofs.new_rows.Goals.{After-check, After-relay, In_ok-rows}
use Rattle.carry.proofs.new_rows.Goals as goal

abbrev text : In_ok-rows → List ℕ
text c = c.args.text.now

abbrev rows : In_ok-rows → ℕ
rows c = c.in_ok-rows.rows

-- the lines were accepted, and their words stand from the start
lines : (c : In_ok-rows) → text_answer old_keys (text c) ≡ accepted (rows c ∷ [])
lines c = sym c.rows_of.ensures.answer ∙ ap answered c.in_ok-rows.was

trip : (c : In_ok-rows) → LinesTrip old_keys (text c) (rows c)
trip c = (lines_trip old_keys (omega arith) (text c) (rows c ∷ []) (lines c)).1

abbrev old : In_ok-rows → List ℕ
old c = c.rows_of.new.words

fits : (c : In_ok-rows) → rows c * 6 ≤ length (old c)
fits c = omega (arith, (trip c).high, c.rows_of.ensures.length)

abbrev new : After-relay → List ℕ
new r = r.relay.new.out

new-are : (r : After-relay) → take ((r.in_ok-rows.rows) * 7) (new r) ≡ new_words (r.args.text.now)
unfolding new_words
new-are r = r.relay.ensures ∙ ap (relaid 6 7) (ap (λ (r1 : Result ℕ Refusal). stood r1 6 (r.rows_of.new.words) (words_read old_keys (r.args.text.now))) (sym r.in_ok-rows.was)
    ∙ r.rows_of.ensures.words)

new-fits : (r : After-relay) → (r.in_ok-rows.rows) * 7 ≤ length (new r)
new-fits r = omega (arith, ((lines_trip old_keys (omega arith) (r.args.text.now) ((r.in_ok-rows.rows) ∷ []) (sym r.rows_of.ensures.answer ∙ ap answered r.in_ok-rows.was)).1).high, r.relay.auto.out, r.requires)

-- the words are in whole rows, so their rows alone decide
rows-say : (k : After-check) → new_checked (k.args.text.now) ≡ answered k.check.result
unfolding new_words
rows-say k =
    let t = ((lines_trip old_keys (omega arith) (k.args.text.now) ((k.in_ok-rows.rows) ∷ []) (sym k.rows_of.ensures.answer ∙ ap answered k.in_ok-rows.was)).1) in
    new_rows (k.args.text.now) (sym k.rows_of.ensures.answer ∙ ap answered k.in_ok-rows.was) ∙ sym (checked_of_rows (new_words (k.args.text.now)) (k.in_ok-rows.rows) (new_long (k.args.text.now) (k.in_ok-rows.rows) t) t.low t.high)
    ∙ ap checked (sym (k.relay.ensures ∙ ap (relaid 6 7) (ap (λ (r : Result ℕ Refusal). stood r 6 (k.rows_of.new.words) (words_read old_keys (k.args.text.now))) (sym k.in_ok-rows.was)
    ∙ k.rows_of.ensures.words))) ∙ sym k.check.ensures.answer

pub returns-in_err-rows : goal.returns-in_err-rows
returns-in_err-rows c =
    let a = c.args in
    record { answer = passed_on _ _ c.from_residual.ensures.1 ∙ sym (new_lines a.text.now (sym c.rows_of.ensures.answer ∙ ap answered c.in_err-rows.was)); words = stood_not _ _ _ _ _ c.from_residual.ensures.1 }

pub overflow_mul-old : goal.overflow_mul-old
overflow_mul-old c = omega (arith, (trip c).high)

pub slice_bounds-old-end : goal.slice_bounds-old-end
slice_bounds-old-end c = fits c

pub slice_bounds-relay-end : goal.slice_bounds-relay-end
slice_bounds-relay-end c = sym (length-take-le (rows (goal.at.slice_bounds-relay-end c).In_ok-rows * 6) (old (goal.at.slice_bounds-relay-end c).In_ok-rows) (fits (goal.at.slice_bounds-relay-end c).In_ok-rows))

pub relay-requires : goal.relay-requires
relay-requires c =
    (length-take-le (rows (goal.at.relay-requires c).In_ok-rows * 6) (old (goal.at.relay-requires c).In_ok-rows) (fits (goal.at.relay-requires c).In_ok-rows), omega (arith, (trip (goal.at.relay-requires c).In_ok-rows).high, c.requires), omega arith, omega arith)

pub overflow_mul-rows : goal.overflow_mul-rows
overflow_mul-rows c = omega (arith, (trip (goal.at.overflow_mul-rows c).In_ok-rows).high)

pub slice_bounds-check-end : goal.slice_bounds-check-end
slice_bounds-check-end c = new-fits (goal.at.slice_bounds-check-end c).After-relay

pub slice_bounds-check-end-2 : goal.slice_bounds-check-end-2
slice_bounds-check-end-2 c =
    sym (length-take-le (rows (goal.at.slice_bounds-check-end-2 c).In_ok-rows * 7) (new (goal.at.slice_bounds-check-end-2 c).After-relay) (new-fits (goal.at.slice_bounds-check-end-2 c).After-relay))

pub returns : goal.returns
returns c =
    let r = (goal.at.returns c).After-relay in
    record {
      answer = sym (rows-say (goal.at.returns c).After-check);
      words = stood_by c.check.result _ (r.in_ok-rows.rows) 7 (new r) _ c.check.ensures.rows
          (omega (arith, length-take-le (r.in_ok-rows.rows * 7) (new r) (new-fits r))) (new-are r);
    }
