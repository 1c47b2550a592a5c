-- `report::print_all` meets its contract: the first line, then the task text, refused or run.
use mathlib.Core.List.{List, [], ◌∷◌}
use mathlib.Core.Path.{◌≡◌, sym, ap, ◌∙◌, subst}
use Prim.Native.Nat.{ℕ, ◌-◌, ◌*◌, ◌≤◌}
use native.Mathlib.Nat.{zero-add}
use native.Mathlib.Omega.{arith}
use lib.ListN.{length, take, drop, replicate, length-drop}
use lib.Seq.{take_at, take_all, length-take-le}
use Rattle.law.specs.Refusal.{accepted, head}
use Rattle.law.specs.Table.{table_of}
use Rattle.law.specs.Text.{row_keys}
use Rattle.law.specs.Reading.{read_answer, read_room, words_read}
use Rattle.law.specs.Report.{ticks_key, refusal_printed, run_printed}
use Rattle.law.proofs.TextLine.{reached}
use Rattle.law.proofs.TextSteps.{line_small}
use Rattle.law.proofs.TextReach.{line_reach}
use Rattle.law.proofs.TextAnswers.{read_filled}
use Rattle.law.proofs.TextTrips.{Trip, read_write}
use Rattle.law.proofs.Report.{printed_unread, printed_refused, printed_run}
use Rattle.law.proofs.TextSmall.{refused_small}
use Rattle.report.specs.Said.{Good}
use Rattle.report.proofs.print_all.Goals as goal

-- a part of a slice up to its end is all that is behind its start
behind : (n : ℕ) (l : List ℕ) → take (length l - n) (drop n l) ≡ drop n l
behind n l = take_all (length l - n) (drop n l) (omega (arith, length-drop n l))

-- a text that was read behind the first line
module _ (input : List ℕ) (next : ℕ) {rows : ℕ} (e : accepted (rows ∷ []) ≡ read_answer (take (length input - next) (drop next input)) 224) where
  good : read_answer (drop next input) 224 ≡ accepted (rows ∷ [])
  good = sym (rw behind at e)

  trip : Trip (drop next input) 224 (rows ∷ [])
  trip = read_write (drop next input) 224 _ good

  whole : length (words_read row_keys (drop next input)) ≡ rows * 7
  whole = trip.whole ∙ ap (λ (z : List ℕ). head z * 7) (sym trip.rows)

  few : rows * 7 ≤ 224
  few = omega (arith, whole, trip.fits)

  front : {room : List ℕ} → room ≡ read_room (take (length input - next) (drop next input)) (replicate 224 0)
      → take (rows * 7) room ≡ words_read row_keys (drop next input)
  front f =
      ap (take (rows * 7)) ((rw behind at f) ∙ read_filled (drop next input) (replicate 224 0) good)
      ∙ take_at (words_read row_keys (drop next input)) _ (rows * 7) whole

pub put_refusal-requires : goal.put_refusal-requires
put_refusal-requires c = (
  omega arith,
  (omega (arith, ap length c.requires), omega (arith, line_reach c.args.input.now 0 ticks_key, ap reached (sym c.in-Err.ensures.found))),
)

pub returns-in-Err : goal.returns-in-Err
returns-in-Err c =
    let e = ap (λ (z : ℕ). refusal_printed 12 (z ∷ [])) (zero-add c.in-Err.fault.place) ∙ sym (printed_unread c.args.input.now (sym c.in-Err.ensures.found)) in
    rw (c.put_refusal.ensures, c.requires) e

pub overflow_mul-words : goal.overflow_mul-words
overflow_mul-words c = omega (arith, few c.args.input.now c.in-Ok.line.next c.in-Ok-read.ensures.answer)

pub slice_bounds-words-end : goal.slice_bounds-words-end
slice_bounds-words-end c =
    omega (arith, few c.args.input.now c.in-Ok.line.next c.in-Ok-read.ensures.answer, c.read.auto.room)

pub slice_bounds-print_run-end : goal.slice_bounds-print_run-end
slice_bounds-print_run-end c =
    sym (length-take-le _ _ (omega (arith, few c.args.input.now c.in-Ok.line.next c.in-Ok-read.ensures.answer, c.read.auto.room)))

pub overflow_cast-line : goal.overflow_cast-line
overflow_cast-line c = omega (arith, line_small _ 0 ticks_key (sym c.in-Ok.ensures.found))

pub print_run-requires : goal.print_run-requires
print_run-requires c =
    (c.requires, subst Good (sym (front c.args.input.now c.in-Ok.line.next c.in-Ok-read.ensures.answer c.read.ensures.room)) (record { values = _; is = (trip c.args.input.now c.in-Ok.line.next c.in-Ok-read.ensures.answer).good }))

pub put_refusal-requires-in-Err-read : goal.put_refusal-requires-in-Err-read
put_refusal-requires-in-Err-read c =
    let input = c.args.input.now in
    let next = c.in-Ok.line.next in (
      omega arith,
      (
        omega (arith, ap length c.requires),
        omega (
          arith,
          refused_small (drop next input) 224 _ _ (sym (rw behind at c.in-Err-read.ensures.answer)),
          line_reach input 0 ticks_key,
          ap reached (sym c.in-Ok.ensures.found),
        ),
      ),
    )

pub returns-in-Ok-read : goal.returns-in-Ok-read
returns-in-Ok-read c =
    let e = ap (λ (z : List ℕ). run_printed (table_of z) c.in-Ok.line.value) (front c.args.input.now c.in-Ok.line.next c.in-Ok-read.ensures.answer c.read.ensures.room)
    ∙ sym (printed_run c.args.input.now (sym c.in-Ok.ensures.found) (good c.args.input.now c.in-Ok.line.next c.in-Ok-read.ensures.answer)) in
    c.print_run.ensures ∙ e

pub returns-in-Err-read : goal.returns-in-Err-read
returns-in-Err-read c =
    let e = sym (printed_refused c.args.input.now (sym c.in-Ok.ensures.found) (sym (rw behind at c.in-Err-read.ensures.answer))) in
    rw (c.put_refusal-in-Err-read.ensures, c.requires) e
