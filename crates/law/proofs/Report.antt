-- What is printed, by its cases, and that the numbers in it are small.
use mathlib.Core.List.{List, [], ◌∷◌, ◌++◌}
use mathlib.Core.Path.{◌≡◌, refl, sym, ap, ◌∙◌}
use Prim.Native.Nat.{ℕ, zero, suc, ◌+◌, ◌-◌, ◌*◌, ◌≤◌, ◌<◌}
use native.Mathlib.Omega.{arith}
use lib.ListN.{length, take, drop, length-append}
use Rattle.law.specs.Refusal.{Answer, accepted, refused, head}
use Rattle.law.specs.Table.{Task, table_of}
use Rattle.law.specs.Tick.{State, fresh, run}
use Rattle.law.specs.Verdict.{admitted, misfit}
use Rattle.law.specs.Text.{row_keys, lines}
use Rattle.law.specs.Reading.{Found, found, fault, decimal, line_at, words_read, read_answer}
use Rattle.law.specs.Report.{ticks_key, idle_key, at_key, refused_key, admitted_line, unschedulable_line, printed_keys, number_lines, refusal_printed, verdict_printed, row_figures, row_printed, rows_printed, state_printed, run_printed, placed, text_printed, answer_printed, printed, report_answer, report_room}
use Rattle.law.proofs.Tests.{Known, passes, fails, known}
use Rattle.law.specs.Sums.{pick}
use Rattle.law.proofs.Lists.{take_drop}
use Rattle.law.proofs.Table.{table_length}
use Rattle.law.proofs.TextLine.{reached}
use Rattle.law.proofs.TextDecimal.{decimal_ten}
use Rattle.law.proofs.TextAnswers.{read_says, put_short, put_accepted, put_says, put_filled, put_kept}
use Rattle.law.proofs.TextReach.{line_reach, line_short, read_short_text, words_short}
use Rattle.law.proofs.TextTrips.{read_write}

module _ (input : List ℕ) where
  pub printed_unread : {j : ℕ} → line_at input 0 ticks_key ≡ fault j → printed input ≡ refusal_printed 12 (j ∷ [])
  unfolding printed
  printed_unread e = rw e

  module _ {values : List ℕ} {next : ℕ} (line : line_at input 0 ticks_key ≡ found values next) where
    pub printed_refused : {n : ℕ} {also : List ℕ} → read_answer (drop next input) 224 ≡ refused n also
        → printed input ≡ refusal_printed n (placed next n also)
    unfolding printed
    printed_refused e = rw (line, e)

    pub printed_run : {rows : List ℕ} → read_answer (drop next input) 224 ≡ accepted rows
        → printed input ≡ run_printed (table_of (words_read row_keys (drop next input))) (head values)
    unfolding printed
    printed_run e = rw (line, e)

-- An input may be cut behind its first 1,848 bytes: twelve of the first line, and what reading a task text looks at.
pub printed_cut : (input : List ℕ) (m : ℕ) → 1848 ≤ m → printed (take m input) ≡ printed input
unfolding printed
printed_cut input m h =
    ap (text_printed (take m input)) (line_short input m 0 ticks_key (omega arith)) ∙ by (line_at input 0 ticks_key) refl
  where
    text : (values : List ℕ) (next : ℕ) → next ≤ 12 → (a : Answer) → read_answer (drop next input) 224 ≡ a
        → answer_printed (head values) next (words_read row_keys (take (m - next) (drop next input))) a ≡ answer_printed (head values) next (words_read row_keys (drop next input)) a
    text values next l (refused n also) e = refl
    text values next l (accepted rows) e =
        let s = read_says (drop next input) 224 rows e in
        ap (λ (z : List ℕ). run_printed (table_of z) (head values))
        (words_short row_keys (omega arith) (drop next input) (m - next) (omega arith) s.ns s.lines)

    by : (f : Found) → line_at input 0 ticks_key ≡ f → text_printed (take m input) f ≡ text_printed input f
    by (fault j) e = refl
    by (found values next) e =
        let l : next ≤ 12 = omega (arith, line_reach input 0 ticks_key, ap reached e) in
        let cut : drop next (take m input) ≡ take (m - next) (drop next input) =
        let e : next + (m - next) ≡ m = omega arith in ap (λ (z : ℕ). drop next (take z input)) (sym e) ∙ sym (take_drop next (m - next) input) in
        ap (λ (z : List ℕ). answer_printed (head values) next (words_read row_keys z) (read_answer z 224)) cut
        ∙ ap (answer_printed (head values) next (words_read row_keys (take (m - next) (drop next input)))) (read_short_text (drop next input) (m - next) 224 (omega arith))
        ∙ text values next l (read_answer (drop next input) 224) refl

-- the bytes that lines of numbers take, at most
abbrev pub sizes : List (List ℕ) → ℕ
sizes [] = 0
sizes (key ∷ keys) = length key + 11 + sizes keys

pub numbers_most : (keys : List (List ℕ)) (values : List ℕ) → length (number_lines keys values) ≤ sizes keys
unfolding lines
numbers_most [] values = omega arith
numbers_most (key ∷ keys) [] = omega arith
numbers_most (key ∷ keys) (v ∷ values) =
    omega (
      arith,
      length-append key (decimal v ++ (10 ∷ number_lines keys values)),
      length-append (decimal v) (10 ∷ number_lines keys values),
      decimal_ten v,
      numbers_most keys values,
    )

pub row_most : (tasks : List Task) (s : State) (i : ℕ) → length (row_printed tasks s i) ≤ 169
unfolding row_printed
row_most tasks s i = numbers_most printed_keys (row_figures tasks s i)

-- the verdict takes few bytes
pub verdict_most : (tasks : List Task) → length (verdict_printed tasks) ≤ 36
unfolding verdict_printed
verdict_most tasks = by (known (admitted tasks))
  where
    by : Known (admitted tasks) → length (pick (admitted tasks) admitted_line (unschedulable_line ++ number_lines (at_key ∷ []) (misfit tasks ∷ []))) ≤ 36
    by (passes e) = rw e (omega arith)
    by (fails e) =
        rw e
        (omega (arith, length-append unschedulable_line (number_lines (at_key ∷ []) (misfit tasks ∷ [])), numbers_most (at_key ∷ []) (misfit tasks ∷ [])))

rows_most : (tasks : List Task) (s : State) (n : ℕ) → length (rows_printed tasks s n) ≤ n * 169
unfolding rows_printed
rows_most tasks s zero = omega arith
rows_most tasks s (suc n) =
    omega (arith, length-append (rows_printed tasks s n) (row_printed tasks s n), rows_most tasks s n, row_most tasks s n)

run_most : (tasks : List Task) (n : ℕ) → length tasks ≤ 32 → length (run_printed tasks n) ≤ 5632
unfolding run_printed state_printed
run_most tasks n h =
    let s = run n (fresh tasks) in
    let both : List ℕ = number_lines (ticks_key ∷ idle_key ∷ []) (n ∷ s.idle ∷ []) in
    omega (
      arith,
      length-append (verdict_printed tasks) (both ++ rows_printed tasks s (length tasks)),
      length-append both (rows_printed tasks s (length tasks)),
      verdict_most tasks,
      numbers_most (ticks_key ∷ idle_key ∷ []) (n ∷ s.idle ∷ []),
      rows_most tasks s (length tasks),
    )

-- a refusal takes few bytes
pub refusal_most : (n : ℕ) (also : List ℕ) → length (refusal_printed n also) ≤ 33
refusal_most n [] = omega (arith, numbers_most (refused_key ∷ []) (n ∷ []))
refusal_most n (at ∷ more) = omega (arith, numbers_most (refused_key ∷ at_key ∷ []) (n ∷ at ∷ []))

-- a room of 5,632 bytes takes every answer
pub printed_most : (input : List ℕ) → length (printed input) ≤ 5632
unfolding printed
printed_most input = by (line_at input 0 ticks_key)
  where
    text : (values : List ℕ) (next : ℕ) (a : Answer) → read_answer (drop next input) 224 ≡ a
        → length (answer_printed (head values) next (words_read row_keys (drop next input)) a) ≤ 5632
    text values next (refused n also) e = omega (arith, refusal_most n (placed next n also))
    text values next (accepted rows) e =
        let t = read_write (drop next input) 224 rows e in
        run_most (table_of (words_read row_keys (drop next input))) (head values) (omega (arith, table_length (words_read row_keys (drop next input)), t.high))

    by : (f : Found) → length (text_printed input f) ≤ 5632
    by (fault j) = omega (arith, refusal_most 12 (j ∷ []))
    by (found values next) = text values next (read_answer (drop next input) 224) refl

-- the printing program as a function, by its cases
module _ (input room : List ℕ) where
  pub report_short : length room < length (printed input) → (report_answer input (length room) ≡ refused 13 []) × (report_room input room ≡ room)
  unfolding report_answer report_room
  report_short h = let e = put_short (printed input) (length room) h in (e, put_kept (printed input) room e)

  pub report_accepted : length (printed input) ≤ length room
      → (report_answer input (length room) ≡ accepted (length (printed input) ∷ [])) × (report_room input room ≡ printed input ++ drop (length (printed input)) room)
  unfolding report_answer report_room
  report_accepted h = let e = put_accepted (printed input) (length room) h in (e, put_filled (printed input) room e)

-- so the program's own room is never too short
pub report_fits : (input : List ℕ) (m : ℕ) → accepted (m ∷ []) ≡ report_answer input 5632 → m ≤ 5632
unfolding report_answer
report_fits input m e = let s = put_says (printed input) 5632 (sym e) in omega (arith, s.0, ap head s.1)
