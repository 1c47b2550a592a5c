-- Eleven lines, each of so many bytes at most.
use mathlib.Core.List.{[], ◌∷◌, append_assoc}
use Prim.Native.Nat.{ℕ, ◌+◌, ◌≤◌}
use native.Mathlib.Omega.{arith}
use lib.ListN.{length, get_or}
use Rattle.law.specs.Text.{lines}
use Rattle.law.specs.Report.{printed_keys}
use Rattle.dispatch.specs.Shown.{counts_said}
use Rattle.line.specs.Put.{line_of}
use Rattle.line.proofs.Pieces.{line_most}
use Rattle.report.proofs.Numbers.{small_at}
use Rattle.report.proofs.print.print_row.Goals.{Start}
use Rattle.report.proofs.print.print_row.Goals as goal

abbrev value : Start → ℕ → ℕ
value s j = get_or (s.args.i ∷ s.args.id ∷ s.args.r ∷ s.args.room ∷ counts_said s.args.c) j 0

small : (s : Start) (j : ℕ) → value s j ≤ 4294967295
small s j = small_at (s.args.i ∷ s.args.id ∷ s.args.r ∷ s.args.room ∷ counts_said s.args.c) j s.requires.1

most : (s : Start) (j : ℕ) → length (line_of (get_or printed_keys j []) (value s j)) ≤ length (get_or printed_keys j []) + 11
most s j = line_most (get_or printed_keys j []) (value s j)

pub put_line-requires : goal.put_line-requires
put_line-requires c =
    let s = (goal.at.put_line-requires c).Start in
    (omega arith, (small s 0, omega (arith, most s 0)))

pub put_line-requires-2 : goal.put_line-requires-2
put_line-requires-2 c =
    let s = (goal.at.put_line-requires-2 c).Start in
    (omega arith, (small s 1, omega (arith, most s 1)))

pub put_line-requires-3 : goal.put_line-requires-3
put_line-requires-3 c =
    let s = (goal.at.put_line-requires-3 c).Start in
    (omega arith, (small s 2, omega (arith, most s 2)))

pub put_line-requires-4 : goal.put_line-requires-4
put_line-requires-4 c =
    let s = (goal.at.put_line-requires-4 c).Start in
    (omega arith, (small s 3, omega (arith, most s 3)))

pub put_line-requires-5 : goal.put_line-requires-5
put_line-requires-5 c =
    let s = (goal.at.put_line-requires-5 c).Start in
    (omega arith, (small s 4, omega (arith, most s 4)))

pub put_line-requires-6 : goal.put_line-requires-6
put_line-requires-6 c =
    let s = (goal.at.put_line-requires-6 c).Start in
    (omega arith, (small s 5, omega (arith, most s 5)))

pub put_line-requires-7 : goal.put_line-requires-7
put_line-requires-7 c =
    let s = (goal.at.put_line-requires-7 c).Start in
    (omega arith, (small s 6, omega (arith, most s 6)))

pub put_line-requires-8 : goal.put_line-requires-8
put_line-requires-8 c =
    let s = (goal.at.put_line-requires-8 c).Start in
    (omega arith, (small s 7, omega (arith, most s 7)))

pub put_line-requires-9 : goal.put_line-requires-9
put_line-requires-9 c =
    let s = (goal.at.put_line-requires-9 c).Start in
    (omega arith, (small s 8, omega (arith, most s 8)))

pub put_line-requires-10 : goal.put_line-requires-10
put_line-requires-10 c =
    let s = (goal.at.put_line-requires-10 c).Start in
    (omega arith, (small s 9, omega (arith, most s 9)))

pub put_line-requires-11 : goal.put_line-requires-11
put_line-requires-11 c =
    let s = (goal.at.put_line-requires-11 c).Start in
    (omega arith, (small s 10, omega (arith, most s 10)))

pub returns : goal.returns
unfolding lines line_of
returns c = rw (c.put_line-11.ensures.line, c.put_line-10.ensures.line, c.put_line-9.ensures.line, c.put_line-8.ensures.line, c.put_line-7.ensures.line, c.put_line-6.ensures.line, c.put_line-5.ensures.line, c.put_line-4.ensures.line, c.put_line-3.ensures.line, c.put_line-2.ensures.line, c.put_line.ensures.line) (simp append_assoc)
