-- The verdict, two lines and the rows of the state after the run.
use mathlib.Core.Path.{sym, ap, subst}
use Prim.Native.Nat.{◌≤◌}
use native.Mathlib.Omega.{arith}
use lib.ListN.{length, get_or, length-append}
use Rattle.law.specs.Table.{table_of}
use Rattle.law.specs.Tick.{clock_end, run, fresh}
use Rattle.law.specs.Report.{ticks_key, idle_key, run_printed}
use Rattle.law.proofs.Report.{verdict_most}
use Rattle.line.proofs.Pieces.{line_most}
use Rattle.report.specs.Said.{Roomed}
use Rattle.report.proofs.Judged.{roomed}
use Rattle.report.proofs.Whole.{after_is, after_held, after_tasks, after_idle, idle_small, whole_printed}
use Rattle.report.proofs.print.print_run.Goals as goal

pub put_line-requires : goal.put_line-requires
put_line-requires c = (
  omega arith,
  (
    omega (arith, c.from.ensures, c.ranges.ticks.fits),
    omega (
      arith,
      line_most ticks_key c.from.result,
      verdict_most (table_of c.args.words.now),
      simp length-append at (ap length c.print_verdict.ensures.bytes),
      ap length c.requires.0,
    ),
  ),
)

pub put_line-requires-2 : goal.put_line-requires-2
put_line-requires-2 c =
    let early : c.args.ticks ≤ clock_end = omega (arith, c.ranges.ticks.fits) in (
      omega arith,
      (
        idle_small c.requires.1 c.args.ticks early c.fresh_words.ensures.room c.run_words.ensures.words,
        omega (
          arith,
          line_most idle_key (get_or c.run_words.new.words 2 0),
          verdict_most (table_of c.args.words.now),
          simp length-append at (ap length c.print_verdict.ensures.bytes),
          ap length c.requires.0,
        ),
      ),
    )

pub print_rows-requires : goal.print_rows-requires
print_rows-requires c =
    let e = c.fresh_words.ensures.room in
    let h = c.run_words.ensures.words in (
      omega (
        arith,
        verdict_most (table_of c.args.words.now),
        simp length-append at (ap length c.print_verdict.ensures.bytes),
        ap length c.requires.0,
      ),
      c.requires.1,
      c.print_verdict.ensures.times,
      subst (Roomed (table_of c.args.words.now)) (sym c.rooms.ensures.run) (roomed c.requires.1),
      after_held c.requires.1 c.args.ticks (omega (arith, c.ranges.ticks.fits)) e h,
      after_tasks c.requires.1 c.args.ticks (omega (arith, c.ranges.ticks.fits)) e h,
    )

pub returns : goal.returns
unfolding run_printed
returns c =
    let e = c.fresh_words.ensures.room in
    let h = c.run_words.ensures.words in
    let t = table_of c.args.words.now in
    let early : c.args.ticks ≤ clock_end = omega (arith, c.ranges.ticks.fits) in
    let is = after_is c.requires.1 c.args.ticks early e h in
    rw (c.print_rows.ensures, c.put_line-2.ensures.line, c.put_line.ensures.line, c.from.ensures, c.print_verdict.ensures.bytes, c.requires.0, is)
    (whole_printed t c.args.ticks (run c.args.ticks (fresh t)) (after_idle c.requires.1 c.args.ticks early e h))
