use mathlib.Core.Path.{ap}
use native.Mathlib.Omega.{arith}
use lib.ListN.{length}
use Rattle.text.proofs.Putting.{Whole, first_fits, put_start, in_width, due_fits, put_next, put_all}
use Rattle.text.proofs.write.put_text.Goals as goal

pub put_line-requires : goal.put_line-requires
put_line-requires c =
    let r = c.requires in
    let w : Whole c.args.words.now c.args.rows c.args.width = record { whole = r.1; some = r.3; narrow = r.4; fits = r.5 } in
    (omega arith, (omega (arith, r.2), omega (arith, ap length r.0, first_fits w)))

pub loop-word-init : goal.loop-word-init
loop-word-init c =
    let r = c.requires in
    put_start (record { whole = r.1; some = r.3; narrow = r.4; fits = r.5 }) (rw r.0 at c.put_line.ensures.line)

pub put_due-requires : goal.put_due-requires
put_due-requires c =
    let w = c.loop-word.invariant.asked in (
      omega arith,
      (
        omega (arith, in_width c.loop-word.invariant, w.narrow),
        omega (arith, c.from.ensures, c.type_inv.words c.loop-word.word-index),
        rw c.from.ensures (due_fits c.loop-word.invariant c.loop-word-test.true),
      ),
    )

pub loop-word-preserved : goal.loop-word-preserved
loop-word-preserved c = put_next c.loop-word.invariant c.loop-word-test.true (rw c.from.ensures at c.put_due.ensures) c.next_line-j.ensures

pub returns : goal.returns
returns c = put_all c.loop-word.invariant (omega arith)
