-- `tick::advance_all` meets its contract: the rows passed are advanced.
use mathlib.Core.Path.{refl, sym, ap, subst}
use mathlib.Core.Bool.{Bool}
use mathlib.Core.Path.{◌∙◌}
use native.Mathlib.Omega.{arith}
use lib.ListN.{length, get_or}
use Rattle.law.specs.Tick.{no_row}
use Rattle.law.specs.State.{state_of, laid, with_row}
use Rattle.tick.proofs.Chain.{row_chosen}
use lib.Dec.{eqb}
use Rattle.law.specs.Tick.{advance_row, advance_all}
use Rattle.law.specs.Sound.{SoundRow}
use Rattle.tick.proofs.Loops.{mapped_start, mapped_laid, mapped_rows, mapped_row, mapped_next, mapped_end}
use Rattle.tick.proofs.advance_all.Goals as goal

pub loop-i-init : goal.loop-i-init
loop-i-init c = let p = c.requires in (mapped_start _ _ _ p.laid refl, p.sound)

pub advance_one-requires : goal.advance_one-requires
advance_one-requires c =
    let l = c.loop-i in
    let m = l.invariant.0 in
    let s = l.invariant.1 in (
      mapped_laid m,
      omega (arith, mapped_rows m, c.loop-i-test.true, c.rows_of-i-end.ensures),
      record {
        time = _;
        early = s.time;
        sound = subst (SoundRow 1 _) (sym (mapped_row m)) (s.rows l.i (omega (arith, c.loop-i-test.true, c.rows_of-i-end.ensures)));
      },
    )

pub loop-i-preserved : goal.loop-i-preserved
loop-i-preserved c =
    let l = c.loop-i in
    let m = l.invariant.0 in
    (mapped_next m _ _ (omega (arith, c.loop-i-test.true, c.rows_of-i-end.ensures)) (ap (advance_row (eqb l.i _)) (mapped_row m)) (c.advance_one.ensures ∙ ap (λ (z : Bool). laid (with_row (state_of l.words) l.i (advance_row z (get_or (state_of l.words).rows l.i no_row)))) (c.eq.ensures ∙ row_chosen c.args.chosen (length (state_of c.args.words.now).rows) l.i (omega (arith, c.loop-i-test.true, c.rows_of-i-end.ensures)))), l.invariant.1)

pub returns : goal.returns
unfolding advance_all
returns c = mapped_end c.loop-i.invariant.0 (omega (arith, c.loop-i-test.false, c.rows_of-i-end.ensures))
