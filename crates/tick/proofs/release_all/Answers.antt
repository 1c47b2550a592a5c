-- `tick::release_all` meets its contract: the rows passed have released.
use mathlib.Core.Path.{refl, sym, ap, ◌∙◌, subst}
use native.Mathlib.Omega.{arith}
use Rattle.law.specs.Table.{word_of}
use Rattle.law.specs.Tick.{Row, release_row, release_all, begin}
use Rattle.law.specs.Sound.{SoundRow}
use Rattle.tick.proofs.Loops.{mapped_start, mapped_laid, mapped_rows, mapped_row, mapped_next, mapped_end}
use Rattle.tick.proofs.release_all.Goals as goal

pub loop-i-init : goal.loop-i-init
loop-i-init c = let p = c.requires in (mapped_start _ _ _ p.0.laid refl, p.0.sound, p.2)

pub release_one-requires : goal.release_one-requires
release_one-requires c =
    let l = c.loop-i in
    let m = l.invariant.0 in
    let s = l.invariant.1 in (
      mapped_laid m,
      omega (arith, mapped_rows m, c.loop-i-test.true, c.rows_of-i-end.ensures),
      record {
        time = _;
        early = s.time;
        sound = subst (SoundRow 0 _) (sym (mapped_row m)) (s.rows l.i (omega (arith, c.loop-i-test.true, c.rows_of-i-end.ensures)));
      },
      l.invariant.2.at l.i (omega (arith, c.loop-i-test.true, c.rows_of-i-end.ensures)) ∙ ap (λ (z : Row). word_of z.core.task) (sym (mapped_row m)),
    )

pub loop-i-preserved : goal.loop-i-preserved
loop-i-preserved c =
    let l = c.loop-i in
    let m = l.invariant.0 in
    (mapped_next m _ _ (omega (arith, c.loop-i-test.true, c.rows_of-i-end.ensures)) (ap (λ (z : Row). release_row z.core.task.c z) (mapped_row m)) c.release_one.ensures, l.invariant.1, l.invariant.2)

pub returns : goal.returns
unfolding begin release_all
returns c = mapped_end c.loop-i.invariant.0 (omega (arith, c.loop-i-test.false, c.rows_of-i-end.ensures))
