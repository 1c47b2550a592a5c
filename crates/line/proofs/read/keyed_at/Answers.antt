use mathlib.Core.Path.{◌∙◌}
use Rattle.line.proofs.Reached.{key_further}
use Rattle.line.proofs.read.keyed_at.Goals as goal

pub loop-i-preserved : goal.loop-i-preserved
loop-i-preserved c =
    let l = c.loop-i in
    key_further _ _ _ l.i _ l.invariant c.loop-i-test.true c.byte_at.ensures (c.if-byte_at-from.false ∙ c.from.ensures) (c.type_inv.key l.i)
