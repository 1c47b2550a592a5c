-- `line::put::digits_in` meets its contract: one digit is counted for each tenth taken, and the last one.
use mathlib.Core.List.{[], ◌∷◌}
use mathlib.Core.Path.{refl, ap, ◌∙◌}
use Prim.Native.Nat.{◌+◌, ◌%◌}
use native.Mathlib.Omega.{arith}
use lib.ListN.{length}
use Rattle.law.proofs.TextDecimal.{decimal_ten}
use Rattle.law.proofs.TextWrite.{left_start, left_next, left_last, left_fits}
use Rattle.line.proofs.put.digits_in.Goals as goal

pub loop-rest-init : goal.loop-rest-init
loop-rest-init c = ([], refl, left_start _ c.requires)

pub overflow_add-n : goal.overflow_add-n
overflow_add-n c =
    let l = c.loop-rest.invariant in
    omega (arith, left_fits _ _ _ l.2, decimal_ten c.args.v)

pub loop-rest-smaller : goal.loop-rest-smaller
loop-rest-smaller c = omega arith

pub loop-rest-preserved : goal.loop-rest-preserved
loop-rest-preserved c =
    let l = c.loop-rest in
    ((48 + l.rest % 10) ∷ l.invariant.0, omega arith, left_next _ l.rest l.invariant.0 l.invariant.2 c.loop-rest-test.true)

pub returns : goal.returns
returns c =
    let l = c.loop-rest in
    l.invariant.1 ∙ ap length (left_last _ l.rest l.invariant.0 l.invariant.2 c.loop-rest-test.false)
