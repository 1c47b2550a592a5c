-- `line::put::put_decimal` meets its contract: the digits that are put stand behind the place of the next one.
use mathlib.Core.Path.{◌≡◌}
use Prim.Native.Nat.{◌+◌}
use native.Mathlib.Omega.{arith}
use lib.ListN.{length}
use Rattle.law.specs.Reading.{decimal}
use Rattle.law.proofs.TextDecimal.{decimal_shortest}
use Rattle.line.proofs.Pieces.{filling_start, filling_in, filling_far, filling_next, filling_last}
use Rattle.line.proofs.put.put_decimal.Goals as goal

pub digits_in-requires : goal.digits_in-requires
digits_in-requires c = c.requires.0

pub overflow_add-end : goal.overflow_add-end
overflow_add-end c = omega (arith, c.digits_in.ensures)

pub overflow_sub-place : goal.overflow_sub-place
overflow_sub-place c = omega (arith, c.digits_in.ensures, decimal_shortest c.args.v)

pub loop-rest-init : goal.loop-rest-init
loop-rest-init c =
    let e : c.args.at + c.digits_in.result ≡ c.args.at + length (decimal c.args.v) = omega (arith, c.digits_in.ensures) in
    filling_start c.args.out.now c.args.at c.args.v _ _ c.requires.0 e (omega arith)
    (omega (arith, c.digits_in.ensures, decimal_shortest c.args.v))

pub overflow_cast-out : goal.overflow_cast-out
overflow_cast-out c = omega arith

pub overflow_add-out : goal.overflow_add-out
overflow_add-out c = omega arith

pub bounds-out-place : goal.bounds-out-place
bounds-out-place c = (filling_in c.loop-rest.invariant).1

pub overflow_sub-place-in-loop-rest : goal.overflow_sub-place-in-loop-rest
overflow_sub-place-in-loop-rest c = omega (arith, filling_far c.loop-rest.invariant c.loop-rest-test.true)

pub loop-rest-smaller : goal.loop-rest-smaller
loop-rest-smaller c = omega arith

pub loop-rest-preserved : goal.loop-rest-preserved
loop-rest-preserved c =
    let l = c.loop-rest in
    filling_next l.invariant _ c.loop-rest-test.true (omega (arith, filling_far l.invariant c.loop-rest-test.true))

pub overflow_cast-out-2 : goal.overflow_cast-out-2
overflow_cast-out-2 c = omega arith

pub overflow_add-out-2 : goal.overflow_add-out-2
overflow_add-out-2 c = omega arith

pub bounds-out-place-2 : goal.bounds-out-place-2
bounds-out-place-2 c = (filling_in c.loop-rest.invariant).1

pub returns : goal.returns
returns c = record { place = c.loop-rest.invariant.ends; bytes = filling_last c.loop-rest.invariant c.loop-rest-test.false }
