use mathlib.Core.Path.{sym, ap, ◌∙◌}
use Prim.Native.Nat.{ℕ, ◌+◌}
use native.Mathlib.Omega.{arith}
use Rattle.law.proofs.TextLine.{digits_high}
use Rattle.line.proofs.Reached.{length_naught, length_none, length_more, length_inside}
use Rattle.line.proofs.read.value_length.Goals as goal

pub returns-then-b-eq48 : goal.returns-then-b-eq48
returns-then-b-eq48 c = sym (length_naught _ _ _ c.byte_at-b.ensures c.if-b-eq48.true)

pub returns-then-not-is_digit : goal.returns-then-not-is_digit
returns-then-not-is_digit c = sym (length_none _ _ _ c.byte_at-b.ensures c.if-b-eq48.false _ c.is_digit.ensures c.if-not-is_digit.true)

pub digits_at-requires : goal.digits_at-requires
digits_at-requires c = length_inside _ _ _ c.byte_at-b.ensures c.if-b-eq48.false _ c.is_digit.ensures c.if-not-is_digit.false

pub overflow_add-result : goal.overflow_add-result
overflow_add-result c = omega (arith, c.digits_at.ensures, digits_high c.args.text.now (c.args.at + 1))

pub returns : goal.returns
returns c =
    let more = length_more _ _ _ c.byte_at-b.ensures c.if-b-eq48.false _ c.is_digit.ensures c.if-not-is_digit.false in
    sym (more ∙ ap (λ (z : ℕ). 1 + z) (sym c.digits_at.ensures))
