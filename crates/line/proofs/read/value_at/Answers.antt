use mathlib.Core.Path.{sym, ◌∙◌}
use native.Mathlib.Nat.{add-sub_cancel_left}
use native.Mathlib.Numerals.{add-one}
use native.Mathlib.Omega.{arith}
use Rattle.law.proofs.TextLine.{value_good}
use Rattle.law.proofs.TextSteps.{value_within, value_empty, value_unended, value_ended}
use Rattle.line.proofs.read.value_at.Goals.{then-n-eq0-via-then-n-eq0, then-n-eq0-via-else-n-eq0+then-byte_at-ne10}
use Rattle.line.proofs.read.value_at.Goals as goal

pub overflow_add-end : goal.overflow_add-end
overflow_add-end c = omega (arith, c.value_length-n.ensures, value_within c.args.text.now c.args.at c.requires)

pub returns-then-n-eq0-clause-found : goal.returns-then-n-eq0-clause-found
returns-then-n-eq0-clause-found c =
    let long = c.value_length-n.ensures in
    elim c.then-n-eq0.branch [
      | then-n-eq0-via-then-n-eq0 w ↦ sym (value_empty _ _ _ long w.if-n-eq0.true)
      | then-n-eq0-via-else-n-eq0+then-byte_at-ne10 w ↦ sym
          (value_unended _ _ _ long (λ e. w.if-byte_at-ne10.true (w.byte_at.ensures ∙ e)))
    ]

pub returns-clause-found : goal.returns-clause-found
returns-clause-found c =
    let v = c.value_length-n in
    let a = c.args in
    let e = value_ended a.text.now a.at v.result v.ensures c.if-n-eq0.false (sym c.byte_at.ensures ∙ c.if-byte_at-ne10.false) in
    rw (c.number.ensures, add-sub_cancel_left, add-one) (sym e)

pub number-requires : goal.number-requires
number-requires c =
    let a = c.args in
    rw (add-sub_cancel_left, c.value_length-n.ensures)
    (value_good a.text.now a.at (omega (arith, c.value_length-n.ensures, c.if-n-eq0.false)))

pub returns-then-n-eq0-clause-inside : goal.returns-then-n-eq0-clause-inside
returns-then-n-eq0-clause-inside c = omega (arith, c.value_length-n.ensures, value_within c.args.text.now c.args.at c.requires)
