use mathlib.Core.Path.{sym, ap, ◌∙◌}
use Prim.Native.Nat.{ℕ, ◌+◌}
use native.Mathlib.Omega.{arith}
use Rattle.law.specs.Reading.{value_at}
use Rattle.law.proofs.TextLine.{key_high, line_cut, line_on}
use Rattle.line.proofs.read.line_at.Goals as goal

pub returns-then-n-key-clause-found : goal.returns-then-n-key-clause-found
returns-then-n-key-clause-found c =
    let k = c.keyed_at-n in
    let a = c.args in
    sym (line_cut _ _ _ _ (sym k.ensures.many) (omega (arith, k.ensures.many, key_high a.text.now a.at a.key.now)))

pub returns-clause-found : goal.returns-clause-found
returns-clause-found c =
    let k = c.keyed_at-n in
    let a = c.args in
    c.value_at.ensures.found ∙ ap (λ (z : ℕ). value_at a.text.now (a.at + z)) c.if-n-key.false
    ∙ sym (line_on _ _ _ (sym k.ensures.many ∙ c.if-n-key.false))
