-- `dispatch::well::is_clear` meets its contract: all are 0 where those put together so far are, and those from i on.
use mathlib.Core.Bool.{Bool, true, false}
use mathlib.Core.Path.{◌≡◌, refl, sym, ap, ◌∙◌}
use Prim.Native.Nat.{ℕ, zero, suc, ◌+◌, ◌<◌}
use native.Mathlib.Omega.{arith}
use lib.Bits.{bit_or, or_zero_l, or_add_and, and_le_r}
use lib.Dec.{eqb}
use mathlib.Core.List.{List}
use lib.ListN.{length, get_or, drop}
use borrow.Author.Tests.{ne_eqb}
use Rattle.law.specs.Sums.{both, every}
use Rattle.law.proofs.Sums.{every_next, every_end}
use Rattle.dispatch.proofs.well.is_clear.Invariants.{clear}
use Rattle.dispatch.proofs.well.is_clear.Goals as goal

-- two words put together are 0 where both are
clear_both : (a b : ℕ) → clear (bit_or a b) ≡ both (clear a) (clear b)
unfolding clear
clear_both zero b = ap (λ (z : ℕ). eqb z 0) (or_zero_l b)
clear_both (suc a) b =
    ne_eqb (bit_or (suc a) b) 0 (λ e. omega (arith, or_add_and (suc a) b, and_le_r (suc a) b))
    ∙ sym (ap (λ (z : Bool). both z (eqb b 0)) (ne_eqb (suc a) 0 (λ e. omega arith)))

both-nested : (a b c : Bool) → both a (both b c) ≡ both (both a b) c
both-nested true b c = refl
both-nested false b c = refl

clear_next : (any : ℕ) (words : List ℕ) (i : ℕ) → i < length words
    → both (clear any) (every clear (drop i words)) ≡ both (clear (bit_or any (get_or words i 0))) (every clear (drop (i + 1) words))
clear_next any words i h =
    ap (both (clear any)) (every_next clear words 0 i h) ∙ both-nested (clear any) (clear (get_or words i 0)) (every clear (drop (i + 1) words))
    ∙ ap (λ (z : Bool). both z (every clear (drop (i + 1) words))) (sym (clear_both any (get_or words i 0)))

both_end : (a : Bool) → both a true ≡ a
both_end true = refl
both_end false = refl

pub loop-word-init : goal.loop-word-init
unfolding clear
loop-word-init c = refl

pub loop-word-preserved : goal.loop-word-preserved
loop-word-preserved c =
    let l = c.loop-word in
    l.invariant ∙ clear_next l.any c.args.words.now l.word-index c.loop-word-test.true

pub returns : goal.returns
unfolding clear
returns c =
    let l = c.loop-word in
    sym (l.invariant ∙ ap (both (clear l.any)) (every_end clear _ 0 l.word-index c.loop-word-test.false) ∙ both_end (clear l.any))
