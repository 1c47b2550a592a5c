-- `tally::spare` meets its contract: the newest marks are taken in, and spare is still to come, from the number of the others down.
use mathlib.Core.Bool.{Bool}
use mathlib.Core.Path.{◌≡◌, sym, ap, ◌∙◌}
use Rattle.std.proofs.Common.{add-one}
use Prim.Native.Nat.{ℕ, ◌+◌, ◌-◌, ◌≤◌}
use native.Mathlib.Nat.{sub-zero}
use native.Mathlib.Omega.{arith}
use lib.Dec.{leb}
use borrow.Author.Tests.{le-leb, lt-leb}
use Rattle.law.specs.Tick.{marks, spare, still_hold}
use Rattle.law.proofs.First.{down_start, down_hit, down_end, down_next}
use Rattle.law.proofs.Window.{marks_none, marks_next}
use Rattle.tally.proofs.spare.Goals as goal

-- the test of the marks that were taken in
tested : (m k window taken : ℕ) (b : Bool) → taken ≤ k → leb m (marks taken window) ≡ b → still_hold m k window (k - taken) ≡ b
tested m k window taken b h t =
    let e : k - (k - taken) ≡ taken = omega arith in
    ap (λ (z : ℕ). leb m (marks z window)) e ∙ t

pub loop-taken-init : goal.loop-taken-init
loop-taken-init c = (rw (sub-zero c.args.k) (down_start _ _), sym (marks_none c.args.window))

pub returns-then-m-met : goal.returns-then-m-met
unfolding spare
returns-then-m-met c =
    let l = c.loop-taken in
    sym (down_hit l.invariant.0 (tested c.args.m c.args.k c.args.window l.taken _ (omega arith) (le-leb _ _ (omega (arith, l.invariant.1)))))

pub loop-taken-preserved : goal.loop-taken-preserved
loop-taken-preserved c =
    let l = c.loop-taken in
    let short = tested c.args.m c.args.k c.args.window l.taken _ (omega arith) (lt-leb _ _ (omega (arith, l.invariant.1))) in
    (down_next l.invariant.0 (c.args.k - (l.taken + 1)) (omega arith) short, rw add-one (omega (arith, l.invariant.1, marks_next l.taken c.args.window)))

pub returns : goal.returns
unfolding spare
returns c = sym (down_end c.loop-taken.invariant.0 (omega arith))
