-- `line::put::put_bytes` meets its contract: so many bytes of the part stand at the place, the others are as they were.
use mathlib.Core.List.{List}
use mathlib.Core.Path.{◌≡◌, sym, ap, ◌∙◌}
use Prim.Native.Nat.{ℕ, ◌+◌}
use native.Mathlib.Numerals.{add-one}
use native.Mathlib.Omega.{arith}
use lib.ListN.{length, get_or, set}
use lib.Seq.{paste, paste-zero, paste-suc}
use Rattle.line.proofs.Pieces.{put_paste}
use Rattle.line.proofs.put.put_bytes.Goals as goal

pub loop-i-init : goal.loop-i-init
loop-i-init c = paste-zero c.args.out.now c.args.at c.args.part.now

pub loop-i-preserved : goal.loop-i-preserved
loop-i-preserved c =
    let l = c.loop-i in
    let a = c.args in
    ap (λ (z : List ℕ). set z (a.at + l.i) (get_or a.part.now l.i 0)) l.invariant
    ∙ paste-suc a.out.now a.at a.part.now l.i 0 (omega arith) (omega arith)
    ∙ ap (λ (z : ℕ). paste a.out.now a.at a.part.now z) (sym (add-one l.i))

pub returns : goal.returns
returns c =
    let l = c.loop-i in
    let a = c.args in
    let e : l.i ≡ length a.part.now = omega arith in
    record { place = omega arith; bytes = l.invariant ∙ ap (λ (z : ℕ). paste a.out.now a.at a.part.now z) e ∙ put_paste a.out.now a.at a.part.now }
