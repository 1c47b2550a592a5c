-- `line::refused::put_refusal` meets its contract: what stands on a page of 33 bytes is no longer than that.
use mathlib.Core.List.{List, ◌++◌}
use mathlib.Core.Path.{ap, ◌∙◌}
use native.Mathlib.Omega.{arith}
use lib.ListN.{length}
use Rattle.law.specs.Report.{refusal_printed, placed}
use Rattle.law.proofs.Report.{refusal_most}
use Rattle.refusal.specs.Shown.{number_of, also_of}
use Rattle.line.proofs.refused.put_refusal.Goals as goal

pub put_bytes-requires : goal.put_bytes-requires
put_bytes-requires c =
    let r = c.args.r in
    let also = placed c.args.start (number_of r) (also_of r) in
    let all = c.as_slice.ensures ∙ c.put_refusal.ensures ∙ ap (λ (l : List _). l ++ refusal_printed (number_of r) also) c.new-page.ensures in
    omega (arith, c.requires.0, refusal_most (number_of r) also, ap length all)
