-- `Page::put_line` meets its contract: the line stands behind what stood on the page.
use mathlib.Core.Path.{ap, ◌∙◌}
use native.Mathlib.Omega.{arith}
use lib.ListN.{length, length-append}
use Rattle.line.specs.Put.{line_of}
use Rattle.line.proofs.Pieces.{page_put, line_most}
use Rattle.line.proofs.page.Page.put_line.Goals as goal

pub returns-clause-line : goal.returns-clause-line
returns-clause-line g c =
    let p = c.put_line-self-inside.ensures in
    page_put c.self.inside.bytes (line_of c.args.key.now c.args.v) c.self.view_is (omega (arith, c.self.invariant, c.self.told)) (omega (arith, c.requires.1, c.self.told)) p.bytes p.place

pub returns-clause-few : goal.returns-clause-few
returns-clause-few g c =
    let p = c.put_line-self-inside.ensures in
    let line = page_put c.self.inside.bytes (line_of c.args.key.now c.args.v) c.self.view_is (omega (arith, c.self.invariant, c.self.told)) (omega (arith, c.requires.1, c.self.told)) p.bytes p.place in
    omega (arith, ap length line ∙ length-append c.args.self.now (line_of c.args.key.now c.args.v), line_most c.args.key.now c.args.v)
