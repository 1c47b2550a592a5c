-- `Page::put_due` meets its contract: the line that is due stands behind what stood on the page.
use mathlib.Core.List.{[]}
use native.Mathlib.Omega.{arith}
use lib.ListN.{get_or}
use Rattle.law.specs.Text.{row_keys}
use Rattle.line.specs.Put.{line_of}
use Rattle.line.proofs.Pieces.{page_put}
use Rattle.line.proofs.page.Page.put_due.Goals as goal

pub returns : goal.returns
returns g c =
    let p = c.put_due-self-inside.ensures in
    page_put c.self.inside.bytes (line_of (get_or row_keys c.args.j []) c.args.v) c.self.view_is (omega (arith, c.self.invariant, c.self.told)) (omega (arith, c.requires.2, c.self.told)) p.bytes p.place
