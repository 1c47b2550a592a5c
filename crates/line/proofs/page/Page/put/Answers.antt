-- `Page::put` meets its contract: the part stands behind what stood on the page.
use native.Mathlib.Omega.{arith}
use Rattle.line.proofs.Pieces.{page_put}
use Rattle.line.proofs.page.Page.put.Goals as goal

pub returns : goal.returns
returns g c =
    let p = c.put_bytes-end.ensures in
    page_put c.self.inside.bytes c.args.part.now c.self.view_is (omega (arith, c.self.invariant, c.self.told)) (omega (arith, c.requires, c.self.told)) p.bytes (omega (arith, p.place))
