use Rattle.std.proofs.Common.{rules}
use Rattle.stand.proofs.Told.{told}
use Rattle.stand.proofs.print.Goals as goal

pub returns : goal.returns
returns g c = told _ _ _ _ _ _ _ (search rules) c.in_ok-n.ensures.first c.put_printed-m.ensures.bytes c.write_all.ensures.bytes
