-- What is told is what the one call answered.
use Rattle.std.proofs.Common.{rules, refl}
use Rattle.outcome.proofs.Converted.{converted}
use Rattle.outcome.proofs.convert.Goals as goal

pub tell-requires : goal.tell-requires
tell-requires g c =
    c.requires.tellable _ _ _ (search rules)
    (record { given = _; lent = _; shows = (refl, refl); after = _; met = c.call-answer.ensures; leaves = refl })

pub returns : goal.returns
returns g c =
    converted g.F.FnOnce c.args.call _ _ _ _ _ _ _ _ _ _ _ (search rules) c.in_ok-n.ensures.first
    (record { given = _; lent = _; shows = (refl, refl); after = _; met = c.call-answer.ensures; leaves = refl })
    c.tell.ensures
