-- `replay::step::enough` meets its contract: no more rows release than there are.
use mathlib.Core.Path.{sym, ◌∙◌}
use native.Mathlib.Omega.{arith}
use lib.ListN.{length}
use borrow.Author.Tests.{le-leb}
use Rattle.law.specs.State.{state_of}
use Rattle.law.specs.Replay.{releases}
use Rattle.law.proofs.Replay.{releases_most}
use Rattle.replay.proofs.step.enough.Goals as goal

pub returns-then-rows_of-left : goal.returns-then-rows_of-left
returns-then-rows_of-left c =
    let rows = (state_of c.args.words.now).rows in
    le-leb _ _ c.if-rows_of-left.true ∙ sym (le-leb (releases rows (length rows)) c.args.left (omega (arith, releases_most rows (length rows), c.if-rows_of-left.true, c.rows_of.ensures)))
