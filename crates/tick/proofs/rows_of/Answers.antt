-- `tick::rows_of` meets its contract: the first word is the number of rows.
use mathlib.Core.Path.{sym}
use Rattle.rows.proofs.Words.{rows_are}
use Rattle.tick.proofs.rows_of.Goals as goal

pub returns : goal.returns
returns c = sym (rows_are c.args.words.now)
