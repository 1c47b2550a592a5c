-- `dispatch::start::lay_fresh` meets its contract: from all-zero words with their number of rows, each row passed is fresh.
use mathlib.Core.List.{List}
use Prim.Native.Nat.{ℕ}
use lib.ListN.{length}
use Rattle.law.specs.Table.{Task, table_of, row}
use Rattle.law.specs.Tick.{Row, fresh_row}
use Rattle.law.proofs.Laid.{blank}
use Rattle.tick.proofs.Loops.{Mapped}
use Rattle.dispatch.proofs.start.lay_fresh.Given as goal

unfoldable pub fresh_at : List Task → ℕ → Row → Row
fresh_at tasks i r = fresh_row (row tasks i)

abbrev pub invariant-loop-i : goal.invariant-loop-i
invariant-loop-i l = let tasks = table_of l.table.words.now in Mapped (fresh_at tasks) (blank (length tasks)) l.words (length tasks) l.i
