-- `verdict::stretch`: what the rows asked bring, and when the first of them releases.
use Rattle.law.specs.Table.{table_of}
use Rattle.verdict.proofs.Walk.{IsAskedUpTo}
use Rattle.verdict.proofs.stretch.Given as goal

abbrev pub invariant-loop-j : goal.invariant-loop-j
invariant-loop-j l = IsAskedUpTo (table_of l.table.words.now) l.row l.t l.j l.brought l.until
