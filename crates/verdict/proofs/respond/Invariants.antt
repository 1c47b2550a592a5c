-- `verdict::respond`: the rows passed fit, and their response times are laid.
use Rattle.law.specs.Table.{table_of}
use Rattle.verdict.proofs.Responses.{IsFittingUpTo}
use Rattle.verdict.proofs.respond.Given as goal

abbrev pub invariant-loop-i : goal.invariant-loop-i
invariant-loop-i l = IsFittingUpTo (table_of l.table.words.now) l.initial.time-items l.time-items l.i
