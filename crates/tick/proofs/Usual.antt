-- The lemmas that most goals want.
use Rattle.rows.proofs.Words.{words_long, row_read, says}
use Rattle.tick.proofs.Loops.{mapped_row}

pub ruleset usual = (words_long, row_read, mapped_row, says)
