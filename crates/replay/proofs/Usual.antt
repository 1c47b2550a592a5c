-- The lemmas that most goals want.
use Rattle.rows.proofs.Words.{words_long}
use Rattle.replay.proofs.Passed.{replay_passed_on}
use Rattle.replay.proofs.Steps.{good_step}
use Rattle.replay.proofs.Read.{wait_read}
use Rattle.tick.proofs.Loops.{mapped_row}

pub ruleset usual = (words_long, replay_passed_on, good_step, wait_read, mapped_row)
