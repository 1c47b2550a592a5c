use Rattle.text.proofs.Putting.{PutSo}
use Rattle.text.proofs.write.put_text.Given as goal

abbrev pub invariant-loop-word : goal.invariant-loop-word
invariant-loop-word l = PutSo l.words l.rows l.width l.page l.word-index l.j
