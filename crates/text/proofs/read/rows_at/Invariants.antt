use mathlib.Core.Path.{◌≡◌}
use Rattle.text.proofs.Readings.{RowsSo}
use Rattle.text.proofs.read.rows_at.Given as goal

abbrev pub invariant-loop-i : goal.invariant-loop-i
invariant-loop-i l =
    (l.reader.text ≡ l.initial.reader.text)
    × RowsSo l.initial.reader.text.now l.initial.reader.at l.rows l.width l.words l.reader.at l.i
