use mathlib.Core.Path.{◌≡◌}
use lib.ListN.{length}
use Rattle.text.proofs.Readings.{RowSo}
use Rattle.text.proofs.read.row_at.Given as goal

abbrev pub invariant-loop-j : goal.invariant-loop-j
invariant-loop-j l =
    (l.reader.text ≡ l.initial.reader.text)
    × RowSo l.initial.reader.text.now l.initial.reader.at l.row (length l.initial.row) l.reader.at l.j
