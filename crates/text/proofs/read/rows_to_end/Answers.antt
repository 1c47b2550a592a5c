use mathlib.Core.Path.{sym, ◌∙◌}
use Rattle.law.proofs.TextPlace.{rows_cut, rows_end, rows_more}
use Rattle.text.proofs.Readings.{told_err}
use Rattle.text.proofs.read.rows_to_end.Goals as goal

pub returns-in_err-rows_at-clause-read : goal.returns-in_err-rows_at-clause-read
returns-in_err-rows_at-clause-read c =
    told_err _ _ _ c.from_residual.ensures.0 ∙ sym (rows_cut _ _ _ _ _ (sym c.in_err-rows_at.ensures.read))

pub returns-then-reader-clause-read : goal.returns-then-reader-clause-read
returns-then-reader-clause-read c =
    sym (rows_more _ _ _ _ _ _ (sym c.in_ok-rows_at.ensures.read) (rw c.rows_at.ensures.text at c.if-reader.true))

pub returns-clause-read : goal.returns-clause-read
returns-clause-read c =
    sym (rows_end _ _ _ _ _ _ (sym c.in_ok-rows_at.ensures.read) (rw c.rows_at.ensures.text at c.if-reader.false))
