use mathlib.Core.Path.{sym}
use native.Mathlib.Omega.{arith}
use Rattle.law.proofs.TextAnswers.{words_read_lem, text_twelve_first, text_two, text_three, text_twelve, text_accepted}
use Rattle.text.proofs.read.rows_of.Goals as goal

pub returns-in_default-clause-answer : goal.returns-in_default-clause-answer
returns-in_default-clause-answer c = sym (text_twelve_first _ _ (sym c.in_default.ensures.value))

pub returns-then-rows-eq0-clause-answer : goal.returns-then-rows-eq0-clause-answer
returns-then-rows-eq0-clause-answer c = sym (text_two _ _ (sym c.in-Ok.ensures.value) c.if-rows-eq0.true)

pub returns-then-rows-gt32-clause-answer : goal.returns-then-rows-gt32-clause-answer
returns-then-rows-gt32-clause-answer c = sym (text_three _ _ (sym c.in-Ok.ensures.value) c.if-rows-gt32.true)

pub returns-in_default-rows_to_end-clause-answer : goal.returns-in_default-rows_to_end-clause-answer
returns-in_default-rows_to_end-clause-answer c =
    let rows = rw c.value_of.ensures.text at c.in_default-rows_to_end.ensures.read in
    sym (text_twelve _ _ (sym c.in-Ok.ensures.value) (omega (arith, c.if-rows-eq0.false)) c.if-rows-gt32.false (sym rows))

pub returns-clause-answer : goal.returns-clause-answer
returns-clause-answer c =
    let rows = rw c.value_of.ensures.text at c.in-Ok-rows_to_end.ensures.read in
    sym (text_accepted _ _ (sym c.in-Ok.ensures.value) (omega (arith, c.if-rows-eq0.false)) c.if-rows-gt32.false (sym rows))

pub returns-clause-words : goal.returns-clause-words
returns-clause-words c =
    let rows = rw c.value_of.ensures.text at c.in-Ok-rows_to_end.ensures.read in
    sym (words_read_lem _ _ (sym c.in-Ok.ensures.value) (sym rows))
