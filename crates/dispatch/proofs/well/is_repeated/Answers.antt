-- `dispatch::well::is_repeated` meets its contract: the loop stands at the first earlier row with the id, or has passed only other ids.
use mathlib.Core.Path.{◌≡◌, sym, ap, ◌∙◌}
use Prim.Native.Nat.{ℕ}
use native.Mathlib.Omega.{arith}
use lib.Dec.{eqb}
use borrow.Author.Tests.{eq-eqb, ne_eqb, lt-ltb, le-ltb}
use Rattle.law.specs.Table.{Task, task_of, repeated}
use Rattle.law.specs.State.{row_of}
use Rattle.law.proofs.First.{searched_start, searched_hit, searched_next, searched_end}
use Rattle.rows.proofs.Words.{task_read}
use Rattle.dispatch.proofs.well.is_repeated.Invariants.{id_of, same}
use Rattle.dispatch.proofs.well.is_repeated.Goals.{After-word}
use Rattle.dispatch.proofs.well.is_repeated.Goals as goal

pub loop-j-init : goal.loop-j-init
unfolding id_of row_of task_of
loop-j-init c =
    (searched_start _ _, c.requires.0, c.requires.1, c.word-id.ensures ∙ ap (λ (z : Task). z.id) (task_read c.requires.0 c.args.i c.requires.1))

abbrev Turn : Type 0
Turn = After-word

-- in a turn: the test, by the ids that were read
told : (c : Turn) → same c.args.words.now c.args.i c.loop-j.j ≡ eqb c.word.result c.word-id.result
unfolding same id_of row_of task_of
told c =
    let l = c.loop-j in
    let e = c.word.ensures ∙ ap (λ (z : Task). z.id) (task_read l.invariant.1 l.j (omega (arith, c.loop-j-test.true, l.invariant.2))) in
    sym (ap (λ (z : ℕ). eqb z c.word-id.result) e ∙ ap (eqb (id_of c.args.words.now l.j)) l.invariant.3)

pub returns-then-word-id : goal.returns-then-word-id
unfolding repeated same id_of
returns-then-word-id c =
    let i = c.args.i in
    let found = searched_hit c.loop-j.invariant.0 c.loop-j-test.true (told (goal.at.returns-then-word-id c).After-word ∙ eq-eqb _ _ c.if-word-id.true) in
    sym (lt-ltb _ i (omega (arith, found, c.loop-j-test.true)))

pub loop-j-preserved : goal.loop-j-preserved
loop-j-preserved c =
    let l = c.loop-j.invariant in
    (searched_next l.0 c.loop-j-test.true (told (goal.at.loop-j-preserved c).After-word ∙ ne_eqb _ _ c.if-word-id.false), l.1, l.2, l.3)

pub returns : goal.returns
unfolding repeated same id_of
returns c =
    let i = c.args.i in
    sym (le-ltb _ i (omega (arith, searched_end c.loop-j.invariant.0 c.loop-j-test.false)))
