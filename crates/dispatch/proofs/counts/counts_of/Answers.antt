-- `dispatch::counts::counts_of` meets its contract: the row read is the state's, and a row past the last has no counts.
use mathlib.Core.List.{[], ◌∷◌}
use mathlib.Core.Path.{◌≡◌, refl, sym, ap, ◌∙◌, subst}
use Prim.Native.Nat.{ℕ, ◌≤◌}
use native.Mathlib.Omega.{arith}
use lib.ListN.{length, get_or, get_or-eq_default}
use Rattle.law.specs.Sums.{largest}
use Rattle.law.specs.Tick.{Row, no_row, spare}
use Rattle.law.specs.State.{state_of, counts_of}
use Rattle.rows.specs.Said.{row_said}
use Rattle.dispatch.specs.Shown.{counts_said}
use Rattle.rows.proofs.Words.{words_long, row_read}
use Rattle.dispatch.proofs.counts.counts_of.Goals.{After-row_at-r}
use Rattle.dispatch.proofs.counts.counts_of.Goals as goal

-- the counts of no row
none : counts_of no_row ≡ 0 ∷ 0 ∷ 0 ∷ 0 ∷ 0 ∷ 0 ∷ 0 ∷ []
unfolding counts_of spare largest
none = refl

pub returns-then-rows_of-i : goal.returns-then-rows_of-i
returns-then-rows_of-i c =
    let past : length (state_of c.args.words.now).rows ≤ c.args.i = omega (arith, c.rows_of.ensures, c.if-rows_of-i.true) in
    let d = c.default.ensures in
    let z : counts_said c.default.result ≡ 0 ∷ 0 ∷ 0 ∷ 0 ∷ 0 ∷ 0 ∷ 0 ∷ [] = rw (d.0, d.1.0, d.1.1.0, d.1.1.1.0, d.1.1.1.1.0, d.1.1.1.1.1.0, d.1.1.1.1.1.1) in
    z ∙ sym (ap counts_of (get_or-eq_default (state_of c.args.words.now).rows no_row past) ∙ none)

pub row_at-r-requires : goal.row_at-r-requires
row_at-r-requires c =
    let h = c.requires in
    (words_long h.laid, omega (arith, h.laid.few, c.rows_of.ensures, c.if-rows_of-i.false))

read : (c : After-row_at-r) → row_said c.row_at-r.result ≡ get_or (state_of c.args.words.now).rows c.args.i no_row
read c = c.row_at-r.ensures ∙ row_read _ _ (omega (arith, c.rows_of.ensures, c.if-rows_of-i.false))

pub spare-requires : goal.spare-requires
spare-requires c =
    let h = c.requires.sound.rows c.args.i (omega (arith, c.rows_of.ensures, c.if-rows_of-i.false)) in
    subst (λ (z : Row). z.core.task.k ≤ 64) (sym (read (goal.at.spare-requires c).After-row_at-r)) h.core.ranged.pair.k_high

pub returns : goal.returns
unfolding counts_of
returns c =
    let y = c.row_at-r.result.tally in
    ap (λ (z : ℕ). y.released ∷ y.mm ∷ y.mx ∷ y.om ∷ y.ox ∷ y.broken ∷ z ∷ []) c.spare.ensures ∙ ap counts_of (read (goal.at.returns c).After-row_at-r)
