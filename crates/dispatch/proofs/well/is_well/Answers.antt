-- `dispatch::well::is_well` meets its contract: what is left after the tests before is the law's last three.
use mathlib.Core.Bool.{Bool, true, false}
use mathlib.Core.List.{List}
use mathlib.Core.Path.{◌≡◌, sym, ap, ◌∙◌}
use Prim.Native.Nat.{ℕ, ◌+◌, ◌-◌, ◌*◌, ◌≤◌, ◌<◌}
use native.Mathlib.Omega.{arith}
use lib.Dec.{leb, eqb}
use lib.ListN.{length, get_or, take, drop, length-drop}
use lib.Seq.{take_all}
use borrow.Author.Tests.{le-leb, lt-leb}
use Rattle.law.specs.Sums.{both, every}
use Rattle.law.specs.Refusal.{within}
use Rattle.law.proofs.Tests.{never_both}
use Rattle.dispatch.proofs.Saved.{last_on}
use Rattle.dispatch.proofs.well.is_well.Goals.{then-words-time, else-words-time}
use Rattle.dispatch.proofs.well.is_well.Goals as goal

-- the last three tests, where the first of them that fails tells, or the third
all_pass : (a b n : ℕ) (words : List ℕ) (r c : Bool) → a ≤ b → r ≡ true → c ≡ every (λ w. eqb w 0) (take (length words - n) (drop n words))
    → c ≡ both (leb a b) (both r (every (λ w. eqb w 0) (drop n words)))
all_pass a b n words r c h e f =
    f ∙ ap (every (λ w. eqb w 0)) (take_all (length words - n) (drop n words) (omega (arith, length-drop n words))) ∙ sym (rw (le-leb a b h, e))

row_fails : (a b : ℕ) (r c : Bool) → a ≤ b → r ≡ false → false ≡ both (leb a b) (both r c)
row_fails a b r c h e = sym (rw (le-leb a b h, e))

idle_fails : (a b : ℕ) (c : Bool) → b < a → false ≡ both (leb a b) c
idle_fails a b c h = sym (rw (lt-leb a b h))

pub returns-then-rows_well : goal.returns-then-rows_well
returns-then-rows_well c =
    let words = c.args.words.now in
    let rows : within 1 32 (get_or words 0 0) ≡ true = sym c.is_within.ensures ∙ c.if-not-is_within.false in
    let told = last_on words c.if-words-ne-STATE_WORDS.false rows (sym c.table_clean.ensures ∙ c.if-not-table_clean.false) c.if-time-gt4294967295.false in
    elim c.if-words-time.branch [
      | then-words-time w ↦ all_pass _ _ (3 + get_or words 0 0 * 20) words _ _ w.if-words-time.true (sym w.rows_well.ensures ∙ sym w.value-is ∙ c.if-rows_well.true) c.is_clear.ensures
          ∙ told
      | else-words-time w ↦ absurd (never_both _ c.if-rows_well.true (w.value-is ∙ lt-leb _ _ w.if-words-time.false))
    ]

pub returns-else-rows_well : goal.returns-else-rows_well
returns-else-rows_well c =
    let words = c.args.words.now in
    let rows : within 1 32 (get_or words 0 0) ≡ true = sym c.is_within.ensures ∙ c.if-not-is_within.false in
    let told = last_on words c.if-words-ne-STATE_WORDS.false rows (sym c.table_clean.ensures ∙ c.if-not-table_clean.false) c.if-time-gt4294967295.false in
    elim c.if-words-time.branch [
      | then-words-time w ↦ c.if-rows_well.false
          ∙ row_fails _ _ _ _ w.if-words-time.true (sym w.rows_well.ensures ∙ sym w.value-is ∙ c.if-rows_well.false) ∙ told
      | else-words-time w ↦ w.value-is ∙ lt-leb _ _ w.if-words-time.false ∙ idle_fails _ _ _ w.if-words-time.false ∙ told
    ]
