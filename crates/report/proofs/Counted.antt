-- The counts of a row of a well-formed state are numbers of 32 bits, and rows are printed one behind the other.
use mathlib.Core.List.{List, [], ◌∷◌, ◌++◌, append_assoc, append-nil}
use mathlib.Core.Path.{◌≡◌, refl, sym, ap, ◌∙◌}
use Prim.Native.Nat.{ℕ, ◌+◌, ◌*◌, ◌≤◌}
use native.Mathlib.Numerals.{add-one}
use native.Mathlib.Omega.{arith}
use lib.ListN.{length, length-append}
use borrow.Author.Tests.{le-leb}
use Rattle.law.specs.Sums.{every}
use Rattle.law.specs.Table.{Task}
use Rattle.law.specs.Tick.{Row, State, clock_end}
use Rattle.law.specs.State.{counts_of, settled_counts}
use Rattle.law.specs.Sound.{SoundRow}
use Rattle.law.specs.Report.{row_printed, rows_printed}
use Rattle.law.proofs.Report.{row_most}
use Rattle.law.proofs.Spare.{spare_high}
use Rattle.law.proofs.Tests.{both_true}
use Rattle.report.specs.Said.{Small}

pub small_cons : (v : ℕ) (values : List ℕ) → v ≤ 4294967295 → Small values → Small (v ∷ values)
unfolding every
small_cons v values h s = both_true _ _ (le-leb v 4294967295 h) s

small_none : Small []
unfolding every
small_none = refl

pub counts_small : {time : ℕ} {r : Row} → SoundRow 0 time r → time ≤ clock_end → Small (counts_of r)
unfolding counts_of
counts_small {time} {r} s early =
    let y = r.tally in
    let t = s.tally in
    let k = s.core.ranged.pair.k_high in
    let settled : settled_counts y ≤ 4294967295 = omega (arith, t.balance, t.released) in
    small_cons y.released _ (omega (arith, t.released))
    (small_cons y.mm _ (omega arith)
    (small_cons y.mx _ (omega arith)
    (small_cons y.om _ (omega arith)
    (small_cons y.ox _ (omega arith)
    (small_cons y.broken _ (omega (arith, t.broken))
    (small_cons _ [] (omega (arith, spare_high r.core.task.m r.core.task.k y.window)) small_none))))))

-- the first i rows stand behind what stood there
pub record Printing (tasks : List Task) (s : State) (old page : List ℕ) (i : ℕ) : Type 0 where
  pub bytes : page ≡ old ++ rows_printed tasks s i
  pub few : length page ≤ length old + i * 169

pub printing_start : (tasks : List Task) (s : State) (old : List ℕ) → Printing tasks s old old 0
unfolding rows_printed
printing_start tasks s old = record { bytes = sym (append-nil old); few = omega arith }

pub printing_next : {tasks : List Task} {s : State} {old page : List ℕ} {i : ℕ} {new : List ℕ} → Printing tasks s old page i
    → new ≡ page ++ row_printed tasks s i → Printing tasks s old new (i + 1)
unfolding rows_printed
printing_next {tasks} {s} {old} {page} {i} p e =
    rw (add-one i)
    record {
      bytes = e ∙ ap (λ (z : List ℕ). z ++ row_printed tasks s i) p.bytes ∙ append_assoc old (rows_printed tasks s i) (row_printed tasks s i);
      few = omega (arith, p.few, row_most tasks s i, simp length-append at (ap length e));
    }
