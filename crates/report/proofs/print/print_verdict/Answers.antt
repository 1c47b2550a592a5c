-- The two answers of the verdict, and the times as it left them.
use mathlib.Core.List.{List, [], ◌∷◌, ◌++◌, append_assoc}
use mathlib.Core.Path.{◌≡◌, refl, sym, ap, ◌∙◌, subst}
use Prim.Native.Nat.{ℕ}
use native.Mathlib.Omega.{arith}
use lib.ListN.{length, length-append}
use Rattle.law.specs.Refusal.{head}
use Rattle.law.specs.Table.{table_of}
use Rattle.law.specs.Text.{lines}
use Rattle.law.specs.Verdict.{misfit}
use Rattle.law.specs.Report.{unschedulable_line, at_key, number_lines, verdict_printed}
use Rattle.law.proofs.Verdict.{misfit_most}
use Rattle.line.specs.Put.{line_of}
use Rattle.line.proofs.Pieces.{line_most}
use Rattle.report.specs.Said.{Responded}
use Rattle.report.proofs.Numbers.{number_some}
use Rattle.report.proofs.Judged.{good_few, told_admitted, told_late}
use Rattle.report.proofs.print.print_verdict.Goals as goal

one_line : (v : ℕ) → line_of at_key v ≡ number_lines (at_key ∷ []) (v ∷ [])
unfolding lines line_of
one_line v = refl

pub put_line-requires : goal.put_line-requires
put_line-requires c =
    let t = told_late c.requires.1 _ _ (number_some c.in-Err.r) (rw c.requires.2 at c.in-Err.ensures.answer) in
    let v : c.place_or_zero.result ≡ misfit (table_of c.args.words.now) = c.place_or_zero.ensures ∙ ap head t.0 in (
      omega arith,
      (
        omega (arith, v, misfit_most (table_of c.args.words.now), good_few c.requires.1),
        omega (arith, line_most at_key c.place_or_zero.result, simp length-append at (ap length c.put-in-Err.ensures)),
      ),
    )

pub returns-in-Ok : goal.returns-in-Ok
returns-in-Ok c =
    let t = told_admitted c.requires.1 _ (rw c.requires.2 at c.in-Ok.ensures.answer) in
    record {
      bytes = c.put.ensures ∙ ap (λ (z : List ℕ). c.args.page.now ++ z) t.0;
      times = subst (Responded (table_of c.args.words.now)) (sym (rw c.requires.2 at c.judge.ensures.room)) t.1;
    }

pub returns-in-Err : goal.returns-in-Err
returns-in-Err c =
    let t = told_late c.requires.1 _ _ (number_some c.in-Err.r) (rw c.requires.2 at c.in-Err.ensures.answer) in
    let v = c.place_or_zero.result in
    let e : unschedulable_line ++ line_of at_key v ≡ verdict_printed (table_of c.args.words.now) =
    ap (λ (z : List ℕ). unschedulable_line ++ z) (one_line v ∙ ap (λ (z : ℕ). number_lines (at_key ∷ []) (z ∷ [])) (c.place_or_zero.ensures ∙ ap head t.0)) ∙ t.1 in
    record {
      bytes = c.put_line.ensures.line ∙ ap (λ (z : List ℕ). z ++ line_of at_key v) c.put-in-Err.ensures
          ∙ append_assoc c.args.page.now unschedulable_line (line_of at_key v) ∙ ap (λ (z : List ℕ). c.args.page.now ++ z) e;
      times = subst (Responded (table_of c.args.words.now)) (sym (rw c.requires.2 at c.judge.ensures.room)) t.2;
    }
