-- One line, and a second where a row or a place goes with the refusal.
use mathlib.Core.List.{List, [], ◌∷◌, ◌++◌, append_assoc}
use mathlib.Core.Path.{◌≡◌, refl, ap, ◌∙◌}
use Prim.Native.Nat.{ℕ}
use native.Mathlib.Omega.{arith}
use lib.ListN.{length, length-append}
use Rattle.law.specs.Report.{refused_key, at_key, refusal_printed}
use Rattle.law.specs.Text.{lines}
use Rattle.line.specs.Put.{line_of}
use Rattle.line.proofs.Pieces.{line_most, number_small}
use Rattle.line.proofs.page.Page.put_refusal.Goals as goal

-- what is printed: one line or two
one : {n m : ℕ} {also : List ℕ} → n ≡ m → [] ≡ also → line_of refused_key n ≡ refusal_printed m also
unfolding lines line_of
one e f = rw (← e, ← f) refl

two : {n m p : ℕ} {also : List ℕ} → n ≡ m → p ∷ [] ≡ also → line_of refused_key n ++ line_of at_key p ≡ refusal_printed m also
unfolding lines line_of
two e f = rw (← e, ← f) (simp append_assoc)

pub put_line-requires : goal.put_line-requires
put_line-requires g c = (
  omega arith,
  (omega (arith, c.number.ensures, number_small c.args.r), omega (arith, line_most refused_key c.number.result)),
)

pub put_line-requires-in-Some : goal.put_line-requires-in-Some
put_line-requires-in-Some g c = (
  omega arith,
  (
    c.in-Some.ensures.small,
    omega (
      arith,
      line_most refused_key c.number.result,
      line_most at_key c.in-Some.place,
      simp length-append at (ap length c.put_line.ensures.line),
    ),
  ),
)

pub returns-in-Some : goal.returns-in-Some
returns-in-Some g c =
    c.put_line-in-Some.ensures.line ∙ ap (λ (l : List ℕ). l ++ line_of at_key c.in-Some.place) c.put_line.ensures.line
    ∙ append_assoc c.args.self.now (line_of refused_key c.number.result) (line_of at_key c.in-Some.place)
    ∙ ap (λ (l : List ℕ). c.args.self.now ++ l) (two c.number.ensures c.in-Some.ensures.place)

pub returns-in_default : goal.returns-in_default
returns-in_default g c = rw (c.put_line.ensures.line, one c.number.ensures c.in_default.ensures.place)
