-- `line::read::due_at` meets its contract: the key of an arm is the row's key of that number.
use mathlib.Core.List.{List, []}
use mathlib.Core.Path.{◌≡◌, sym, ap, ◌∙◌}
use Prim.Native.Nat.{ℕ, suc, ◌≤◌}
use native.Mathlib.Nat.{le_antisymm}
use native.Mathlib.Omega.{arith}
use lib.ListN.{get_or}
use Rattle.law.specs.Text.{row_keys}
use Rattle.law.specs.Reading.{line_at}
use Rattle.line.proofs.read.due_at.Goals as goal

-- the line of key k, where k is the number asked for
due : (text : List ℕ) (at j k : ℕ) → j ≡ k → line_at text at (get_or row_keys k []) ≡ line_at text at (get_or row_keys j [])
due text at j k e = ap (λ (z : ℕ). line_at text at (get_or row_keys z [])) (sym e)

above : (n k : ℕ) → k ≤ n → (n ≡ k → ⊥) → suc k ≤ n
above n k h e = omega arith

pub returns-in-0 : goal.returns-in-0
returns-in-0 c = record { found = c.line_at.ensures.found ∙ due _ _ _ 0 c.in-0.is; inside = c.line_at.ensures.inside }

pub returns-in-1 : goal.returns-in-1
returns-in-1 c = record { found = c.line_at-in-1.ensures.found ∙ due _ _ _ 1 c.in-1.is; inside = c.line_at-in-1.ensures.inside }

pub returns-in-2 : goal.returns-in-2
returns-in-2 c = record { found = c.line_at-in-2.ensures.found ∙ due _ _ _ 2 c.in-2.is; inside = c.line_at-in-2.ensures.inside }

pub returns-in-3 : goal.returns-in-3
returns-in-3 c = record { found = c.line_at-in-3.ensures.found ∙ due _ _ _ 3 c.in-3.is; inside = c.line_at-in-3.ensures.inside }

pub returns-in-4 : goal.returns-in-4
returns-in-4 c = record { found = c.line_at-in-4.ensures.found ∙ due _ _ _ 4 c.in-4.is; inside = c.line_at-in-4.ensures.inside }

pub returns-in-5 : goal.returns-in-5
returns-in-5 c = record { found = c.line_at-in-5.ensures.found ∙ due _ _ _ 5 c.in-5.is; inside = c.line_at-in-5.ensures.inside }

pub returns-in_default : goal.returns-in_default
returns-in_default c =
    let r = c.in_default.in_default-own.rest in
    let a = c.args in
    let two = above a.j 1 (above a.j 0 (omega arith) r.0.0.0.0.0.1) r.0.0.0.0.1 in
    let four = above a.j 3 (above a.j 2 two r.0.0.0.1) r.0.0.1 in
    let six : a.j ≡ 6 = le_antisymm (omega arith) (above a.j 5 (above a.j 4 four r.0.1) r.1) in
    record { found = c.line_at-in_default.ensures.found ∙ due a.text.now a.at a.j 6 six; inside = c.line_at-in_default.ensures.inside }
