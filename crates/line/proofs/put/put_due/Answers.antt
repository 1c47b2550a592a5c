-- `line::put::put_due` meets its contract: the key of each arm is the one that is due at its number.
use mathlib.Core.List.{List, []}
use mathlib.Core.Path.{◌≡◌, sym, subst}
use Prim.Native.Nat.{ℕ, ◌+◌, ◌≤◌, ◌<◌}
use native.Mathlib.Omega.{arith}
use lib.ListN.{length, get_or}
use Rattle.law.specs.Text.{row_keys}
use Rattle.line.specs.Put.{put_at, line_of}
use Rattle.line.proofs.put.put_due.Goals.{In_default, Start}
use Rattle.line.proofs.put.put_due.Goals as goal

-- the line of key k, put at the place: what is asked before, and what is so after
abbrev Asked : Start → ℕ → Type 0
Asked s k =
    (s.args.v ≤ 4294967295) × (s.args.at + length (line_of (get_or row_keys k []) s.args.v) ≤ length s.args.out.now)

abbrev Put : Start → ℕ → List ℕ → ℕ → Type 0
Put s r last k =
    (r ≡ s.args.at + length (line_of (get_or row_keys k []) s.args.v))
    × (last ≡ put_at s.args.out.now s.args.at (line_of (get_or row_keys k []) s.args.v))

asked : (s : Start) (k : ℕ) → s.args.j ≡ k → Asked s k
asked s k e = subst (Asked s) e (s.requires.1, s.requires.2)

put : (s : Start) (r : ℕ) (last : List ℕ) (k : ℕ) → s.args.j ≡ k → Put s r last k → Put s r last s.args.j
put s r last k e h = subst (Put s r last) (sym e) h

-- the last arm
last-key : (c : In_default) → c.args.j ≡ 6
last-key c =
    let r = c.in_default.in_default-own.rest in
    let j = c.args.j in
    by j c.requires.0 r.0.0.0.0.0.1 r.0.0.0.0.1 r.0.0.0.1 r.0.0.1 r.0.1 r.1
  where
    by : (j : ℕ) → j < 7 → (j ≡ 0 → ⊥) → (j ≡ 1 → ⊥) → (j ≡ 2 → ⊥) → (j ≡ 3 → ⊥) → (j ≡ 4 → ⊥) → (j ≡ 5 → ⊥) → j ≡ 6
    by j h a b c d e f = omega arith

pub put_line-requires : goal.put_line-requires
put_line-requires c = asked (goal.at.put_line-requires c).Start 0 c.in-0.is

pub put_line-requires-in-1 : goal.put_line-requires-in-1
put_line-requires-in-1 c = asked (goal.at.put_line-requires-in-1 c).Start 1 c.in-1.is

pub put_line-requires-in-2 : goal.put_line-requires-in-2
put_line-requires-in-2 c = asked (goal.at.put_line-requires-in-2 c).Start 2 c.in-2.is

pub put_line-requires-in-3 : goal.put_line-requires-in-3
put_line-requires-in-3 c = asked (goal.at.put_line-requires-in-3 c).Start 3 c.in-3.is

pub put_line-requires-in-4 : goal.put_line-requires-in-4
put_line-requires-in-4 c = asked (goal.at.put_line-requires-in-4 c).Start 4 c.in-4.is

pub put_line-requires-in-5 : goal.put_line-requires-in-5
put_line-requires-in-5 c = asked (goal.at.put_line-requires-in-5 c).Start 5 c.in-5.is

pub put_line-requires-in_default : goal.put_line-requires-in_default
put_line-requires-in_default c = asked (goal.at.put_line-requires-in_default c).Start 6 (last-key (goal.at.put_line-requires-in_default c).In_default)

pub returns-in-0 : goal.returns-in-0
returns-in-0 c =
    let p = c.put_line in
    let both = put (goal.at.returns-in-0 c).Start p.result p.new.out 0 c.in-0.is (p.ensures.place, p.ensures.bytes) in record { place = both.0; bytes = both.1 }

pub returns-in-1 : goal.returns-in-1
returns-in-1 c =
    let p = c.put_line-in-1 in
    let both = put (goal.at.returns-in-1 c).Start p.result p.new.out 1 c.in-1.is (p.ensures.place, p.ensures.bytes) in record { place = both.0; bytes = both.1 }

pub returns-in-2 : goal.returns-in-2
returns-in-2 c =
    let p = c.put_line-in-2 in
    let both = put (goal.at.returns-in-2 c).Start p.result p.new.out 2 c.in-2.is (p.ensures.place, p.ensures.bytes) in record { place = both.0; bytes = both.1 }

pub returns-in-3 : goal.returns-in-3
returns-in-3 c =
    let p = c.put_line-in-3 in
    let both = put (goal.at.returns-in-3 c).Start p.result p.new.out 3 c.in-3.is (p.ensures.place, p.ensures.bytes) in record { place = both.0; bytes = both.1 }

pub returns-in-4 : goal.returns-in-4
returns-in-4 c =
    let p = c.put_line-in-4 in
    let both = put (goal.at.returns-in-4 c).Start p.result p.new.out 4 c.in-4.is (p.ensures.place, p.ensures.bytes) in record { place = both.0; bytes = both.1 }

pub returns-in-5 : goal.returns-in-5
returns-in-5 c =
    let p = c.put_line-in-5 in
    let both = put (goal.at.returns-in-5 c).Start p.result p.new.out 5 c.in-5.is (p.ensures.place, p.ensures.bytes) in record { place = both.0; bytes = both.1 }

pub returns-in_default : goal.returns-in_default
returns-in_default c =
    let p = c.put_line-in_default in
    let both = put (goal.at.returns-in_default c).Start p.result p.new.out 6 (last-key (goal.at.returns-in_default c).In_default) (p.ensures.place, p.ensures.bytes) in record { place = both.0; bytes = both.1 }
