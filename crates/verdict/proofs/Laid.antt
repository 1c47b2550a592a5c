-- A run of n words in whose first i words f 0, .., f (i - 1) are laid.
use mathlib.Core.List.{List, ◌++◌, append-nil}
use mathlib.Core.Path.{◌≡◌, refl, sym, ap, ◌∙◌}
use Prim.Native.Nat.{ℕ, ◌+◌, ◌≤◌, ◌<◌}
use native.Mathlib.Numerals.{add-one}
use native.Mathlib.Omega.{arith}
use lib.ListN.{length, take, set, drop_of_length-le}
use lib.Seq.{take_at, length-take-le}
use Rattle.law.specs.Sums.{build}
use Rattle.law.proofs.First.{build_length}
use Rattle.law.proofs.Fill.{filled, filled_none, filled_next, filled_is}

pub record IsLaidUpTo (f : ℕ → ℕ) (n : ℕ) (start items : List ℕ) (i : ℕ) : Type 0 where
  pub long : length start ≡ n
  pub laid : items ≡ filled (build f i) start

-- in the first n words of a run
pub laid_none : (f : ℕ → ℕ) (m n : ℕ) (run : List ℕ) → m ≡ n → n ≤ length run → IsLaidUpTo f n (take m run) (take m run) 0
unfolding build
laid_none f m n run e h = record { long = length-take-le m run (omega arith) ∙ e; laid = sym (filled_none (take m run)) }

module _ (f : ℕ → ℕ) (n : ℕ) (start items : List ℕ) (i : ℕ) (s : IsLaidUpTo f n start items i) where
  pub laid_next : i < length start → (v : ℕ) → v ≡ f i → IsLaidUpTo f n start (set items i v) (i + 1)
  unfolding build
  laid_next h v e =
      record {
        long = s.long;
        laid = ap (λ (z : List ℕ). set z i v) s.laid ∙ filled_next (build f i) start i v 0 (build_length f i) h ∙ rw (e, add-one) refl;
      }

  pub laid_all : length start ≤ i → i ≤ length start → items ≡ build f n
  laid_all h l =
      let e : i ≡ n = omega (arith, s.long) in
      s.laid ∙ filled_is (build f i) start i (build_length f i)
      ∙ ap (λ (z : List ℕ). build f i ++ z) (drop_of_length-le start h) ∙ append-nil (build f i)
      ∙ ap (build f) e

pub laid_front : (f : ℕ → ℕ) (items rest : List ℕ) (n : ℕ) → items ≡ build f n → take n (items ++ rest) ≡ build f n
laid_front f items rest n e = ap (λ (z : List ℕ). take n (z ++ rest)) e ∙ take_at (build f n) rest n (build_length f n)
