-- A window shows its row's newest settled jobs bit by bit, one more with each shift; if it shows every mandatory one met, it holds m marks.
use mathlib.Core.Bool.{Bool, true, false}
use mathlib.Core.Path.{◌≡◌, refl, sym, ap, ◌∙◌}
use Prim.Native.Nat.{ℕ, zero, suc, ◌+◌, ◌-◌, ◌/◌, ◌%◌, ◌^◌, ◌≤◌, ◌<◌}
use native.Mathlib.Decide.{dec_lt}
use native.Mathlib.Nat.{zero-add, sub-zero}
use native.Mathlib.Omega.{arith}
use lib.Dec.{eqb, ltb}
use borrow.Author.Tests.{lt-ltb, le-ltb}
use Rattle.law.specs.Sums.{bit, pick, among}
use Rattle.law.specs.Pattern.{IsPattern}
use Rattle.law.specs.Tick.{shifted, marks}
use Rattle.law.proofs.Pattern.{counted_among}
use Rattle.law.proofs.Sums.{among_size}
use Rattle.law.proofs.Tests.{bit_most, bit_mono}
use Rattle.law.proofs.Window.{shift_newest, shift_older, full_bit}

-- the mark of the b-th newest of z settled jobs; a met mark stands for each job before the first
abbrev pub mark_of_job : (ℕ → Bool) → ℕ → ℕ → ℕ
mark_of_job good z b = pick (ltb b z) (bit (good (z - 1 - b))) 1

-- bit b of a window of k marks is the mark of the b-th newest of z settled jobs
pub record Shows (k window : ℕ) (good : ℕ → Bool) (z : ℕ) : Type 0 where
  pub shown : (b : ℕ) → b < k → window / 2 ^ b % 2 ≡ mark_of_job good z b

mark_before : (good : ℕ → Bool) (z b : ℕ) → z ≤ b → mark_of_job good z b ≡ 1
mark_before good z b h = rw (le-ltb b z h)

mark_job : (good : ℕ → Bool) (z b : ℕ) → b < z → mark_of_job good z b ≡ bit (good (z - 1 - b))
mark_job good z b h = rw (lt-ltb b z h)

pub fresh_shows : (k : ℕ) (good : ℕ → Bool) → Shows k (2 ^ k - 1) good 0
fresh_shows k good =
    record { shown = λ b h. full_bit k b h ∙ sym (mark_before good 0 b (omega arith)) }

older_mark : (good : ℕ → Bool) (z b : ℕ) → mark_of_job good z b ≡ mark_of_job good (suc z) (suc b)
older_mark good z b =
    elim (dec_lt b z) [
      | yes l ↦ mark_job good z b l ∙ ap (λ (y : ℕ). bit (good y)) (omega arith)
          ∙ sym (mark_job good (suc z) (suc b) (omega arith))
      | no l ↦ mark_before good z b (omega arith) ∙ sym (mark_before good (suc z) (suc b) (omega arith))
    ]

-- a shift shows one more job
pub shift_shows : {k w z : ℕ} {good : ℕ → Bool} → Shows k w good z → (mark : ℕ) → mark ≡ bit (good z)
    → Shows k (shifted k w mark) good (suc z)
shift_shows {k} {w} {z} {good} s mark e = record { shown = go }
  where
    small : mark < 2
    small = omega (arith, bit_most (good z))

    go : (b : ℕ) → b < k → shifted k w mark / 2 ^ b % 2 ≡ mark_of_job good (suc z) b
    go zero h = shift_newest k w mark h small ∙ e ∙ ap (λ (y : ℕ). bit (good y)) (omega arith) ∙ sym (mark_job good (suc z) 0 (omega arith))
    go (suc b) h = shift_older k w mark b h small ∙ s.shown b (omega arith) ∙ older_mark good z b

bit_read : (b : Bool) → eqb (bit b) 1 ≡ b
bit_read true = refl
bit_read false = refl

abbrev is_mark : ℕ → ℕ → Bool
is_mark window b = eqb (window / 2 ^ b % 2) 1

-- a window holds m marks if every mandatory job that it shows is met
module _ {m k : ℕ} {kind : ℕ → Bool} {counted : ℕ → ℕ} (p : IsPattern m k kind counted) {window z : ℕ} {good : ℕ → Bool}
    (s : Shows k window good z) (kept : (a : ℕ) → kind a ≡ true → good a ≡ true) where
  mark_read : (j : ℕ) → j < k → is_mark window (0 + j) ≡ eqb (mark_of_job good z j) 1
  mark_read j h = ap (is_mark window) (zero-add j) ∙ ap (λ (y : ℕ). eqb y 1) (s.shown j h)

  mark_kept : (j : ℕ) → j < k → j < z → bit (kind (z - 1 - j)) ≤ bit (is_mark window (0 + j))
  mark_kept j h l =
      bit_mono (kind (z - 1 - j)) (is_mark window (0 + j))
      (λ e. mark_read j h ∙ ap (λ (y : ℕ). eqb y 1) (mark_job good z j l) ∙ bit_read (good (z - 1 - j)) ∙ kept (z - 1 - j) e)

  mark_old : (j : ℕ) → j < k → z ≤ j → bit (is_mark window (0 + j)) ≡ 1
  mark_old j h l = ap bit (mark_read j h ∙ ap (λ (y : ℕ). eqb y 1) (mark_before good z j l))

  same : (a b : ℕ) → a ≡ b → counted a ≡ counted b
  same a b e = ap counted e

  -- the newest j marks against the mandatory ones of these jobs
  newest : (j : ℕ) → j ≤ k → counted z + (j - z) ≤ among (is_mark window) 0 j + counted (z - j)
  unfolding among
  newest zero h = omega (arith, ap counted (sub-zero z))
  newest (suc j) h =
      elim (dec_lt j z) [
        | yes l ↦ omega (
          arith,
          newest j (omega arith),
          mark_kept j h l,
          p.step (z - 1 - j),
          same (suc (z - 1 - j)) (z - j) (omega arith),
          same (z - 1 - j) (z - suc j) (omega arith),
        )
        | no l ↦ omega (arith, newest j (omega arith), mark_old j h (omega arith), same (z - j) (z - suc j) (omega arith))
      ]

  pub enough_marks : m ≤ marks k window
  unfolding marks
  enough_marks =
      elim (dec_lt z k) [
        | yes l ↦ omega (
          arith,
          newest k (omega arith),
          p.none,
          p.turn 0,
          counted_among p z (k - z),
          among_size kind z (k - z),
          same (z - k) 0 (omega arith),
          same (z + (k - z)) (0 + k) (omega arith),
        )
        | no l ↦ omega (arith, newest k (omega arith), p.turn (z - k), same (z - k + k) z (omega arith))
      ]
