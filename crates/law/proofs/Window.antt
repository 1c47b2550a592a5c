-- A window as a machine word: its marks are the word's set bits, and a shift with a cut is the law's.
use mathlib.Core.Bool.{Bool}
use mathlib.Core.Path.{◌≡◌, refl, sym, ap, ◌∙◌}
use Prim.Native.Nat.{ℕ, zero, suc, ◌+◌, ◌-◌, ◌*◌, ◌/◌, ◌%◌, ◌^◌, ◌≤◌, ◌<◌}
use native.Mathlib.Nat.{mul_comm, mod-lt, mod-eq_of_lt, mod-add-mod, mul-div_cancel, mul-mod_left, zero-add, div-one, pow-suc}
use native.Mathlib.Numerals.{one-add, add-one}
use native.Mathlib.Omega.{arith}
use lib.Arith.{mod-mul, lt-one}
use lib.Bits.{bit_and, bit_or, or_shifted, and_mask}
use lib.Count.{ones, ones_cat}
use lib.Dec.{eqb}
use lib.Pow.{pow_pos, shr-shr, high, field, ones_lt, ones_split, mod-pow-add, mod-mod-pow}
use Rattle.law.specs.Sums.{bit, among}
use Rattle.law.specs.Tick.{shifted, marks}
use Rattle.law.proofs.Sums.{among_size}

two : zero < 2
two = omega arith

marked : ℕ → ℕ → Bool
marked window b = eqb (window / 2 ^ b % 2) 1

ones_bit : (a : ℕ) → a < 2 → ones a ≡ bit (eqb a 1)
unfolding ones
ones_bit zero h = refl
ones_bit (suc zero) h = refl
ones_bit (suc (suc a)) h = absurd (omega arith)

ones_low : (window k : ℕ) → ones (window % 2 ^ k) ≡ among (marked window) 0 k
unfolding among marked ones
ones_low window zero = ap ones (lt-one (mod-lt window (pow_pos 0)))
ones_low window (suc k) =
    let b = window / 2 ^ k % 2 in
    ap (λ (z : ℕ). ones (window % 2 ^ z)) (sym (one-add k)) ∙ ap ones (mod-pow-add window 1 k)
    ∙ ones_cat k b (window % 2 ^ k) (mod-lt window (pow_pos k))
    ∙ omega (arith, ones_bit b (mod-lt (window / 2 ^ k) two), ones_low window k, ap (λ (z : ℕ). bit (marked window z)) (zero-add k))

pub shifted_low : (k window mark : ℕ) → shifted k window mark < 2 ^ k
unfolding shifted
shifted_low k window mark = mod-lt (2 * window + mark) (pow_pos k)

-- the met marks of a window are its set bits
pub marks_are_ones : (k window : ℕ) → window < 2 ^ k → ones window ≡ marks k window
unfolding marks marked
marks_are_ones k window h = ap ones (sym (mod-eq_of_lt h)) ∙ ones_low window k

-- the cut does not change the bits below it
cut_bit : (n j b : ℕ) → n % 2 ^ (suc j + b) / 2 ^ b % 2 ≡ n / 2 ^ b % 2
cut_bit n j b =
    ap (λ (z : ℕ). z % 2) (field n (suc j) b) ∙ ap (λ (z : ℕ). n / 2 ^ b % 2 ^ z % 2) (sym (add-one j)) ∙ mod-mod-pow (n / 2 ^ b) j 1

shifted_bit : (k window mark b : ℕ) → b < k → shifted k window mark / 2 ^ b % 2 ≡ (2 * window + mark) / 2 ^ b % 2
unfolding shifted
shifted_bit k window mark b h =
    let e : k ≡ suc (k - suc b) + b = omega arith in
    ap (λ (z : ℕ). (2 * window + mark) % 2 ^ z / 2 ^ b % 2) e ∙ cut_bit (2 * window + mark) (k - suc b) b

-- after a shift the newest bit is the mark that came in, and each older bit is the one before it
pub shift_newest : (k window mark : ℕ) → 0 < k → mark < 2 → shifted k window mark / 2 ^ 0 % 2 ≡ mark
shift_newest k window mark h l =
    shifted_bit k window mark 0 h ∙ ap (λ (z : ℕ). z % 2) (div-one (2 * window + mark)) ∙ omega arith

one_suc : (b : ℕ) → suc b ≡ 1 + b
one_suc b = omega arith

pub shift_older : (k window mark b : ℕ) → suc b < k → mark < 2 → shifted k window mark / 2 ^ suc b % 2 ≡ window / 2 ^ b % 2
shift_older k window mark b h l =
    let half : (2 * window + mark) / 2 ≡ window = omega arith in
    shifted_bit k window mark (suc b) h ∙ ap (λ (z : ℕ). (2 * window + mark) / 2 ^ z % 2) (one_suc b)
    ∙ ap (λ (z : ℕ). z % 2) (sym (shr-shr (2 * window + mark) 1 b)) ∙ ap (λ (z : ℕ). z / 2 ^ b % 2) half

mark_bit : (mark : ℕ) → mark < 2 → bit (eqb mark 1) ≡ mark
mark_bit zero h = refl
mark_bit (suc zero) h = refl
mark_bit (suc (suc mark)) h = absurd (omega arith)

-- the marks of no bits, and one mark more
pub marks_none : (window : ℕ) → marks 0 window ≡ 0
unfolding marks among
marks_none window = refl

pub marks_suc : (q window : ℕ) → marks (suc q) window ≡ marks q window + bit (eqb (window / 2 ^ q % 2) 1)
unfolding marks among marked
marks_suc q window = ap (λ (z : ℕ). marks q window + bit (marked window z)) (zero-add q)

pub marks_most : (q window : ℕ) → marks q window ≤ q
unfolding marks
marks_most q window = among_size _ 0 q

-- one mark more, read by a shift of the word
pub marks_next : (q window : ℕ) → marks q window + bit_and (window / 2 ^ q) 1 ≡ marks (suc q) window
marks_next q window =
    omega
    (arith, marks_suc q window, and_mask (window / 2 ^ q) 1, mark_bit (window / 2 ^ q % 2) (mod-lt (window / 2 ^ q) two))

-- the newest marks after a shift: the mark that came in, and one fewer of the marks before
pub shift_marks : (k window mark q : ℕ) → q < k → mark < 2 → marks (suc q) (shifted k window mark) ≡ marks q window + mark
shift_marks k window mark zero h l =
    omega (
      arith,
      marks_suc 0 (shifted k window mark),
      marks_none (shifted k window mark),
      marks_none window,
      ap (λ (z : ℕ). bit (eqb z 1)) (shift_newest k window mark h l),
      mark_bit mark l,
    )
shift_marks k window mark (suc q) h l =
    omega (
      arith,
      marks_suc (suc q) (shifted k window mark),
      marks_suc q window,
      shift_marks k window mark q (omega arith) l,
      ap (λ (z : ℕ). bit (eqb z 1)) (shift_older k window mark q h l),
    )

-- the oldest mark, which is cut at a shift, is bit k - 1 of the word: with it and without it
pub marks_oldest : (k window : ℕ) → 0 < k → marks (k - 1) window + bit_and (window / 2 ^ (k - 1)) 1 ≡ marks k window
marks_oldest k window h = let e : suc (k - 1) ≡ k = omega arith in marks_next (k - 1) window ∙ ap (λ (z : ℕ). marks z window) e

-- the number of met marks, amended: the mark that comes in is put to it, the mark that is cut is taken off
pub marks_amended : (k window mark : ℕ) → 0 < k → mark < 2
    → marks k window + mark - bit_and (window / 2 ^ (k - 1)) 1 ≡ marks k (shifted k window mark)
marks_amended k window mark h l =
    let e : suc (k - 1) ≡ k = omega arith in
    omega (
      arith,
      marks_oldest k window h,
      shift_marks k window mark (k - 1) (omega arith) l,
      ap (λ (z : ℕ). marks z (shifted k window mark)) e,
    )

-- a window of k met marks: each bit below k is set, so it holds k
pub full_bit : (k b : ℕ) → b < k → (2 ^ k - 1) / 2 ^ b % 2 ≡ 1
full_bit k b h =
    let e : k ≡ suc (k - suc b) + b = omega arith in
    ap (λ (z : ℕ). (2 ^ z - 1) / 2 ^ b % 2) e ∙ ap (λ (z : ℕ). z / 2 ^ b % 2) (ones_split (suc (k - suc b)) b)
    ∙ ap (λ (z : ℕ). z % 2) (high (2 ^ suc (k - suc b) - 1) b (ones_lt b))
    ∙ omega (arith, pow-suc 2 (k - suc b), pow_pos (k - suc b))

full_low : (k q : ℕ) → q ≤ k → marks q (2 ^ k - 1) ≡ q
full_low k zero h = marks_none (2 ^ k - 1)
full_low k (suc q) h =
    omega (
      arith,
      marks_suc q (2 ^ k - 1),
      full_low k q (omega arith),
      ap (λ (z : ℕ). bit (eqb z 1)) (full_bit k q (omega arith)),
    )

pub marks_full : (k : ℕ) → marks k (2 ^ k - 1) ≡ k
marks_full k = full_low k k (omega arith)

-- the word of k set bits, cut out of the whole word
pub cut_is : (k : ℕ) → k ≤ 64 → (2 ^ 64 - 1) / 2 ^ (64 - k) ≡ 2 ^ k - 1
cut_is k h =
    let e : k + (64 - k) ≡ 64 = omega arith in
    ap (λ (z : ℕ). (2 ^ z - 1) / 2 ^ (64 - k)) (sym e) ∙ ap (λ (z : ℕ). z / 2 ^ (64 - k)) (ones_split k (64 - k))
    ∙ high (2 ^ k - 1) (64 - k) (ones_lt (64 - k))

-- a shifted word is even
even_is : (window : ℕ) → window * 2 % 2 ^ 64 ≡ window % 2 ^ 63 * 2 ^ 1
even_is window =
    mod-mul (window * 2) {m = 2 ^ 63} {c = 2} (pow_pos 63) two
    ∙ omega (arith, ap (λ (z : ℕ). z % 2 ^ 63 * 2) (mul-div_cancel window two), mul-mod_left window 2)

pub shift_is : (k window mark : ℕ) → k ≤ 64 → mark ≤ 1
    → bit_and (bit_or (window * 2 % 2 ^ 64) mark) ((2 ^ 64 - 1) / 2 ^ (64 - k)) ≡ shifted k window mark
unfolding shifted
shift_is k window mark h l =
    let x = window * 2 in
    let e : (64 - k) + k ≡ 64 = omega arith in
    ap (λ (z : ℕ). bit_and (bit_or (x % 2 ^ 64) mark) z) (cut_is k h) ∙ and_mask (bit_or (x % 2 ^ 64) mark) k
    ∙ ap (λ (z : ℕ). bit_or z mark % 2 ^ k) (even_is window)
    ∙ ap (λ (z : ℕ). z % 2 ^ k) (or_shifted (window % 2 ^ 63) 1 mark (omega arith))
    ∙ ap (λ (z : ℕ). (z + mark) % 2 ^ k) (sym (even_is window))
    ∙ sym (mod-add-mod (x % 2 ^ 64) (2 ^ k) mark)
    ∙ ap (λ (z : ℕ). (x % 2 ^ z % 2 ^ k + mark) % 2 ^ k) (sym e)
    ∙ ap (λ (z : ℕ). (z + mark) % 2 ^ k) (mod-mod-pow x (64 - k) k)
    ∙ mod-add-mod x (2 ^ k) mark
    ∙ ap (λ (z : ℕ). (z + mark) % 2 ^ k) (mul_comm window 2)
