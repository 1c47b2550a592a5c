-- A stretch: what rows above bring is the same at each of its ticks, so that t less that is largest at its end. And what a walk from stretch to stretch, with
-- its leaps, knows of the room.
use mathlib.Core.List.{List}
use mathlib.Core.Path.{◌≡◌, refl, ap}
use Prim.Native.Nat.{ℕ, zero, suc, ◌+◌, ◌-◌, ◌*◌, ◌≤◌, ◌<◌, min, max}
use native.Mathlib.Decide.{dec_lt}
use native.Mathlib.Nat.{le_antisymm}
use native.Mathlib.Numerals.{add-one}
use native.Mathlib.Omega.{arith}
use lib.ListN.{length}
use borrow.Author.Tests.{le-leb, lt-leb}
use Rattle.law.specs.Sums.{sum, smaller, ceil}
use Rattle.law.specs.Table.{Task, row, count_of, Ranged, WellFormed}
use Rattle.law.specs.Verdict.{demand, above}
use Rattle.law.specs.Room.{room_at, room}
use Rattle.law.proofs.Ceil.{ceil_low, ceil_high, ceil_only}
use Rattle.law.proofs.Sums.{sum_cong}
use Rattle.law.proofs.Verdict.{above_mono, above_small}
use Rattle.law.proofs.Room.{room_at_lem, room_least, room_most}
use Rattle.verdict.specs.Stretch.{lowest, next_release, until_of}

-- the smaller of two numbers
module _ (a b : ℕ) where
  pub smaller_is : a ≤ b → smaller a b ≡ a
  smaller_is h = rw (le-leb a b h)

  pub smaller_else : b < a → smaller a b ≡ b
  smaller_else h = rw (lt-leb a b h)

  pub smaller_min : min a b ≡ smaller a b
  smaller_min = elim (dec_lt b a) [ yes h ↦ omega (arith, smaller_else h) | no h ↦ omega (arith, smaller_is (omega arith)) ]

-- the smallest of an end and n values: none of them is smaller, and what is no larger than any is no larger than it
module _ (end : ℕ) (f : ℕ → ℕ) where
  lowest_end : (n : ℕ) → lowest end f n ≤ end
  unfolding lowest
  lowest_end zero = omega arith
  lowest_end (suc n) =
      elim (dec_lt (f n) (lowest end f n)) [
        | yes h ↦ omega (arith, smaller_else (lowest end f n) (f n) h, lowest_end n)
        | no h ↦ omega (arith, smaller_is (lowest end f n) (f n) (omega arith), lowest_end n)
      ]

  lowest_at : (n j : ℕ) → j < n → lowest end f n ≤ f j
  unfolding lowest
  lowest_at zero j l = absurd (omega arith)
  lowest_at (suc n) j l =
      elim (dec_lt (f n) (lowest end f n)) [
        | yes h ↦ let e = smaller_else (lowest end f n) (f n) h in elim (dec_lt j n) [
          | yes k ↦ omega (arith, e, lowest_at n j k)
          | no k ↦ let same : j ≡ n = omega arith in rw same (omega (arith, e))
        ]
        | no h ↦ let e = smaller_is (lowest end f n) (f n) (omega arith) in elim (dec_lt j n) [
          | yes k ↦ omega (arith, e, lowest_at n j k)
          | no k ↦ let same : j ≡ n = omega arith in rw same (omega (arith, e))
        ]
      ]

  lowest_least : (b n : ℕ) → b ≤ end → ((j : ℕ) → j < n → b ≤ f j) → b ≤ lowest end f n
  unfolding lowest
  lowest_least b zero l h = l
  lowest_least b (suc n) l h =
      elim (dec_lt (f n) (lowest end f n)) [
        | yes k ↦ omega (arith, smaller_else (lowest end f n) (f n) k, h n (omega arith))
        | no k ↦ omega (arith, smaller_is (lowest end f n) (f n) (omega arith), lowest_least b n l (λ j q. h j (omega arith)))
      ]

module _ (r : Task) (h : Ranged r) (t : ℕ) where
  pub next_from : t ≤ next_release r t
  unfolding next_release
  next_from = ceil_low t r.t h.t_low

  -- up to its next release a row brings no more
  same_demand : (u : ℕ) → t ≤ u → u ≤ next_release r t → demand r u ≡ demand r t
  unfolding demand next_release
  same_demand u l k =
      ap (λ (q : ℕ). r.c * count_of r q)
      (ceil_only u r.t (ceil t r.t) h.t_low k (omega (arith, ceil_high t r.t h.t_low)))

module _ (tasks : List Task) (w : WellFormed tasks) (i : ℕ) (h : i < length tasks) (t : ℕ) where
  pub until_end : until_of tasks i t ≤ (row tasks i).d
  unfolding until_of
  until_end = lowest_end (row tasks i).d (λ j. next_release (row tasks j) t) i

  pub until_from : t ≤ (row tasks i).d → t ≤ until_of tasks i t
  unfolding until_of
  until_from l =
      lowest_least (row tasks i).d (λ j. next_release (row tasks j) t) t i l (λ j q. next_from (row tasks j) (w.ranged j (omega arith)) t)

  same_above : (u : ℕ) → t ≤ u → u ≤ until_of tasks i t → above tasks i u ≡ above tasks i t
  unfolding until_of
  same_above u l k =
      sum_cong (λ j. demand (row tasks j) u) (λ j. demand (row tasks j) t) i
      (λ j q. same_demand (row tasks j) (w.ranged j (omega arith)) t u l (omega (arith, lowest_at (row tasks i).d (λ j. next_release (row tasks j) t) i j q)))

  -- the room at the end of the stretch
  pub end_room : t ≤ (row tasks i).d → room_at tasks i (until_of tasks i t) ≡ until_of tasks i t - above tasks i t
  unfolding room_at
  end_room l = ap (λ (z : ℕ). until_of tasks i t - z) (same_above (until_of tasks i t) (until_from l) (omega arith))

  -- "nothing between can be larger"
  pub nothing_between : (u : ℕ) → t ≤ u → u ≤ until_of tasks i t → room_at tasks i u ≤ room_at tasks i (until_of tasks i t)
  unfolding room_at
  nothing_between u l k = omega (arith, same_above u l k, same_above (until_of tasks i t) (omega arith) (omega arith))

-- of the rows above row i the first j are asked: what they bring by t, and when the first of them releases, the end of the row's own ticks at the latest
pub record IsAskedUpTo (tasks : List Task) (i t j brought until : ℕ) : Type 0 where
  pub brought_is : brought ≡ above tasks j t
  pub until_is : until ≡ lowest (row tasks i).d (λ j. next_release (row tasks j) t) j

pub none_asked : (tasks : List Task) (i t until : ℕ) → until ≡ (row tasks i).d → IsAskedUpTo tasks i t 0 0 until
unfolding sum lowest
none_asked tasks i t until e = record { brought_is = refl; until_is = e }

pub one_asked : (tasks : List Task) (i t j brought until : ℕ) (r : Task) → IsAskedUpTo tasks i t j brought until → r ≡ row tasks j
    → (x y z : ℕ) → x ≡ demand r t → y ≡ next_release r t → z ≡ min until y → IsAskedUpTo tasks i t (j + 1) (brought + x) z
unfolding sum lowest
one_asked tasks i t j brought until r s e x y z b u f =
    record {
      brought_is = rw (add-one, b, e, s.brought_is) refl;
      until_is = rw (add-one, f, smaller_min, u, e, s.until_is) refl;
    }

-- what a walk that has come to t knows: the best found is no more than the room, and no tick before t has more to give
pub record Walked (tasks : List Task) (i t best : ℕ) : Type 0 where
  pub started : 1 ≤ t
  pub no_more : best ≤ room tasks i
  pub passed : (u : ℕ) → 1 ≤ u → u < t → u ≤ (row tasks i).d → room_at tasks i u ≤ best

pub walked_start : (tasks : List Task) (i d best : ℕ) → d ≡ (row tasks i).d → 1 ≤ d → best ≡ room_at tasks i d → Walked tasks i 1 best
walked_start tasks i d best e low b =
    record {
      started = omega arith;
      no_more = rw (b, e) (room_at_lem tasks i (row tasks i).d (omega arith) (omega arith));
      passed = λ u l k q. absurd (omega arith);
    }

module _ {tasks : List Task} {i t best : ℕ} (s : Walked tasks i t best) where
  pub walked_end : (row tasks i).d < t → best ≡ room tasks i
  walked_end h = le_antisymm s.no_more (room_least tasks i best (λ u l k. s.passed u l (omega arith) k))

  -- one stretch on, with the better of the best and what its end gives: ticks up to the best and what rows above bring are passed
  module _ (w : WellFormed tasks) (h : i < length tasks) (l : t ≤ (row tasks i).d) where
    pub walked_better : until_of tasks i t - above tasks i t ≤ room tasks i
    walked_better =
        let late = until_from tasks w i h t l in
        omega (arith, end_room tasks w i h t l, room_at_lem tasks i (until_of tasks i t) (omega (arith, s.started)) (until_end tasks w i h t))

    pub walked_on : (next : ℕ) → best ≤ next → next ≤ room tasks i → (to : ℕ) → to ≡ next + above tasks i t + 1 → Walked tasks i to next
    unfolding room_at
    walked_on next b n to e =
        record {
          started = omega arith;
          no_more = n;
          passed = λ u a k q. elim (dec_lt u t) [
            | yes before ↦ omega (arith, s.passed u a before q)
            | no after ↦ omega (arith, above_mono tasks w i h t u (omega arith))
          ];
        }

-- the same by what the code computes of a stretch
pub walked_turn : (tasks : List Task) (i t d best brought until next : ℕ) → WellFormed tasks → i < length tasks
    → Walked tasks i t best → d ≡ (row tasks i).d → t ≤ d → brought ≡ above tasks i t → until ≡ until_of tasks i t → next ≡ max best (until - brought) → Walked tasks i (next + brought + 1) next
walked_turn tasks i t d best brought until next w h s e l b u y =
    let in_time : t ≤ (row tasks i).d = omega arith in
    walked_on s w h in_time next (omega arith) (omega (arith, s.no_more, walked_better s w h in_time)) _ (omega arith)

pub room_small : (tasks : List Task) (i : ℕ) → WellFormed tasks → i < length tasks → room tasks i ≤ 65535
room_small tasks i w h = let r = w.ranged i h in omega (arith, room_most tasks i, r.d_high, r.t_high)

pub ruleset walking = (walked_start, walked_turn, until_from, until_end, room_most, above_small)
