-- The room of a row: it is reached at some tick and passed at none, a row fits exactly when its C is at most its room, and what a planner may do with it.
use mathlib.Core.Bool.{true}
use mathlib.Core.List.{List, [], ◌∷◌, ◌++◌}
use mathlib.Core.Path.{◌≡◌, refl, sym, ap, ◌∙◌, subst}
use Prim.Native.Nat.{ℕ, zero, suc, ◌+◌, ◌-◌, ◌≤◌, ◌<◌}
use native.Mathlib.Decide.{dec_lt, ℕ_discrete}
use native.Mathlib.Omega.{arith}
use lib.Dec.{leb}
use lib.ListN.{length, get_or, drop, length-set, length-append, get_or-append}
use lib.Seq.{get_or-set_same, get_or-set_other}
use borrow.Author.Tests.{le-leb, lt-leb}
use Rattle.law.specs.Sums.{larger, highest, first_from}
use Rattle.law.specs.Refusal.{accepted, refused}
use Rattle.law.specs.Table.{Task, no_task, row, Ranged, WellFormed, table_of, checked}
use Rattle.law.specs.Verdict.{demand, above, load, fits_at, response, fits, misfit}
use Rattle.law.specs.Room.{room_at, room, rooms, rooms_answer, rooms_lent, with_c, with_c_at, Planned}
use Rattle.law.proofs.Tests.{passes, fails, known, never_both}
use Rattle.law.proofs.First.{first_cong, build_length, build_at}
use Rattle.law.proofs.Sums.{sum_cong}
use Rattle.law.proofs.Verdict.{Sought, fits_yes}
use Rattle.law.proofs.Fits.{fits_deadline, fits_load, response_low, response_least, misfit_is}

-- the larger of two numbers
module _ (a b : ℕ) where
  pub larger_is : a ≤ b → larger a b ≡ b
  larger_is h = rw (le-leb a b h)

  pub larger_else : b ≤ a → larger a b ≡ a
  larger_else h =
      elim (dec_lt b a) [
        | yes l ↦ rw (lt-leb a b l)
        | no l ↦ larger_is (omega arith) ∙ omega arith
      ]

-- the largest of n values: no value is larger, and it is one of them unless it is 0
module _ (f : ℕ → ℕ) where
  pub highest_at : (n j : ℕ) → j < n → f j ≤ highest f n
  unfolding highest
  highest_at zero j h = absurd (omega arith)
  highest_at (suc n) j h =
      elim (dec_lt j n) [
        | yes l ↦ elim (dec_lt (f n) (highest f n)) [
          | yes k ↦ omega (arith, larger_else (highest f n) (f n) (omega arith), highest_at n j l)
          | no k ↦ omega (arith, larger_is (highest f n) (f n) (omega arith), highest_at n j l)
        ]
        | no l ↦ let e : j ≡ n = omega arith in rw e (elim (dec_lt (f n) (highest f n)) [
          | yes k ↦ omega (arith, larger_else (highest f n) (f n) (omega arith))
          | no k ↦ omega (arith, larger_is (highest f n) (f n) (omega arith))
        ])
      ]

  pub highest_least : (n b : ℕ) → ((j : ℕ) → j < n → f j ≤ b) → highest f n ≤ b
  unfolding highest
  highest_least zero b h = omega arith
  highest_least (suc n) b h =
      elim (dec_lt (f n) (highest f n)) [
        | yes k ↦ omega (arith, larger_else (highest f n) (f n) (omega arith), highest_least n b (λ j l. h j (omega arith)))
        | no k ↦ omega (arith, larger_is (highest f n) (f n) (omega arith), h n (omega arith))
      ]

  pub highest_found : (n : ℕ) → 0 < highest f n → (j : ℕ) × (j < n) × (f j ≡ highest f n)
  unfolding highest
  highest_found zero h = absurd (omega arith)
  highest_found (suc n) h =
      elim (dec_lt (f n) (highest f n)) [
        | yes k ↦ let e = larger_else (highest f n) (f n) (omega arith) in
            let s = highest_found n (omega (arith, e)) in
            (s.0, omega (arith, s.1), s.2 ∙ sym e)
        | no k ↦ (n, omega arith, sym (larger_is (highest f n) (f n) (omega arith)))
      ]

pub highest_cong : (f h : ℕ → ℕ) (n : ℕ) → ((j : ℕ) → j < n → f j ≡ h j) → highest f n ≡ highest h n
unfolding highest
highest_cong f h zero e = refl
highest_cong f h (suc n) e =
    ap (λ (z : ℕ). larger z (f n)) (highest_cong f h n (λ j l. e j (omega arith))) ∙ ap (larger (highest h n)) (e n (omega arith))

-- the room of a row, by its ticks
module _ (tasks : List Task) (i : ℕ) where
  pub room_at_lem : (t : ℕ) → 1 ≤ t → t ≤ (row tasks i).d → room_at tasks i t ≤ room tasks i
  unfolding room
  room_at_lem t low h =
      let e : suc (t - 1) ≡ t = omega arith in
      subst (λ (z : ℕ). room_at tasks i z ≤ room tasks i) e (highest_at (λ j. room_at tasks i (suc j)) (row tasks i).d (t - 1) (omega arith))

  pub room_least : (b : ℕ) → ((t : ℕ) → 1 ≤ t → t ≤ (row tasks i).d → room_at tasks i t ≤ b) → room tasks i ≤ b
  unfolding room
  room_least b h = highest_least (λ j. room_at tasks i (suc j)) (row tasks i).d b (λ j l. h (suc j) (omega arith) (omega arith))

  pub room_found : 0 < room tasks i → (t : ℕ) × (1 ≤ t) × (t ≤ (row tasks i).d) × (room_at tasks i t ≡ room tasks i)
  unfolding room
  room_found h =
      let s = highest_found (λ j. room_at tasks i (suc j)) (row tasks i).d h in
      (suc s.0, omega arith, omega (arith, s.1), s.2)

  -- no value is larger than its tick
  pub room_tick : (t : ℕ) → room_at tasks i t ≤ t
  unfolding room_at
  room_tick t = omega arith

  pub room_most : room tasks i ≤ (row tasks i).d
  room_most = room_least (row tasks i).d (λ t l h. omega (arith, room_tick t))

  -- "A row fits exactly when its C is at most its room": a C of at least 1 is at most the room at t exactly when the load at t is at most t
  at_load : (t : ℕ) → (row tasks i).c + above tasks i t ≡ load tasks i t
  unfolding load
  at_load t = refl

  pub fits_roomy : 1 ≤ (row tasks i).c → fits tasks i ≡ true → (row tasks i).c ≤ room tasks i
  unfolding room_at
  fits_roomy low e =
      let t = response tasks i in
      omega (arith, room_at_lem t (response_low tasks i) (fits_deadline tasks i e), fits_load tasks i e, at_load t)

  pub roomy_fits : 1 ≤ (row tasks i).c → (row tasks i).c ≤ room tasks i → fits tasks i ≡ true
  unfolding room_at
  roomy_fits low h =
      let s = room_found (omega arith) in
      fits_yes tasks i (omega (arith, s.2, response_least tasks i s.0 s.1 (omega (arith, at_load s.0, s.3))))

  pub fits_room : 1 ≤ (row tasks i).c → fits tasks i ≡ leb (row tasks i).c (room tasks i)
  fits_room low =
      elim (known (fits tasks i)) [
        | passes e ↦ e ∙ sym (le-leb (row tasks i).c (room tasks i) (fits_roomy low e))
        | fails e ↦ elim (dec_lt (room tasks i) (row tasks i).c) [
          | yes l ↦ e ∙ sym (lt-leb (row tasks i).c (room tasks i) l)
          | no l ↦ roomy_fits low (omega arith) ∙ sym (le-leb (row tasks i).c (room tasks i) (omega arith))
        ]
      ]

  -- a search for a row whose C is at most its room never comes past D
  pub sought_within : (t : ℕ) → Sought tasks i t → 1 ≤ (row tasks i).c → (row tasks i).c ≤ room tasks i → t ≤ (row tasks i).d
  unfolding fits_at
  sought_within t s low h =
      let e = roomy_fits low h in
      let fit = le-leb (load tasks i (response tasks i)) (response tasks i) (fits_load tasks i e) in
      elim (dec_lt (response tasks i) t) [
        | yes l ↦ absurd (never_both (fits_at tasks i (response tasks i)) fit (s.before (response tasks i) (response_low tasks i) l))
        | no l ↦ omega (arith, fits_deadline tasks i e)
      ]

-- a table with another C in row i
module _ (tasks : List Task) (i : ℕ) (h : i < length tasks) (c : ℕ) where
  pub with_own : row (with_c_at tasks i c) i ≡ with_c c (row tasks i)
  with_own = get_or-set_same tasks i (with_c c (row tasks i)) no_task h

  pub with_other : (j : ℕ) → (j ≡ i → ⊥) → row (with_c_at tasks i c) j ≡ row tasks j
  with_other j o = get_or-set_other tasks i j (with_c c (row tasks i)) no_task o

  with_d : (j : ℕ) → (row (with_c_at tasks i c) j).d ≡ (row tasks j).d
  with_d j =
      elim (ℕ_discrete j i) [
        | yes e ↦ rw e (ap (λ (z : Task). z.d) with_own)
        | no o ↦ ap (λ (z : Task). z.d) (with_other j o)
      ]

  with_id : (j : ℕ) → (row (with_c_at tasks i c) j).id ≡ (row tasks j).id
  with_id j =
      elim (ℕ_discrete j i) [
        | yes e ↦ rw e (ap (λ (z : Task). z.id) with_own)
        | no o ↦ ap (λ (z : Task). z.id) (with_other j o)
      ]

  -- what rows above a row up to i bring
  with_above : (j : ℕ) → j ≤ i → (t : ℕ) → above (with_c_at tasks i c) j t ≡ above tasks j t
  with_above j l t =
      sum_cong (λ j. demand (row (with_c_at tasks i c) j) t) (λ j. demand (row tasks j) t) j
      (λ u q. ap (λ (z : Task). demand z t) (with_other u (λ (e : u ≡ i). omega arith)))

  with_room : (j : ℕ) → j ≤ i → room (with_c_at tasks i c) j ≡ room tasks j
  unfolding room room_at
  with_room j l =
      ap (highest (λ u. suc u - above (with_c_at tasks i c) j (suc u))) (with_d j)
      ∙ highest_cong (λ u. suc u - above (with_c_at tasks i c) j (suc u)) (λ u. suc u - above tasks j (suc u)) (row tasks j).d
      (λ u q. ap (λ (z : ℕ). suc u - z) (with_above j l (suc u)))

  with_fits_at : (j : ℕ) → j < i → (t : ℕ) → fits_at (with_c_at tasks i c) j t ≡ fits_at tasks j t
  unfolding fits_at load
  with_fits_at j l t =
      ap (λ (z : ℕ). leb z t)
      (ap (λ (z : Task). z.c + above (with_c_at tasks i c) j t) (with_other j (λ (e : j ≡ i). omega arith))
      ∙ ap (λ (z : ℕ). (row tasks j).c + z) (with_above j (omega arith) t))

  with_response : (j : ℕ) → j < i → response (with_c_at tasks i c) j ≡ response tasks j
  unfolding response
  with_response j l =
      ap (first_from (fits_at (with_c_at tasks i c) j) 1) (with_d j)
      ∙ first_cong (fits_at (with_c_at tasks i c) j) (fits_at tasks j) 1 (row tasks j).d (with_fits_at j l)

  -- the row fits exactly when the new C is at most the old room
  with_fits : 1 ≤ c → fits (with_c_at tasks i c) i ≡ leb c (room tasks i)
  with_fits low =
      let own = ap (λ (z : Task). z.c) with_own in
      fits_room (with_c_at tasks i c) i (omega (arith, own)) ∙ ap (λ (z : ℕ). leb z (room (with_c_at tasks i c) i)) own
      ∙ ap (leb c) (with_room i (omega arith))

  pub with_fits_above : (j : ℕ) → j < i → fits (with_c_at tasks i c) j ≡ fits tasks j
  unfolding fits
  with_fits_above j l = ap (λ (z : ℕ). leb z (row (with_c_at tasks i c) j).d) (with_response j l) ∙ ap (leb (response tasks j)) (with_d j)

  with_named : room tasks i < c → ((j : ℕ) → j < i → fits tasks j ≡ true) → misfit (with_c_at tasks i c) ≡ i
  with_named l up =
      misfit_is (with_c_at tasks i c) i (omega (arith, length-set tasks i (with_c c (row tasks i)))) (λ j b. with_fits_above j b ∙ up j b)
      (λ q. with_fits (omega arith) ∙ lt-leb c (room tasks i) l)

  with_ranged : WellFormed tasks → 1 ≤ c → c ≤ 65535 → (j : ℕ) → j < length tasks → Ranged (row (with_c_at tasks i c) j)
  with_ranged w low high j l =
      elim (ℕ_discrete j i) [
        | yes e ↦ rw (e, with_own) (other_c (row tasks i) (w.ranged i h))
        | no o ↦ rw (with_other j o) (w.ranged j l)
      ]
    where
      other_c : (r : Task) → Ranged r → Ranged (with_c c r)
      other_c r q =
          record {
            id_low = q.id_low;
            id_high = q.id_high;
            t_low = q.t_low;
            t_high = q.t_high;
            d_low = q.d_low;
            d_high = q.d_high;
            c_low = low;
            c_high = high;
            pair = q.pair;
            p_high = q.p_high;
          }

  with_table : WellFormed tasks → 1 ≤ c → c ≤ 65535 → WellFormed (with_c_at tasks i c)
  with_table w low high =
      let many : length (with_c_at tasks i c) ≡ length tasks = length-set tasks i (with_c c (row tasks i)) in
      record {
        rows_low = omega (arith, many, w.rows_low);
        rows_high = omega (arith, many, w.rows_high);
        ranged = λ j l. with_ranged w low high j (omega (arith, many));
        once = λ a b l k e. w.once a b (omega (arith, many)) (omega (arith, many)) (sym (with_id a) ∙ e ∙ with_id b);
      }

-- a planner's theorem: with its room for its C a row fits, with one more it doesn't, and rows above are as they were
pub planned : (tasks : List Task) → WellFormed tasks → (i : ℕ) → i < length tasks → Planned tasks i
planned tasks w i h =
    record {
      still_a_table = λ c. with_table tasks i h c w;
      same_rooms = λ c j. with_room tasks i h c j;
      fits_with_it = λ low. with_fits tasks i h (room tasks i) low ∙ le-leb (room tasks i) (room tasks i) (omega arith);
      not_with_more = λ c l. with_fits tasks i h c (omega arith) ∙ lt-leb c (room tasks i) l;
      named = λ c. with_named tasks i h c;
      above_as_before = λ c j l. (
        with_other tasks i h c j (λ (e : j ≡ i). omega arith),
        with_response tasks i h c j l,
      );
    }

-- the rooms asked for alone, by their cases; the words were checked before
module _ (words : List ℕ) (run : List ℕ) where
  pub rooms_unchecked : (n : ℕ) (also : List ℕ) → checked words ≡ refused n also
      → (rooms_answer words (length run) ≡ refused n also) × (rooms_lent words run ≡ run)
  unfolding rooms_answer rooms_lent
  rooms_unchecked n also e = (rw e, rw e)

  module _ (vs : List ℕ) (good : checked words ≡ accepted vs) where
    pub rooms_short : length run < length (table_of words) → (rooms_answer words (length run) ≡ refused 13 []) × (rooms_lent words run ≡ run)
    unfolding rooms_answer rooms_lent
    rooms_short h =
        let e = lt-leb (length (table_of words)) (length run) h in
        (rw (good, e), rw (good, e))

    pub rooms_told : length (table_of words) ≤ length run
        → (rooms_answer words (length run) ≡ accepted (length (table_of words) ∷ []))
        × (rooms_lent words run ≡ rooms (table_of words) ++ drop (length (table_of words)) run)
    unfolding rooms_answer rooms_lent
    rooms_told h =
        let e = le-leb (length (table_of words)) (length run) h in
        (rw (good, e), rw (good, e))

    -- the words of the run are the rooms, row by row
    module _ (h : length (table_of words) ≤ length run) where
      rooms_long : length (rooms (table_of words)) ≡ length (table_of words)
      unfolding rooms
      rooms_long = build_length (room (table_of words)) (length (table_of words))

      pub rooms_at : (i : ℕ) → i < length (table_of words) → get_or (rooms_lent words run) i 0 ≡ room (table_of words) i
      unfolding rooms
      rooms_at i l =
          ap (λ (z : List ℕ). get_or z i 0) (rooms_told h).1
          ∙ get_or-append (rooms (table_of words)) (drop (length (table_of words)) run) 0 i (omega (arith, rooms_long))
          ∙ build_at (room (table_of words)) (length (table_of words)) i 0 l

      pub rooms_enough : length (table_of words) ≤ length (rooms_lent words run)
      rooms_enough =
          omega (arith, ap length (rooms_told h).1, length-append (rooms (table_of words)) (drop (length (table_of words)) run), rooms_long)
