-- The rooms that are told decide the verdict, and are what a planner may give a row: the law's `fits_room` and `planned`, over answers and words.
use mathlib.Core.Bool.{true, false}
use mathlib.Core.List.{List, [], ◌∷◌}
use mathlib.Core.Path.{◌≡◌, sym, ap, ◌∙◌, subst}
use Prim.Native.Nat.{ℕ, suc, ◌+◌, ◌*◌, ◌/◌, ◌%◌, ◌≤◌, ◌<◌}
use native.Mathlib.Decide.{dec_lt, ℕ_discrete}
use native.Mathlib.Omega.{arith}
use lib.Dec.{leb}
use lib.ListN.{length, get_or, set, length-set}
use lib.Seq.{get_or-set_same, get_or-set_other, ext_get_or}
use borrow.Author.Tests.{leb-true, lt-leb}
use Rattle.law.specs.Refusal.{accepted, refused}
use Rattle.law.specs.Table.{Task, task_of, task_at, table_of, no_task, row, WellFormed, checked}
use Rattle.law.specs.Verdict.{fits, misfit, verdict}
use Rattle.law.specs.Room.{room as room_of, rooms_answer, with_c, with_c_at, Planned}
use Rattle.law.proofs.Tests.{never_both}
use Rattle.law.proofs.Table.{table_length, table_row, passed_on, Accepted, checked_accepted, well_formed_accepted}
use Rattle.law.proofs.Verdict.{after_accepted, LateBy, late_says, verdict_late, verdict_admitted}
use Rattle.law.proofs.Fits.{misfit_is, misfit_fails}
use Rattle.law.proofs.Room.{fits_room, roomy_fits, with_own, with_other, with_fits_above, planned, rooms_told, rooms_at}
use Rattle.promise.specs.Promised.{rows_in}
use Rattle.promise.specs.RoomsTell.{own_c, told, AboveFit, WithC, RoomsTell}

-- the verdict names the first row that doesn't fit
named_in : (words room vs : List ℕ) → checked words ≡ accepted vs → rows_in words ≤ length room → (i : ℕ) → i < rows_in words
    → misfit (table_of words) ≡ i → verdict words (length room) ≡ refused 11 (i ∷ [])
named_in words room vs good enough i h first =
    (verdict_late words room vs good enough (omega (arith, first))).0 ∙ ap (λ (z : ℕ). refused 11 (z ∷ [])) first

-- what an accepted call says: the words are a table, and the run is long enough
says : (table : List ℕ) (n : ℕ) (vs : List ℕ) → rooms_answer table n ≡ accepted vs
    → (ws : List ℕ) × (checked table ≡ accepted ws) × (rows_in table ≤ n)
unfolding rooms_answer
says table n vs e =
    let a = after_accepted (checked table) _ vs e in
    (a.0, a.1, leb-true (rows_in table) n (passed_on (leb (rows_in table) n) 13 [] vs _ a.2).0)

module _ (table run room vs : List ℕ) (e : rooms_answer table (length run) ≡ accepted vs) (enough : rows_in table ≤ length room) where
  ws : List ℕ
  ws = (says table (length run) vs e).0

  good : checked table ≡ accepted ws
  unfolding ws
  good = (says table (length run) vs e).1

  long : rows_in table ≤ length run
  long = (says table (length run) vs e).2

  a : Accepted table ws
  a = checked_accepted table ws good

  tells : (i : ℕ) → i < rows_in table → told table run i ≡ room_of (table_of table) i
  tells = rooms_at table run ws good long

  above_fit : (i : ℕ) → i ≤ rows_in table → AboveFit table run i → (j : ℕ) → j < i → fits (table_of table) j ≡ true
  above_fit i h up j l = roomy_fits (table_of table) j (a.table.ranged j (omega arith)).c_low (omega (arith, up j l, tells j (omega arith)))

  too_long : (i : ℕ) → i < rows_in table → room_of (table_of table) i < own_c table i → fits (table_of table) i ≡ false
  too_long i h l = fits_room (table_of table) i (a.table.ranged i h).c_low ∙ lt-leb (own_c table i) (room_of (table_of table) i) l

  plan : (i : ℕ) → i < rows_in table → Planned (table_of table) i
  plan = planned (table_of table) a.table

  -- the words of the table with another C in row i: as many rows, and accepted
  module _ (other : List ℕ) (i c : ℕ) (h : i < rows_in table) (with : WithC table other i c) where
    many : rows_in other ≡ rows_in table
    many = ap length with.rows ∙ length-set (table_of table) i (with_c c (row (table_of table) i))

    good_too : 1 ≤ c → c ≤ 65535 → checked other ≡ accepted (rows_in other ∷ [])
    good_too low high =
        well_formed_accepted other (ap (λ (z : ℕ). z % 7) with.long ∙ a.whole)
        (subst WellFormed (sym with.rows) ((plan i h).still_a_table c low high))

    tells_too : 1 ≤ c → c ≤ 65535 → (j : ℕ) → j ≤ i → told other run j ≡ told table run j
    tells_too low high j l =
        rooms_at other run _ (good_too low high) (omega (arith, many, long)) j (omega (arith, many))
        ∙ ap (λ (z : List Task). room_of z j) with.rows ∙ (plan i h).same_rooms c j l ∙ sym (tells j (omega arith))

  -- a row named does not fit; with its room for its C row i does, and rows above it do if they did
  module _ (other : List ℕ) (i j : ℕ) (h : i < rows_in table) (low : 1 ≤ told table run i) (with : WithC table other i (told table run i)) (late : LateBy other j) where
    own_fits : fits (table_of other) i ≡ true
    own_fits =
        ap (λ (z : List Task). fits z i) with.rows
        ∙ ap (λ (c : ℕ). fits (with_c_at (table_of table) i c) i) (tells i h) ∙ (plan i h).fits_with_it (omega (arith, tells i h))

    fits_above : AboveFit table run i → j < i → fits (table_of other) j ≡ true
    fits_above up l =
        ap (λ (z : List Task). fits z j) with.rows
        ∙ with_fits_above (table_of table) i h (told table run i) j l ∙ above_fit i (omega arith) up j l

    named_late : fits (table_of other) j ≡ false
    named_late = ap (fits (table_of other)) (sym late.is) ∙ misfit_fails (table_of other) (omega (arith, late.is, late.in_table))

    not_named : (j ≡ i → ⊥) × (AboveFit table run i → i < j)
    not_named =
        let not_own : j ≡ i → ⊥ = λ e. never_both (fits (table_of other) j) (ap (fits (table_of other)) e ∙ own_fits) named_late in (
          not_own,
          λ up. elim (dec_lt j i) [
            | yes l ↦ absurd (never_both (fits (table_of other) j) (fits_above up l) named_late)
            | no l ↦ elim (ℕ_discrete j i) [
              | yes e ↦ absurd (not_own e)
              | no e ↦ omega arith
            ]
          ],
        )

  pub rooms_tell : RoomsTell table run room
  rooms_tell =
      record {
        admits = λ up.
            let none = misfit_is (table_of table) (rows_in table) (omega arith) (above_fit (rows_in table) (omega arith) up) (λ l. absurd (omega arith)) in
            (verdict_admitted table room ws good enough none).0;
        names = λ i h up short.
            let late = too_long i h (omega (arith, short, tells i h)) in
            named_in table room ws good enough i h (misfit_is (table_of table) i (omega arith) (above_fit i (omega arith) up) (λ l. late));
        keeps = λ other i c h low high with. (
          (rooms_told other run _ (good_too other i c h with low high) (omega (arith, many other i c h with, long))).0
              ∙ ap (λ (z : ℕ). accepted (z ∷ [])) (many other i c h with) ∙ sym (rooms_told table run ws good long).0,
          tells_too other i c h with low high,
        );
        still_fits = λ other i j h low with late. not_named other i j h low with (late_says other (length room) j late);
        no_more = λ other i h l with up.
            let c = suc (told table run i) in
            let count = many other i c h with in
            let first = ap misfit with.rows ∙ (plan i h).named c (omega (arith, tells i h)) (above_fit i (omega arith) up) in
            named_in other room _ (good_too other i c h with (omega arith) l) (omega arith) i (omega arith) first;
      }

-- seven words with another at C's place are the row with another C
with_word : (f g : ℕ → ℕ) (c : ℕ) → f 1 ≡ c → ((u : ℕ) → u < 7 → (u ≡ 1 → ⊥) → f u ≡ g u) → task_of f ≡ with_c c (task_of g)
unfolding task_of
with_word f g c own rest =
    λ k. record {
      id = rest 0 (omega arith) (λ e. omega arith) k;
      c = own k;
      t = rest 2 (omega arith) (λ e. omega arith) k;
      d = rest 3 (omega arith) (λ e. omega arith) k;
      m = rest 4 (omega arith) (λ e. omega arith) k;
      k = rest 5 (omega arith) (λ e. omega arith) k;
      p = rest 6 (omega arith) (λ e. omega arith) k;
    }

-- and equal words are equal rows: the C stored is the one that was there
same_word : (f g : ℕ → ℕ) → ((u : ℕ) → u < 7 → f u ≡ g u) → task_of f ≡ task_of g
unfolding task_of
same_word f g h = with_word f g (g 1) (h 1 (omega arith)) (λ u l o. h u l)

-- every other C of a row is had by storing one word
module _ (table : List ℕ) (i c : ℕ) (h : i < rows_in table) where
  stored : List ℕ
  stored = set table (i * 7 + 1) c

  same_length : length stored ≡ length table
  unfolding stored
  same_length = length-set table (i * 7 + 1) c

  same_rows : rows_in stored ≡ rows_in table
  same_rows = table_length stored ∙ ap (λ (z : ℕ). z / 7) same_length ∙ sym (table_length table)

  row_of_lem : (j : ℕ) → j < rows_in table → row (table_of table) j ≡ task_at table j
  row_of_lem j l = table_row table j (omega (arith, table_length table))

  own_row : task_at stored i ≡ with_c c (task_at table i)
  unfolding stored
  own_row =
      with_word (λ u. get_or (set table (i * 7 + 1) c) (i * 7 + u) 0) (λ u. get_or table (i * 7 + u) 0) c
      (get_or-set_same table (i * 7 + 1) c 0 (omega (arith, table_length table)))
      (λ u l o. get_or-set_other table (i * 7 + 1) (i * 7 + u) c 0 (λ e. o (omega arith)))

  other_row : (j : ℕ) → (j ≡ i → ⊥) → task_at stored j ≡ task_at table j
  unfolding stored
  other_row j o =
      same_word (λ u. get_or (set table (i * 7 + 1) c) (j * 7 + u) 0) (λ u. get_or table (j * 7 + u) 0)
      (λ u l. get_or-set_other table (i * 7 + 1) (j * 7 + u) c 0 (λ e. o (omega arith)))

  each_row : (j : ℕ) → j < rows_in table → task_at stored j ≡ row (with_c_at (table_of table) i c) j
  each_row j l =
      elim (ℕ_discrete j i) [
        | yes e ↦ rw e (own_row ∙ ap (with_c c) (sym (row_of_lem i h)) ∙ sym (with_own (table_of table) i h c))
        | no o ↦ other_row j o ∙ sym (row_of_lem j l) ∙ sym (with_other (table_of table) i h c j o)
      ]

  pub with_c_lem : WithC table (set table (i * 7 + 1) c) i c
  unfolding stored
  with_c_lem =
      record {
        long = same_length;
        rows = ext_get_or no_task (table_of stored) (with_c_at (table_of table) i c)
            (same_rows ∙ sym (length-set (table_of table) i (with_c c (row (table_of table) i))))
            (λ j l. table_row stored j (omega (arith, table_length stored)) ∙ each_row j (omega (arith, same_rows)));
      }
