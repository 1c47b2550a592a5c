-- "over any run the units of work taken from jobs plus the ticks added to idle equal the ticks run", and over any replay: each tick either takes one
-- unit from the row chosen, which is live, or is idle.
use mathlib.Core.Bool.{Bool, true, false}
use mathlib.Core.List.{List}
use mathlib.Core.Path.{◌≡◌, refl, ap, ◌∙◌}
use Prim.Native.Nat.{ℕ, zero, suc, ◌+◌, ◌-◌, ◌≤◌, ◌<◌}
use native.Mathlib.Decide.{dec_lt}
use native.Mathlib.Nat.{ne_of_lt}
use native.Mathlib.Omega.{arith}
use lib.Dec.{eqb, ltb}
use lib.ListN.{length}
use borrow.Author.Tests.{lt-ltb, le-ltb, ltb-true, ltb-false, eq-eqb, ne_eqb}
use Rattle.law.specs.Sums.{bit, both, pick, first}
use Rattle.law.specs.Tick.{Core, Row, State, core_at, live, urgent, work_after, choose, full_length, begin, finish, tick_with, tick, run, units_with, units}
use Rattle.law.specs.Replay.{logged, goes_on, replayed, replay_units}
use Rattle.law.proofs.Tests.{known, passes, fails, both_left, both_true}
use Rattle.law.proofs.First.{first_high, first_found_lem}
use Rattle.law.proofs.Sums.{sum_only, sum_cong}
use Rattle.law.proofs.Ticks.{begun_length}

-- the choice is a row that is live, or the number of rows
pub chosen_most : (rows : List Row) → choose rows ≤ length rows
unfolding choose
chosen_most rows =
    let n = length rows in
    elim (known (ltb (first (λ i. urgent (core_at rows i)) n) n)) [
      | passes e ↦ rw e (omega (arith, first_high (λ i. urgent (core_at rows i)) 0 n))
      | fails e ↦ rw e (omega (arith, first_high (λ i. live (core_at rows i)) 0 n))
    ]

picked : (b : Bool) (u l n : ℕ) (p q : ℕ → Bool) → (b ≡ true → p u ≡ true) → (l < n → q l ≡ true) → ((i : ℕ) → p i ≡ true → q i ≡ true) → pick b u l < n
    → q (pick b u l) ≡ true
picked true u l n p q hu hl pq h = pq u (hu refl)
picked false u l n p q hu hl pq h = hl h

pub chosen_live : (rows : List Row) → choose rows < length rows → live (core_at rows (choose rows)) ≡ true
unfolding choose
chosen_live rows h =
    let n = length rows in
    picked (ltb (first (λ i. urgent (core_at rows i)) n) n) _ _ n (λ i. urgent (core_at rows i)) (λ i. live (core_at rows i))
    (λ e. first_found_lem (λ i. urgent (core_at rows i)) 0 n (omega (arith, ltb-true _ n e)))
    (λ l. first_found_lem (λ i. live (core_at rows i)) 0 n (omega arith)) (λ i e. both_left _ _ e) h

-- what a row loses in a tick
lost : (chosen : Bool) (c : Core) → c.work - work_after chosen c ≡ bit (both chosen (live c))
lost true c =
    elim (known (live c)) [
      | passes e ↦ rw e (omega (arith, ltb-true 0 c.work e))
      | fails e ↦ rw e (omega (arith, ltb-false 0 c.work e))
    ]
lost false c = omega arith

-- one tick: one unit, or idle
tick_units : (work : ℕ → ℕ) (s : State) → units_with work s + (tick_with work s).idle ≡ s.idle + 1
unfolding units_with finish begin
tick_units work s =
    let rows = (begin work s).rows in
    let c = choose rows in
    let same : length rows ≡ length s.rows = begun_length work s.rows in
    let total : units_with work s ≡ bit (both (ltb c (length s.rows)) (live (core_at rows c))) =
    sum_cong _ _ (length s.rows) (λ i h. lost (eqb i c) (core_at rows i)) ∙ sum_only c (λ j. live (core_at rows j)) (length s.rows) in
    elim (dec_lt c (length rows)) [
      | yes h ↦ omega (arith, total, ap bit (both_is rows h same), ap bit (ne_eqb c (length rows) (ne_of_lt h)))
      | no h ↦ let e : c ≡ length rows = omega (arith, chosen_most rows) in omega (arith, total, ap bit (none_is c rows e same), ap bit (eq-eqb c (length rows) e))
    ]
  where
    both_is : (rows : List Row) → choose rows < length rows → length rows ≡ length s.rows
        → both (ltb (choose rows) (length s.rows)) (live (core_at rows (choose rows))) ≡ true
    both_is rows h e = both_true _ _ (lt-ltb (choose rows) (length s.rows) (omega arith)) (chosen_live rows h)

    none_is : (c : ℕ) (rows : List Row) → c ≡ length rows → length rows ≡ length s.rows → both (ltb c (length s.rows)) (live (core_at rows c)) ≡ false
    none_is c rows e f = rw (le-ltb c (length s.rows) (omega arith))

pub run_units : (n : ℕ) (s : State) → units n s + (run n s).idle ≡ s.idle + n
unfolding units run tick
run_units zero s = omega arith
run_units (suc n) s = omega (arith, run_units n s, tick_units (full_length (run n s).rows) (run n s))

-- the same of a replay, as far as it goes
pub replay_units_lem : (log : List ℕ) (n : ℕ) (s : State) → replay_units log n s + (replayed log n s).state.idle ≡ s.idle + (replayed log n s).ticks
unfolding replay_units replayed
replay_units_lem log zero s = omega arith
replay_units_lem log (suc n) s =
    let x = replayed log n s in
    elim (known (goes_on log x)) [
      | passes e ↦ rw e (omega (arith, replay_units_lem log n s, tick_units (logged log x) x.state))
      | fails e ↦ rw e (omega (arith, replay_units_lem log n s))
    ]
