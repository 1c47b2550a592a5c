-- A tick looks at the work that it is given only where a row releases a job.
use mathlib.Core.Path.{◌≡◌, sym, ap, ◌∙◌}
use mathlib.Core.List.{List}
use Prim.Native.Nat.{ℕ, ◌<◌}
use native.Mathlib.Omega.{arith}
use lib.ListN.{length, get_or}
use lib.Seq.{ext_get_or}
use borrow.Author.Tests.{eqb-true}
use Rattle.law.specs.Tick.{Row, State, no_row, core_at, due, release, release_row, release_all, begin, finish, tick_with}
use Rattle.law.proofs.Tests.{passes, fails, known}
use Rattle.law.proofs.Ticks.{begun_length, begun_at}

row_same : (work other : ℕ) (r : Row) → (r.core.wait ≡ 0 → work ≡ other) → release_row work r ≡ release_row other r
unfolding release
row_same work other r same =
    elim (known (due r.core)) [
      | passes e ↦ ap (λ (z : ℕ). release_row z r) (same (eqb-true r.core.wait 0 e))
      | fails e ↦ rw e
    ]

module _ (work other : ℕ → ℕ) (rows : List Row) (same : (i : ℕ) → i < length rows → (core_at rows i).wait ≡ 0 → work i ≡ other i) where
  row_at_lem : (i : ℕ) → i < length rows → get_or (release_all work rows) i no_row ≡ get_or (release_all other rows) i no_row
  row_at_lem i h =
      begun_at work rows i h ∙ row_same (work i) (other i) (get_or rows i no_row) (same i h) ∙ sym (begun_at other rows i h)

  -- so work that agrees there releases the same
  pub released_same : release_all work rows ≡ release_all other rows
  released_same =
      ext_get_or no_row (release_all work rows) (release_all other rows) (begun_length work rows ∙ sym (begun_length other rows))
      (λ i h. row_at_lem i (omega (arith, begun_length work rows)))

-- .. and ticks the same
pub tick_with_same : (work other : ℕ → ℕ) (s : State) → ((i : ℕ) → i < length s.rows → (core_at s.rows i).wait ≡ 0 → work i ≡ other i)
    → tick_with work s ≡ tick_with other s
unfolding begin
tick_with_same work other s same =
    ap (λ (rows : List Row). finish (record { time = s.time; idle = s.idle; rows = rows })) (released_same work other s.rows same)
