-- The search of a row: one with more C than room never fits; otherwise no tick before t fits, and a leap to the load at t passes over none that does.
use mathlib.Core.List.{List}
use mathlib.Core.Path.{◌≡◌, ap, ◌∙◌}
use Prim.Native.Nat.{ℕ, ◌+◌, ◌≤◌, ◌<◌}
use native.Mathlib.Omega.{arith}
use lib.ListN.{length}
use borrow.Author.Tests.{lt-leb}
use Rattle.std.specs.Prelude.{None, Some}
use Rattle.law.specs.Table.{Task, row, WellFormed}
use Rattle.law.specs.Verdict.{above, load}
use Rattle.law.specs.Room.{room as room_law}
use Rattle.law.proofs.Verdict.{Sought, above_small, sought_start, sought_fits, sought_leap, fits_yes}
use Rattle.law.proofs.Room.{fits_room, sought_within}
use Rattle.verdict.specs.Said.{fit_of}

-- what a search that has come to t knows of a row and its room
pub record IsSeeking (tasks : List Task) (i : ℕ) (own : Task) (room t : ℕ) : Type 0 where
  pub table : WellFormed tasks
  pub is_row : i < length tasks
  pub own_is : own ≡ row tasks i
  pub sought : Sought tasks i t
  pub never : room < own.c → None ≡ fit_of tasks i
  pub within : own.c ≤ room → t ≤ own.d

module _ (tasks : List Task) (i : ℕ) (own : Task) (room : ℕ) (w : WellFormed tasks) (h : i < length tasks)
    (e : own ≡ row tasks i) (f : room ≡ room_law tasks i) where
  same_c : own.c ≡ (row tasks i).c
  same_c = ap (λ (z : Task). z.c) e

  some : 1 ≤ (row tasks i).c
  some = (w.ranged i h).c_low

  none_fits : room < own.c → None ≡ fit_of tasks i
  unfolding fit_of
  none_fits l = rw (fits_room tasks i some ∙ lt-leb (row tasks i).c (room_law tasks i) (omega (arith, same_c)))

  come_to : (t : ℕ) → Sought tasks i t → IsSeeking tasks i own room t
  come_to t s =
      record {
        table = w;
        is_row = h;
        own_is = e;
        sought = s;
        never = none_fits;
        within = λ g. omega (arith, ap (λ (z : Task). z.d) e, sought_within tasks i t s some (omega (arith, same_c)));
      }

  pub seeking_start : IsSeeking tasks i own room 1
  seeking_start = come_to 1 (sought_start tasks i)

  module _ (t brought : ℕ) (s : IsSeeking tasks i own room t) (g : own.c ≤ room) (b : brought ≡ above tasks i t) where
    load_is : own.c + brought ≡ load tasks i t
    unfolding load
    load_is = omega (arith, same_c)

    pub leap : t < own.c + brought → IsSeeking tasks i own room (own.c + brought)
    leap l = come_to (own.c + brought) (rw load_is (sought_leap tasks w i h t s.sought (rw load_is at l)))

    pub found : own.c + brought ≤ t → Some t ≡ fit_of tasks i
    unfolding fit_of
    found l =
        let d = ap (λ (z : Task). z.d) e in
        let here = sought_fits tasks i t s.sought (omega (arith, s.within g, d)) (rw load_is at l) in
        rw (fits_yes tasks i (omega (arith, s.within g, d, here)), here)

pub ruleset seeking = (seeking_start, leap, found, above_small)
