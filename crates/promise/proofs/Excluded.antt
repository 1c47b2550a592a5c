-- Programs that the definitions shut out, where no edit of the code could show it: P9 is never idle, however long it runs; and a run that works
-- through the first tick and only moves the clock after it is not the law's run.
use mathlib.Core.Bool.{true}
use mathlib.Core.List.{[], ◌∷◌}
use mathlib.Core.Path.{◌≡◌, refl, ap, ◌∙◌}
use Prim.Native.Nat.{ℕ, zero, suc, ◌+◌}
use native.Mathlib.Numerals.{add-one}
use native.Mathlib.Omega.{arith}
use lib.ListN.{get_or}
use Rattle.law.specs.Sums.{ceil, first_from, map_from, among}
use Rattle.law.specs.Pattern.{mandatory}
use Rattle.law.specs.Table.{Task, kind_of}
use Rattle.law.specs.Tick.{Tally, State, no_row, fresh_core, fresh_tally, fresh, next_place, release, choose, outcome, advance, shifted, marks, settled, counted_release, release_all, advance_all, finish, begin, tick, run}
use Rattle.law.specs.Promise.{state_after}

-- "P9 one row 1,1,1,1,1"
abbrev pub p9 : Task
p9 = record { id = 1; c = 1; t = 1; d = 1; m = 1; k = 1; p = 0 }

-- a state in which it stands at its next release, whatever was counted
abbrev standing : ℕ → ℕ → Tally → State
standing time idle y = record { time = time; idle = idle; rows = record { core = fresh_core p9; tally = y } ∷ [] }

-- a tick of it takes the job from release to its end
stands : (time idle : ℕ) (y : Tally)
    → tick (standing time idle y) ≡ standing (time + 1) (idle + 0) (settled 1 1 1 1 (counted_release true y))
unfolding tick begin finish release_all advance_all map_from release next_place choose first_from outcome advance kind_of mandatory ceil
stands time idle y = refl

-- after any number of ticks it stands so, with no idle tick
still : (n : ℕ) → (y : Tally) × (run n (fresh (p9 ∷ [])) ≡ standing n 0 y)
unfolding run fresh
still zero = (fresh_tally p9, refl)
still (suc n) =
    let s = still n in
    (_, ap tick s.1 ∙ stands n 0 s.0 ∙ λ i. standing (add-one n i) 0 (settled 1 1 1 1 (counted_release true s.0)))

pub p9_never_idle : (n : ℕ) → (state_after (p9 ∷ []) n).idle ≡ 0
unfolding state_after
p9_never_idle n = ap (λ (s : State). s.idle) (still n).1

-- a state of which only the clock moves
abbrev pub clock_moved : State → State
clock_moved s = record { time = s.time + 1; idle = s.idle; rows = s.rows }

pub first_tick_only_shut_out : run 2 (fresh (p9 ∷ [])) ≡ clock_moved (run 1 (fresh (p9 ∷ []))) → ⊥
unfolding run tick begin finish release_all advance_all map_from release next_place choose first_from outcome advance kind_of mandatory ceil fresh settled shifted marks among
first_tick_only_shut_out e =
    let z : ◌≡◌ {A = ℕ} 2 1 = ap (λ (s : State). (get_or s.rows 0 no_row).tally.released) e in
    omega arith
