-- Document 02, 5/14, worked out by hand over document 01's table: a replay from fresh.
use mathlib.Core.List.{List, [], ◌∷◌, map}
use mathlib.Core.Path.{◌≡◌, refl}
use Prim.Native.Nat.{ℕ}
use Rattle.law.specs.Sums.{ceil, first_from, among, map_from}
use Rattle.law.specs.Refusal.{Answer, accepted, refused, within}
use Rattle.law.specs.Pattern.{mandatory}
use Rattle.law.specs.Table.{kind_of}
use Rattle.law.specs.Tick.{Row, fresh, release, next_place, choose, outcome, advance, shifted, marks, settled, release_all, advance_all, finish, begin, tick, run}
use Rattle.law.specs.Replay.{releases, goes_on, replayed, out_of_range, bad_row, bad_tick, replay_told, full_lengths, full_log}
use Rattle.law.proofs.Examples.{p5}

-- released, mandatory met and missed, optional met and missed, work left
seen : Row → List ℕ
seen r = r.tally.released ∷ r.tally.mm ∷ r.tally.mx ∷ r.tally.om ∷ r.tally.ox ∷ r.core.work ∷ []

-- Jobs are released at 0 (both rows), 4 (row 0), 6 (row 1), 8 (row 0). Of the lengths 1, 3 and 2 the first two run in ticks 0 to 3, the third in 4 and
-- 5; before tick 6 no number is left.
stops : replay_told (1 ∷ 3 ∷ 2 ∷ []) 24 (fresh p5) ≡ accepted (6 ∷ 3 ∷ [])
unfolding p5 replay_told replayed goes_on releases bad_tick bad_row out_of_range within fresh begin finish release next_place choose outcome advance shifted marks settled release_all advance_all map_from first_from among kind_of mandatory ceil
stops = refl

stopped_at : map seen (replayed (1 ∷ 3 ∷ 2 ∷ []) 24 (fresh p5)).state.rows ≡ (2 ∷ 1 ∷ 0 ∷ 1 ∷ 0 ∷ 0 ∷ []) ∷ (1 ∷ 1 ∷ 0 ∷ 0 ∷ 0 ∷ 0 ∷ []) ∷ []
unfolding p5 seen replayed goes_on releases fresh begin finish release next_place choose outcome advance shifted marks settled release_all advance_all map_from first_from among kind_of mandatory ceil
stopped_at = refl

-- what is told of a log in n ticks: an answer for each
told : List ℕ → List ℕ → List Answer
told log ticks = map (λ n. replay_told log n (fresh p5)) ticks

-- no number, no tick that releases; as many ticks as are asked; a number past the stop may be anything; 5 is above the C of row 1; the 0 is the first
-- number out of range that a release uses once tick 8 is done, and is not looked at before
short : told [] (0 ∷ 9 ∷ []) ≡ accepted (0 ∷ 0 ∷ []) ∷ accepted (0 ∷ 0 ∷ []) ∷ []
unfolding p5 told replay_told replayed goes_on releases bad_tick bad_row out_of_range within fresh first_from among
short = refl

asked : told (1 ∷ 3 ∷ 2 ∷ []) (0 ∷ 1 ∷ 4 ∷ 5 ∷ []) ≡ accepted (0 ∷ 0 ∷ []) ∷ accepted (1 ∷ 2 ∷ []) ∷ accepted (4 ∷ 2 ∷ []) ∷ accepted (5 ∷ 3 ∷ []) ∷ []
unfolding p5 told replay_told replayed goes_on releases bad_tick bad_row out_of_range within fresh begin finish release next_place choose outcome advance shifted marks settled release_all advance_all map_from first_from among kind_of mandatory ceil
asked = refl

bad : told (1 ∷ 5 ∷ 0 ∷ []) (0 ∷ 1 ∷ 9 ∷ []) ≡ accepted (0 ∷ 0 ∷ []) ∷ refused 18 (1 ∷ []) ∷ refused 18 (1 ∷ []) ∷ []
unfolding p5 told replay_told replayed goes_on releases bad_tick bad_row out_of_range within fresh begin finish release next_place choose outcome advance shifted marks settled release_all advance_all map_from first_from among kind_of mandatory ceil
bad = refl

late : told (1 ∷ 3 ∷ 2 ∷ 1 ∷ 0 ∷ []) (8 ∷ 9 ∷ []) ≡ accepted (8 ∷ 4 ∷ []) ∷ refused 18 (4 ∷ []) ∷ []
unfolding p5 told replay_told replayed goes_on releases bad_tick bad_row out_of_range within fresh begin finish release next_place choose outcome advance shifted marks settled release_all advance_all map_from first_from among kind_of mandatory ceil
late = refl

-- "in order of release (by tick, then by row)": the lengths C of the jobs at 0, 4, 6 and 8
in_order : full_log 9 (fresh p5) ≡ 2 ∷ 4 ∷ 2 ∷ 4 ∷ 2 ∷ []
unfolding p5 full_log full_lengths run tick fresh begin finish release next_place choose outcome advance shifted marks settled release_all advance_all map_from first_from among kind_of mandatory ceil
in_order = refl
