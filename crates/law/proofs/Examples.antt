-- Values of the definitions that documents 01 and 02 write out.
use mathlib.Core.List.{List, [], ◌∷◌, ◌++◌, map}
use mathlib.Core.Path.{◌≡◌, refl}
use Prim.Native.Nat.{ℕ}
use Rattle.law.specs.Sums.{bit, ceil, highest, build, first_from, largest, among, map_from, sum, bits_to}
use Rattle.law.specs.Pattern.{mandatory, count, deeply_red, red_count, word}
use Rattle.law.specs.Table.{Task, kind_of, count_of, word_of}
use Rattle.law.specs.Verdict.{demand, load, fits_at, response, fits, misfit}
use Rattle.law.specs.Room.{room_at, room, rooms}
use Rattle.law.specs.Tick.{Row, fresh, release, next_place, choose, outcome, advance, shifted, marks, spare, settled, release_all, advance_all, finish, begin, tick, run}
use Rattle.law.specs.Promise.{state_after, during, settling, took}

-- document 01's table
unfoldable pub p5 : List Task
p5 = record { id = 11; c = 2; t = 4; d = 4; m = 1; k = 2; p = 0 } ∷ record { id = 12; c = 4; t = 6; d = 6; m = 2; k = 3; p = 0 } ∷ []

counts : Row → List ℕ
counts r =
    r.tally.released ∷ r.tally.mm ∷ r.tally.mx ∷ r.tally.om ∷ r.tally.ox ∷ r.tally.broken ∷ []

sample : map counts (state_after p5 24).rows ≡ (6 ∷ 3 ∷ 0 ∷ 2 ∷ 1 ∷ 0 ∷ []) ∷ (4 ∷ 3 ∷ 0 ∷ 0 ∷ 1 ∷ 0 ∷ []) ∷ []
unfolding p5 counts state_after run tick begin finish fresh release next_place choose outcome advance shifted marks settled release_all advance_all map_from first_from among kind_of mandatory ceil
sample = refl

p5_responses : response p5 0 ∷ response p5 1 ∷ took p5 0 0 ∷ took p5 1 0 ∷ [] ≡ 2 ∷ 6 ∷ 2 ∷ 6 ∷ []
unfolding p5 response took during settling fits_at load demand sum count_of count state_after run tick begin finish fresh release next_place choose outcome advance shifted marks settled release_all advance_all map_from first_from among kind_of mandatory ceil
p5_responses = refl

-- Document 02, 7/14: a table that is turned down at row 1, whose room is 2 at tick 4 and less at its D, above a row that has none
unfoldable pub late : List Task
late =
    record { id = 1; c = 2; t = 4; d = 4; m = 1; k = 1; p = 0 } ∷ record { id = 2; c = 4; t = 5; d = 5; m = 1; k = 1; p = 0 } ∷ record { id = 3; c = 1; t = 5; d = 5; m = 1; k = 1; p = 0 } ∷ []

late_rooms : misfit late ∷ room_at late 1 5 ∷ (rooms late ++ rooms p5) ≡ 1 ∷ 1 ∷ 4 ∷ 2 ∷ 0 ∷ 4 ∷ 4 ∷ []
unfolding late p5 misfit fits response fits_at load rooms room room_at highest build demand sum count_of count first_from ceil
late_rooms = refl

-- "The words for (1,1), (2,3) and (3,5) are 1, 3 and 11."
words : word 1 1 ∷ word 2 3 ∷ word 3 5 ∷ [] ≡ 1 ∷ 3 ∷ 11 ∷ []
unfolding word bits_to mandatory ceil
words = refl

-- Document 02, 1/14: "the window met, missed, missed (newest last) gives 0 and missed, missed, met gives 2", with (1,3)
spares : spare 1 3 4 ∷ spare 1 3 1 ∷ [] ≡ 0 ∷ 2 ∷ []
unfolding spare largest marks among
spares = refl

-- Document 02, 3/14, with (2,4): "the first m of every k jobs are mandatory"; the counts of the first 0 to 6 jobs; the word
reds : map (λ a. bit (deeply_red 2 4 a)) (0 ∷ 1 ∷ 2 ∷ 3 ∷ 4 ∷ 5 ∷ []) ≡ 1 ∷ 1 ∷ 0 ∷ 0 ∷ 1 ∷ 1 ∷ []
unfolding deeply_red
reds = refl

red_counts : map (red_count 2 4) (0 ∷ 1 ∷ 2 ∷ 3 ∷ 4 ∷ 5 ∷ 6 ∷ []) ≡ 0 ∷ 1 ∷ 2 ∷ 2 ∷ 2 ∷ 3 ∷ 4 ∷ []
unfolding red_count
red_counts = refl

red_word_is : word_of (record { id = 1; c = 1; t = 1; d = 1; m = 2; k = 4; p = 1 }) ≡ 3
unfolding word_of kind_of deeply_red bits_to
red_word_is = refl
