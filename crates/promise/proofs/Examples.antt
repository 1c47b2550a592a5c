-- P1 to P12 and cases of document 02: every case of the table gives what the documents say, all by one computation; and P9 for every number of ticks.
use mathlib.Core.List.{List, [], ◌∷◌, map}
use mathlib.Core.Path.{◌≡◌, refl, ap, ◌∙◌}
use Rattle.law.specs.Sums.{ceil, sum, first_from, build, map_from, among}
use Rattle.law.specs.Refusal.{within}
use Rattle.law.specs.Pattern.{mandatory, count, deeply_red, red_count}
use Rattle.law.specs.Table.{Task, task_of, table_of, kind_of, count_of, repeated, fault_of, faulty, rows_checked, checked}
use Rattle.law.specs.Verdict.{demand, load, fits_at, response, fits, misfit, admitted, responses, verdict, verdict_room}
use Rattle.law.specs.Tick.{fresh, next_place, release, choose, outcome, advance, shifted, marks, settled, release_all, advance_all, finish, begin, tick, run}
use Rattle.law.specs.Promise.{state_after, during, settling}
use Rattle.promise.specs.Examples.{Case, shown, pass_below, verdict_shown, outcome_shown, six_words, up_to, row_with, cases, ExamplesHold}
use Rattle.promise.proofs.Excluded.{p9, p9_never_idle}

table_holds : map (λ (c : Case). shown c.example) cases ≡ map (λ (c : Case). c.expected) cases
unfolding cases shown pass_below verdict_shown outcome_shown six_words up_to ceil sum first_from build map_from among within mandatory count deeply_red red_count task_of table_of kind_of count_of repeated fault_of faulty rows_checked checked demand load fits_at response fits misfit admitted responses verdict verdict_room fresh next_place release choose outcome advance shifted marks settled release_all advance_all finish begin tick run state_after during settling
table_holds = refl

p9_is : table_of (row_with 1 1 1 1 1 1) ≡ p9 ∷ []
unfolding table_of task_of build
p9_is = refl

pub examples_hold : ExamplesHold
examples_hold =
    record { table = table_holds; never_idle = λ n. ap (λ (tasks : List Task). (state_after tasks n).idle) p9_is ∙ p9_never_idle n }
