-- What the search of a row finds, and what the search of all rows answers.
use Rattle.std.specs.Prelude.{List, [], ◌∷◌, ℕ, Option, None, Some, Result, Ok, Err, length, take}
use Rattle.law.specs.Sums.{pick}
use Rattle.law.specs.Refusal.{Answer, accepted, refused, or_refused}
use Rattle.law.specs.Table.{Task}
use Rattle.law.specs.Verdict.{response, fits, misfit, admitted, responses}
use Rattle.refusal.specs.declared.Refusal.{Refusal}
use Rattle.refusal.specs.Shown.{shown}

-- whether a row fits, as the search tells it: its response time, or that no tick from 1 to D fits
unfoldable pub fit_of : List Task → ℕ → Option ℕ
fit_of tasks i = pick (fits tasks i) (Some (response tasks i)) None

-- the response times of a table whose every row fits; else the first row that doesn't
unfoldable pub tried : List Task → Answer
tried tasks = or_refused (admitted tasks) (refused 11 (misfit tasks ∷ [])) (accepted (responses tasks))

-- how that is told: the times stand in front, one for each row
abbrev pub responded : List Task → Result (List ℕ) Refusal → Answer
responded tasks (Ok times) = accepted (take (length tasks) times)
responded tasks (Err r) = shown r
