-- How a row's counts are read as the law's list.
use Rattle.std.specs.Prelude.{List, [], ◌∷◌, ℕ}
use Rattle.dispatch.specs.declared.counts.Counts.{Counts}

abbrev pub counts_said : Counts → List ℕ
counts_said c = c.released ∷ c.mm ∷ c.mx ∷ c.om ∷ c.ox ∷ c.broken ∷ c.spare ∷ []
