-- How a struct `Tally` is read as the law's, and what the settling routine asks of one.
use Rattle.std.specs.Prelude.{◌≡◌, ℕ, ◌+◌, ◌<◌, ◌^◌}
use Rattle.law.specs.Tick as law
use Rattle.tally.specs.declared.Tally.{Tally}

abbrev pub tally_said : Tally → law.Tally
tally_said y =
    record {
      window = y.window;
      released = y.released;
      mm = y.mm;
      mx = y.mx;
      om = y.om;
      ox = y.ox;
      broken = y.broken;
      held = y.held;
    }

-- a count more still fits, the window has k marks, and the number of met marks is true
pub record Countable (k : ℕ) (y : law.Tally) : Type 0 where
  pub window : y.window < 2 ^ k
  pub held : y.held ≡ law.marks k y.window
  pub mm : y.mm + 1 < 2 ^ 64
  pub mx : y.mx + 1 < 2 ^ 64
  pub om : y.om + 1 < 2 ^ 64
  pub ox : y.ox + 1 < 2 ^ 64
  pub broken : y.broken + 1 < 2 ^ 64
