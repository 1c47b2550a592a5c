-- Document 02, 3/14: "a table admitted with some rows deeply-red is admitted with those rows even". Which tables are meant, and what is kept.
use Rattle.std.specs.Prelude.{true, List, ◌⊎◌, ◌≡◌, ℕ, ◌≤◌, ◌<◌, length}
use Rattle.law.specs.Table.{Task, row, WellFormed}
use Rattle.law.specs.Verdict.{response, admitted}

-- a row with an even pattern in place of its own
abbrev pub even_row : Task → Task
even_row r = record { id = r.id; c = r.c; t = r.t; d = r.d; m = r.m; k = r.k; p = 0 }

-- one table is another "with those rows even": any of its rows, none or all of them
pub record Evened (before after : List Task) : Type 0 where
  pub many : length after ≡ length before
  pub each : (i : ℕ) → i < length before → (row after i ≡ row before i) ⊎ (row after i ≡ even_row (row before i))

-- what is kept from one table to another: it is well formed, it is admitted if the first is, and no row's response time grows (D + 1 where a
-- row does not fit)
pub record Eased (before after : List Task) : Type 0 where
  pub well_formed : WellFormed after
  pub still_admitted : admitted before ≡ true → admitted after ≡ true
  pub no_longer : (i : ℕ) → i < length before → response after i ≤ response before i
