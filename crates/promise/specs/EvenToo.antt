-- Document 02, 3/14, over the verdict's answers and rooms: "a table admitted with some rows deeply-red is admitted with those rows even".
use Rattle.std.specs.Prelude.{List, ◌≡◌, ℕ, ◌≤◌, ◌<◌, length}
use Rattle.law.specs.Table.{table_of}
use Rattle.law.specs.Verdict.{verdict}
use Rattle.law.specs.Easing.{Evened}
use Rattle.promise.specs.Promised.{rows_in, reported}

-- as many words, of the same table with any of its rows made even
pub record WithEven (table evened : List ℕ) : Type 0 where
  pub long : length evened ≡ length table
  pub rows : Evened (table_of table) (table_of evened)

-- of a table that `verdict::judge` admits: it answers the same, and no response time that it wrote grows
pub record EvenToo (table evened room : List ℕ) : Type 0 where
  pub answer : verdict evened (length room) ≡ verdict table (length room)
  pub no_longer : (i : ℕ) → i < rows_in table → reported evened room i ≤ reported table room i
