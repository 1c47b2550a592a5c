-- What the printing asks of what it prints.
use Rattle.std.specs.Prelude.{true, List, ◌≡◌, ℕ, ◌<◌, ◌≤◌, leb, length, get_or}
use Rattle.law.specs.Sums.{every}
use Rattle.law.specs.Refusal.{accepted}
use Rattle.law.specs.Table.{Task, checked}
use Rattle.law.specs.Room.{room}
use Rattle.law.specs.Report.{response_printed}

-- numbers of 32 bits
abbrev pub Small : List ℕ → Type 0
Small values = every (λ v. leb v 4294967295) values ≡ true

-- the words of a well-formed table
pub record Good (words : List ℕ) : Type 0 where
  pub values : List ℕ
  pub is : checked words ≡ accepted values

-- a figure for each row, row by row
pub record Listed (rows : ℕ) (figure : ℕ → ℕ) (words : List ℕ) : Type 0 where
  pub enough : rows ≤ length words
  pub at : (i : ℕ) → i < rows → get_or words i 0 ≡ figure i

-- the response times that are printed
abbrev pub Responded : List Task → List ℕ → Type 0
Responded tasks times = Listed (length tasks) (response_printed tasks) times

-- the rooms
abbrev pub Roomed : List Task → List ℕ → Type 0
Roomed tasks rooms = Listed (length tasks) (room tasks) rooms
