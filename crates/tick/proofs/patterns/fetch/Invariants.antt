-- `tick::patterns::fetch` meets its contract: each row passed has its pattern word.
use mathlib.Core.List.{List}
use mathlib.Core.Path.{◌≡◌}
use Prim.Native.Nat.{ℕ, ◌≤◌, ◌<◌}
use lib.ListN.{length, get_or}
use Rattle.law.specs.Table.{word_of}
use Rattle.law.specs.Tick.{core_at}
use Rattle.law.specs.State.{state_of}
use Rattle.rows.specs.Said.{Held}
use Rattle.tick.proofs.patterns.fetch.Given as goal

abbrev pub ownWord : List ℕ → ℕ → ℕ
ownWord words i = word_of (core_at (state_of words).rows i).task

pub record Fetching (words patterns : List ℕ) (n i : ℕ) : Type 0 where
  pub held : Held 0 words
  pub total : n ≡ length (state_of words).rows
  pub long : length patterns ≡ 32
  pub reached : i ≤ n
  pub done : (j : ℕ) → j < i → get_or patterns j 0 ≡ ownWord words j

abbrev pub invariant-loop-i : goal.invariant-loop-i
invariant-loop-i l = Fetching l.words l.patterns (length (state_of l.words).rows) l.i
