-- Where a stretch ends: from t up to `until_of tasks i t` no row above row i releases before the last tick.
use Rattle.std.specs.Prelude.{List, ℕ, zero, suc, ◌*◌}
use Rattle.law.specs.Sums.{smaller, ceil}
use Rattle.law.specs.Table.{Task, row}

-- the smallest of end, f 0, .., f (n - 1)
unfoldable pub lowest : ℕ → (ℕ → ℕ) → ℕ → ℕ
lowest end f zero = end
lowest end f (suc n) = smaller (lowest end f n) (f n)

-- the first tick from t on at which a row releases: it releases at 0, T, 2 x T, .., and ceil(t / T) times before t
unfoldable pub next_release : Task → ℕ → ℕ
next_release r t = ceil t r.t * r.t

-- the first tick from t on at which a row above row i releases, D of row i at the latest
unfoldable pub until_of : List Task → ℕ → ℕ → ℕ
until_of tasks i t = lowest (row tasks i).d (λ j. next_release (row tasks j) t) i
