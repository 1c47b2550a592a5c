-- Document 02, 6/14: the rule of one job by one remainder.
use Rattle.std.specs.Prelude.{Bool, true, ℕ, ◌-◌, ◌*◌, ◌%◌, eqb, ltb}
use Rattle.law.specs.Sums.{pick}

-- "job a is mandatory when a x m mod k is 0 or greater than k - m"
unfoldable pub by_remainder : ℕ → ℕ → ℕ → Bool
by_remainder m k a = pick (eqb (a * m % k) 0) true (ltb (k - m) (a * m % k))
