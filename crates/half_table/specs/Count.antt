-- How work is counted.
use Rattle.std.specs.Prelude.{ℕ, zero, suc, ◌+◌, min}

-- the greatest count
abbrev pub greatest : ℕ
greatest = 18446744073709551615

-- the count after one tick
abbrev pub one_more : ℕ → ℕ
one_more n = min (n + 1) greatest

-- the count w after n ticks
abbrev pub ticked : ℕ → ℕ → ℕ
ticked zero w = w
ticked (suc n) w = ticked n (one_more w)
