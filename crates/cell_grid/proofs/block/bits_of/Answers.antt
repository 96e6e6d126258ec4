use Rattle.std.proofs.Common.{ℕ, ◌*◌, ◌^◌, ◌<◌, ◌≤◌, ◌⊎◌, inl, inr, arith}
use Rattle.std.proofs.lemmas.Bool.{cases_lt}
use Rattle.std.proofs.Math.Pow.{pow_mono}
use Rattle.cell_grid.proofs.block.bits_of.Goals as goal

-- a power of two that reaches a metre when it is doubled is more than half a metre
long : (bits side : ℕ) → 1000 ≤ side → side < 2 * 2 ^ bits → 9 ≤ bits
long bits side least next = by (cases_lt bits 9)
  where
    by : (bits < 9) ⊎ (9 ≤ bits) → 9 ≤ bits
    by (inl less) = let small : 2 ^ bits ≤ 2 ^ 8 = pow_mono {j = 8} (omega (arith, less)) in absurd (omega (arith, least, next, small))
    by (inr more) = more

-- and one of at most a thousand kilometres isn't past a lane
short : (bits side : ℕ) → side ≤ 1000000000 → 2 ^ bits ≤ side → bits ≤ 30
short bits side greatest power = by (cases_lt 30 bits)
  where
    by : (30 < bits) ⊎ (bits ≤ 30) → bits ≤ 30
    by (inl more) = let large : 2 ^ 31 ≤ 2 ^ bits = pow_mono {i = 31} (omega (arith, more)) in absurd (omega (arith, greatest, power, large))
    by (inr less) = less

pub returns : goal.returns
returns c = record {
  least = long c.ilog2.result c.args.side c.requires.least c.ilog2.ensures.next_power_gt;
  greatest = short c.ilog2.result c.args.side c.requires.greatest c.ilog2.ensures.power_le;
}
