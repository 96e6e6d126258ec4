use Rattle.std.proofs.Common.{rules, ◌≤ℤ◌, ℤ, arith}
use Rattle.std.proofs.lemmas.Int.{ints}
use Rattle.cad_near.proofs.seen.grown.Goals as goal

between : {a b c : ℤ} → a ≤ℤ b → b ≤ℤ c → a ≤ℤ c
between h k = omega (arith, ints)

pub returns-clause-within : goal.returns-clause-within
returns-clause-within c = record { left = search rules; right = search rules; bottom = search rules; top = search rules }

pub returns-clause-kept : goal.returns-clause-kept
returns-clause-kept c q h = record { left = between (search rules) h.left; right = between h.right (search rules); bottom = between (search rules) h.bottom; top = between h.top (search rules) }
