use Rattle.std.proofs.Common.{◌≡◌, ◌++◌, drop, filter}
use Rattle.std.specs.Prelude.{nat_le}
use Rattle.sweep.specs.Parts.{end_of}
use Rattle.sweep.proofs.part.reaching.Given as goal

abbrev pub invariant-loop-part : goal.invariant-loop-part
invariant-loop-part l = l.some.items ++ filter (λ p. nat_le l.middle (end_of l.upwards p)) (drop l.part-index l.parts) ≡ filter (λ p. nat_le l.middle (end_of l.upwards p)) l.parts
