use Rattle.std.proofs.Common.{◌≡◌, ◌++◌, drop, filter}
use Rattle.std.specs.Prelude.{nat_lt}
use Rattle.sweep.specs.Parts.{begin_of}
use Rattle.sweep.proofs.part.below.Given as goal

abbrev pub invariant-loop-part : goal.invariant-loop-part
invariant-loop-part l = l.some.items ++ filter (λ p. nat_lt (begin_of l.upwards p) l.middle) (drop l.part-index l.parts) ≡ filter (λ p. nat_lt (begin_of l.upwards p) l.middle) l.parts
