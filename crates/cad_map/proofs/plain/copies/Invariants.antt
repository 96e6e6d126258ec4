use Rattle.std.proofs.Common.{◌≡◌, take}
use Rattle.cad_map.proofs.plain.copies.Given as goal

abbrev pub invariant-loop-boundary : goal.invariant-loop-boundary
invariant-loop-boundary l = l.copied.items ≡ take l.boundary-index l.fn.boundaries
