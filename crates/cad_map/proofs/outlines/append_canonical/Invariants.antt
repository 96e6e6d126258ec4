use Rattle.std.proofs.Common.{◌≡◌, ◌++◌, map}
use Rattle.cad_map.proofs.outlines.append_canonical.Given as goal

-- the rings of the boundaries so far stand last
abbrev pub invariant-loop-boundary : goal.invariant-loop-boundary
invariant-loop-boundary g l = l.rings.items ≡ l.initial.rings.items ++ map (λ b. b.ring) l.yielded
