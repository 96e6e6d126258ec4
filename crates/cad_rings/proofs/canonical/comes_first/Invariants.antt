use Rattle.std.proofs.Common.{◌≡◌, drop}
use Rattle.cad_rings.specs.Canonical.{comes_first as comes_first_of}
use Rattle.cad_rings.proofs.canonical.comes_first.Given as goal

abbrev pub invariant-loop-place : goal.invariant-loop-place
invariant-loop-place l = comes_first_of l.fn.a l.fn.b ≡ comes_first_of (drop l.place l.fn.a) (drop l.place l.fn.b)
