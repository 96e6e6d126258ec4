use Rattle.std.proofs.Common.{◌≡◌, drop, Bool}
use Rattle.std.specs.List.{list_all}
use Rattle.cad_near.specs.declared.seen.Lying.{Lying}
use Rattle.cad_near.specs.Seen.{lies_by_sight}
use Rattle.cad_near.proofs.sight.bears_by_sight.Given as goal

-- those that are left decide
abbrev pub invariant-loop-point : goal.invariant-loop-point
invariant-loop-point l =
    let test : Lying → Bool = λ p. lies_by_sight p.a l.f.a l.f.b in
    list_all test l.points ≡ list_all test (drop l.point-index l.points)
