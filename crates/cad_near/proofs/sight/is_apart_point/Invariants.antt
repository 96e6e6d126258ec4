use Rattle.std.proofs.Common.{◌≡◌, drop, Bool}
use Rattle.std.specs.List.{list_all}
use Rattle.cad_near.specs.declared.seen.Lying.{Lying}
use Rattle.cad_near.specs.Seen.{is_apart_from}
use Rattle.cad_near.proofs.sight.is_apart_point.Given as goal

-- those that are left decide
abbrev pub invariant-loop-point : goal.invariant-loop-point
invariant-loop-point l =
    let test : Lying → Bool = λ p. is_apart_from p l.f in
    list_all test l.points ≡ list_all test (drop l.point-index l.points)
