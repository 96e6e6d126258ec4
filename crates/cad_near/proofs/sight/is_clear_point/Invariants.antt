use Rattle.std.proofs.Common.{◌≡◌, drop, Bool}
use Rattle.std.specs.List.{list_all}
use Rattle.cad_near.specs.declared.seen.Lying.{Lying}
use Rattle.cad_near.specs.Seen.{lies_by_sight}
use Rattle.cad_near.proofs.sight.is_clear_point.Given as goal

-- those that are left decide
abbrev pub invariant-loop-string : goal.invariant-loop-string
invariant-loop-string l =
    let test : Lying → Bool = λ s. lies_by_sight l.f.a s.a s.b in
    list_all test l.strings ≡ list_all test (drop l.string-index l.strings)
