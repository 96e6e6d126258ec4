use Rattle.std.proofs.Common.{◌≡◌, drop, Bool}
use Rattle.std.specs.List.{list_all}
use Rattle.cad_near.specs.declared.seen.Lying.{Lying}
use Rattle.cad_near.specs.Seen.{is_met_by_sight}
use Rattle.cad_near.proofs.sight.are_met_by_sight.Given as goal

-- those that are left decide
abbrev pub invariant-loop-string : goal.invariant-loop-string
invariant-loop-string l =
    let test : Lying → Bool = λ s. is_met_by_sight s l.f in
    list_all test l.strings ≡ list_all test (drop l.string-index l.strings)
