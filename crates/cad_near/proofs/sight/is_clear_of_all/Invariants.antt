use Rattle.std.proofs.Common.{◌≡◌, drop, Bool}
use Rattle.std.specs.List.{list_all}
use Rattle.cad_near.specs.declared.seen.Lying.{Lying}
use Rattle.cad_near.specs.Seen.{is_clear_of}
use Rattle.cad_near.proofs.sight.is_clear_of_all.Given as goal

-- those that are left decide
abbrev pub invariant-loop-string : goal.invariant-loop-string
invariant-loop-string l =
    let test : Lying → Bool = λ s. is_clear_of s l.f in
    list_all test l.strings ≡ list_all test (drop l.string-index l.strings)
