use Rattle.std.proofs.Common.{◌≡◌, drop, Bool}
use Rattle.std.specs.List.{list_any}
use Rattle.cad_near.specs.declared.seen.Lying.{Lying}
use Rattle.cad_near.specs.Seen.{ends_at}
use Rattle.cad_near.proofs.sight.is_at_an_end.Given as goal

-- those that are left decide
abbrev pub invariant-loop-string : goal.invariant-loop-string
invariant-loop-string l =
    let test : Lying → Bool = λ s. ends_at s l.p in
    list_any test l.strings ≡ list_any test (drop l.string-index l.strings)
