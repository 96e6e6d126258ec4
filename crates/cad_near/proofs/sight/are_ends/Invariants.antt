use Rattle.std.proofs.Common.{◌≡◌, drop, Bool}
use Rattle.std.specs.List.{list_all, list_any}
use Rattle.cad_near.specs.declared.seen.Lying.{Lying}
use Rattle.cad_near.specs.Seen.{ends_at}
use Rattle.cad_near.proofs.sight.are_ends.Given as goal

-- those that are left decide
abbrev pub invariant-loop-point : goal.invariant-loop-point
invariant-loop-point l =
    let test : Lying → Bool = λ p. list_any (λ s. ends_at s p.a) l.seen.strings.items in
    list_all test l.seen.points.items ≡ list_all test (drop l.point-index l.seen.points.items)
