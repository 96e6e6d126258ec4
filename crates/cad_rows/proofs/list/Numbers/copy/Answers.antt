use Rattle.std.proofs.Common.{◌≢◌, ◌↔◌, ◌∙◌, sym, IsTrue, IfSome, List, subst}
use Rattle.std.specs.List.{AllPairs}
use Rattle.cad_rows.proofs.list.Numbers.copy.Goals as goal

pub invariant_of-result : goal.invariant_of-result
invariant_of-result g c =
    subst (λ (xs : List _). IfSome c.self.inside.distinct (λ told. IsTrue told ↔ AllPairs (λ x y. x ≢ y) xs))
    (sym c.as_slice.ensures ∙ sym c.in_ok-items.ensures.ok) c.self.invariant
