use Rattle.std.proofs.Common.{◌≢◌, ◌↔◌, IsTrue, IfSome, List, subst, sym, ap}
use Rattle.std.specs.List.{AllPairs}
use Rattle.cad_rows.proofs.list.Numbers.push.Goals as goal

pub invariant_of-self : goal.invariant_of-self
invariant_of-self g c =
    subst (λ (xs : List _). IfSome c.self.inside.distinct (λ told. IsTrue told ↔ AllPairs (λ x y. x ≢ y) xs))
    (ap (λ v. v.items) (sym c.in_err-push.ensures.err)) c.self.invariant
