use Rattle.std.proofs.Common.{◌≢◌, ◌↔◌, IsTrue, IfSome, List, subst}
use Rattle.std.specs.List.{AllPairs}
use Rattle.cad_rows.proofs.list.Numbers.distinct_as_told.Goals as goal

pub returns : goal.returns
returns g c = subst (λ (xs : List _). IfSome c.self.inside.distinct (λ told. IsTrue told ↔ AllPairs (λ x y. x ≢ y) xs)) c.self.view_is c.self.invariant
