use Rattle.std.proofs.Common.{rules}
use Rattle.std.proofs.lemmas.List.Sorted.{answers_always}
use Rattle.geo_exact.specs.Position.{Position}
use Rattle.cad_views.proofs.land.put_in_order.Goals as goal

pub returns-clause-ordered : goal.returns-clause-ordered
returns-clause-ordered c = c.sort_unstable_by_key.ensures.sorted (λ (a : Position). record { 0 = a.x; 1 = a.y }) (answers_always _ _ _ (λ f a r g called. search rules))
