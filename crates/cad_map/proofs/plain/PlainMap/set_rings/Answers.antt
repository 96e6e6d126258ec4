use Rattle.std.proofs.Common.{sym, ap, ◌∙◌}
use Rattle.cad_map.specs.Boundaries.{canonical_order}
use Rattle.cad_map.proofs.Boundaries.CanonicalOrder.{canonical_order-canonical_order}
use Rattle.cad_map.proofs.plain.PlainMap.set_rings.Goals as goal

pub invariant_of-self-2 : goal.invariant_of-self-2
invariant_of-self-2 c =
    let order = c.arrange.ensures.canonical_order in
    (ap canonical_order order ∙ canonical_order-canonical_order c.append.new.self.items ∙ sym order, c.arrange.ensures.two)
