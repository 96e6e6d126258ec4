use Rattle.std.proofs.Common.{sym, ap, ◌∙◌}
use Rattle.cad_map.specs.Boundaries.{canonical_order}
use Rattle.cad_map.proofs.Boundaries.CanonicalOrder.{canonical_order-canonical_order}
use Rattle.cad_map.proofs.plain.PlainMap.set_boundaries.Goals as goal

pub invariant_of-self : goal.invariant_of-self
invariant_of-self c = (ap canonical_order c.in_canonical_order.ensures.canonical_order ∙ canonical_order-canonical_order c.args.boundaries.items ∙ sym c.in_canonical_order.ensures.canonical_order, c.in_canonical_order.ensures.two)
