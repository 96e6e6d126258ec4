use Rattle.cad_map.proofs.Boundaries.CanonicalOrder.{canonical_order-canonical_order, canonical_order-permuted}
use Rattle.cad_map.proofs.Boundaries.OrderedSides.{sides_in-canonical_order, corners_in-canonical_order}
use Rattle.cad_map.proofs.laws.one_list.Goals as goal

pub returns-clause-canonical_again : goal.returns-clause-canonical_again
returns-clause-canonical_again c = canonical_order-canonical_order

pub returns-clause-any_order : goal.returns-clause-any_order
returns-clause-any_order c = canonical_order-permuted

pub returns-clause-sides : goal.returns-clause-sides
returns-clause-sides c = sides_in-canonical_order

pub returns-clause-corners : goal.returns-clause-corners
returns-clause-corners c = corners_in-canonical_order
