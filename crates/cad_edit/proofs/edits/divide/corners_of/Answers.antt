use Rattle.std.proofs.Common.{sym, true, false, [], ◌∷◌}
use Rattle.cad_map.specs.Refusals.{first_of}
use Rattle.cad_edit.proofs.ChainRows.{in-chosen, joins-chosen}
use Rattle.cad_edit.proofs.edits.divide.corners_of.Goals as goal

pub returns-then-are_in_one_ring-clause-one_ring : goal.returns-then-are_in_one_ring-clause-one_ring
returns-then-are_in_one_ring-clause-one_ring g c =
    sym (joins-chosen (g.M.MapView.map c.args.map.now) _ _ _ _ _ _ c.args.edit.now c.in-Divide.is c.as_slice-chain.result.now c.as_slice-chain.ensures
    c.in-Some.first c.in-Some-last_corner.last c.in-Some.ensures c.in-Some-last_corner.ensures c.are_in_one_ring.result c.are_in_one_ring.ensures true c.if-are_in_one_ring.true)

pub returns-else-are_in_one_ring-clause-refused : goal.returns-else-are_in_one_ring-clause-refused
returns-else-are_in_one_ring-clause-refused g c =
    let in_face = in-chosen (g.M.MapView.map c.args.map.now) _ _ _ _ _ _ c.args.edit.now c.in-Divide.is c.as_slice-chain.result.now c.as_slice-chain.ensures
    c.in-Some.first c.in-Some-last_corner.last c.in-Some.ensures c.in-Some-last_corner.ensures in
    let apart = sym (joins-chosen (g.M.MapView.map c.args.map.now) _ _ _ _ _ _ c.args.edit.now c.in-Divide.is c.as_slice-chain.result.now c.as_slice-chain.ensures
    c.in-Some.first c.in-Some-last_corner.last c.in-Some.ensures c.in-Some-last_corner.ensures c.are_in_one_ring.result c.are_in_one_ring.ensures false c.if-are_in_one_ring.false) in
    λ i. first_of (in_face i ∷ apart i ∷ [])
