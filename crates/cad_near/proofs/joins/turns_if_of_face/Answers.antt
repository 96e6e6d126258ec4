use Rattle.std.proofs.Common.{sym, ◌∙◌, true≢false}
use Rattle.cad_map.proofs.CallerLemmas.{Contains-flat_map, Contains-has_side}
use Rattle.cad_rings.specs.Cycle.{sides_of}
use Rattle.cad_map.specs.declared.boundary.Boundary.{Boundary}
use Rattle.cad_map.specs.Map.{all_sides}
use Rattle.cad_near.proofs.MovedRings.{of-face, other-face}
use Rattle.cad_near.proofs.joins.turns_if_of_face.Goals as goal

pub turns_round-requires-clause-side : goal.turns_round-requires-clause-side
turns_round-requires-clause-side g c = of-face (g.M.MapView.map c.args.map.now) c.in-Some.left (c.args.from, c.args.to) (rw c.in-Some.is at c.face_of.ensures.some)

pub returns-then-not-is_face : goal.returns-then-not-is_face
returns-then-not-is_face g c = λ t b there own has.
    let told = rw c.in-Some.is at c.face_of.ensures.some in
    absurd (other-face (g.M.MapView.map c.args.map.now) c.requires.whole c.args.from c.args.face.now c.in-Some.left c.args.to told (sym c.is_face.ensures ∙ c.if-not-is_face.true) b there own has)

pub returns-else-not-is_face : goal.returns-else-not-is_face
returns-else-not-is_face g c = λ t. c.turns_round.ensures t c.args.face.now

pub returns-in-None : goal.returns-in-None
returns-in-None g c = λ t b there own has.
    let m = g.M.MapView.map c.args.map.now in
    let none = rw c.in-None.is at c.face_of.ensures.none in
    absurd (true≢false (sym (Contains-has_side (c.args.from, c.args.to) (all_sides m) (Contains-flat_map (λ (b : Boundary). sides_of b.ring) m.boundaries b (c.args.from, c.args.to) there has)) ∙ none))
