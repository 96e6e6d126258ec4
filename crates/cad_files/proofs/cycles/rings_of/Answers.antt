use Rattle.std.proofs.Common.{◌≡◌, ◌≢◌, ◌∷◌, sym, subst, List, length, map, arith}
use Rattle.std.proofs.lemmas.List.Sorted.{length_permutation}
use Rattle.std.specs.List.{Contains}
use Rattle.cad_rings.specs.Cycle.{Side}
use Rattle.cad_map.specs.Valid.{EachPair}
use Rattle.cad_map.specs.declared.boundary.Boundary.{Boundary}
use Rattle.cad_files.specs.Cycles.{FollowedSide, followed_side}
use Rattle.cad_files.specs.declared.sides.PlanSide.{PlanSide}
use Rattle.cad_files.proofs.CycleFacts.{AreMade, AreFollowed-permuted, made-more, made-begins, made-ends, fewer-left}
use Rattle.cad_files.proofs.NextSides.{same-sides}
use Rattle.cad_files.proofs.cycles.rings_of.Goals as goal

pub of-requires : goal.of-requires
of-requires c = record {
  once = subst (λ (l : List Side). EachPair (λ a b. a ≢ b) l) (same-sides c.args.sides.items) c.requires.followed.once;
  linked = c.requires.linked;
}

pub loop-first-init : goal.loop-first-init
loop-first-init c =
    let begins = made-begins (map followed_side c.args.sides.items) c.requires.followed in
    rw (c.new-rings.ensures.items, c.in_ok-rest.ensures.left) begins

pub ring_from-requires : goal.ring_from-requires
ring_from-requires c = record {
  among = subst (λ (l : List PlanSide). Contains l c.in-Some.first) (sym c.in-Some.ensures.all) c.in-Some.ensures.among;
  followed = AreFollowed-permuted c.loop-first.rest.left (followed_side c.in-Some.first ∷ c.take_first.new.self.left) c.in-Some.ensures.some c.loop-first.invariant.left;
}

pub loop-first-smaller : goal.loop-first-smaller
loop-first-smaller c =
    let first = followed_side c.in-Some.first in
    let few = fewer-left c.take_first.new.self.left first c.in_ok-ring_from.field-0 c.ring_from.new.rest.left c.in_ok-ring_from.ensures.ring c.in_ok-ring_from.ensures.two in
    let e : length (first ∷ c.take_first.new.self.left) ≡ length c.loop-first.rest.left = length_permutation _ _ c.in-Some.ensures.some in
    omega arith

pub loop-first-preserved : goal.loop-first-preserved
loop-first-preserved c =
    let sides = map followed_side c.args.sides.items in
    subst (λ (l : List Boundary). AreMade sides l c.ring_from.new.rest.left) (sym c.in_ok-push.ensures.items)
    (made-more sides c.loop-first.rings.items c.loop-first.rest.left c.take_first.new.self.left (followed_side c.in-Some.first) c.in_ok-ring_from.field-0 c.ring_from.new.rest.left
    c.loop-first.invariant c.in-Some.ensures.some c.in_ok-ring_from.ensures.ring c.in_ok-ring_from.ensures.two c.in_ok-ring_from.ensures.left)

pub returns-clause-rings : goal.returns-clause-rings
returns-clause-rings c =
    let sides = map followed_side c.args.sides.items in
    let made = subst (λ (l : List FollowedSide). AreMade sides c.loop-first.rings.items l) c.in_default.ensures.none.0 c.loop-first.invariant in
    made-ends sides c.loop-first.rings.items made
