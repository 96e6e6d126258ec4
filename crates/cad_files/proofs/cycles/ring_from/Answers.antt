use Rattle.std.proofs.Common.{◌≡◌, ◌∙◌, ◌∷◌, [], refl, sym, ap, subst, List, ℕ, length, ◌++◌, ◌≤◌, arith}
use Rattle.std.specs.List.{Contains}
use Rattle.std.proofs.lemmas.List.Sorted.{length_permutation}
use Rattle.cad_files.specs.Cycles.{followed_side}
use Rattle.cad_files.specs.declared.sides.PlanSide.{PlanSide}
use Rattle.cad_files.proofs.CycleFacts.{IsOnWay, way-begins, way-goes_on, way-ring, way-two, way-left}
use Rattle.cad_files.proofs.cycles.ring_from.Goals as goal

pub loop-next-init : goal.loop-next-init
loop-next-init c =
    let first = followed_side c.args.first in
    let is : c.push.new.self.items ≡ c.args.first.from ∷ [] = c.in_ok-push.ensures.items ∙ ap (λ (l : List ℕ). l ++ c.args.first.from ∷ []) c.new-points.ensures.items in
    record {
      way = subst (λ (l : List ℕ). IsOnWay first c.args.rest.now.left l first c.args.rest.now.left) (sym is) (way-begins first c.args.rest.now.left c.requires.followed);
      among = c.requires.among;
      all = refl;
    }

pub loop-next-smaller : goal.loop-next-smaller
loop-next-smaller c =
    let e : length (followed_side c.in-Some.next ∷ c.take_next.new.self.left) ≡ length c.loop-next.rest.left = length_permutation _ _ c.in-Some.ensures.some.1 in
    omega arith

pub loop-next-preserved : goal.loop-next-preserved
loop-next-preserved c = record {
  way =
      subst (λ (l : List ℕ). IsOnWay (followed_side c.args.first) c.args.rest.now.left l (followed_side c.in-Some.next) c.take_next.new.self.left) (sym c.in_ok-push-2.ensures.items)
      (way-goes_on (followed_side c.args.first) c.args.rest.now.left c.loop-next.points.items (followed_side c.loop-next.last) c.loop-next.rest.left c.loop-next.invariant.way (followed_side c.in-Some.next)
      c.take_next.new.self.left c.in-Some.ensures.some.0 c.in-Some.ensures.some.1);
  among = subst (λ (l : List PlanSide). Contains l c.in-Some.next) (sym c.in-Some.ensures.all) c.in-Some.ensures.among;
  all = c.in-Some.ensures.all ∙ c.loop-next.invariant.all;
}

pub from_points-requires : goal.from_points-requires
from_points-requires c =
    subst (λ (l : List ℕ). 2 ≤ length l) (sym c.as_slice.ensures.value)
    (way-two (followed_side c.args.first) c.args.rest.now.left c.loop-next.points.items (followed_side c.loop-next.last) c.loop-next.rest.left c.loop-next.invariant.way c.in_default.ensures.none.0)

pub returns-clause-ring : goal.returns-clause-ring
returns-clause-ring c =
    let is : c.in_ok-ring.ring ≡ c.loop-next.points.items = c.in_ok-ring.ensures ∙ c.as_slice.ensures.value in
    let ring = way-ring (followed_side c.args.first) c.args.rest.now.left c.loop-next.points.items (followed_side c.loop-next.last) c.loop-next.rest.left c.loop-next.invariant.way c.in_default.ensures.none.0 in
    rw (sym is, sym c.in_default.ensures.none.1) at ring

pub returns-clause-left : goal.returns-clause-left
returns-clause-left c =
    let left = way-left (followed_side c.args.first) c.args.rest.now.left c.loop-next.points.items (followed_side c.loop-next.last) c.loop-next.rest.left c.loop-next.invariant.way c.in_default.ensures.none.0 in
    rw (sym c.in_default.ensures.none.1) at left
