use Rattle.std.proofs.Common.{◌≡◌, ◌≤◌, ◌*◌, sym, ap, ◌∙◌, ℤ, ◌+ℤ◌, pos, unsigned_abs, to_z, of_z, to_z-of_z, FitsSigned, arith}
use Rattle.std.specs.Int.{w128}
use Rattle.std.proofs.lemmas.Int.{ints}
use Rattle.std.specs.Prelude.{int_lt}
use Rattle.geo_exact.specs.Measure.{doubled_area, measure_limit}
use Rattle.cad_map.specs.Map.{position_of, sum_of_ring}
use Rattle.cad_map.specs.Touched.{Joined}
use Rattle.cad_near.specs.Joins.{area_of_bend}
use Rattle.cad_near.proofs.joins.turns_round.Goals as goal

-- the ring's area and the corner's are what is read of them, and so is their sum
module _ (area bend : ℤ) (small : unsigned_abs area ≤ 80000000000000000000000000) (bent : unsigned_abs bend ≤ 3 * measure_limit) where
  alone : to_z w128 (of_z w128 area) ≡ area
  alone = let fits : FitsSigned w128 area = omega (arith, ints) in to_z-of_z fits

  other : to_z w128 (of_z w128 bend) ≡ bend
  other = let fits : FitsSigned w128 bend = omega (arith, ints) in to_z-of_z fits

  sum_fits : FitsSigned w128 (to_z w128 (of_z w128 area) +ℤ to_z w128 (of_z w128 bend))
  sum_fits = rw (alone, other) (omega (arith, ints))

  both : to_z w128 (of_z w128 (to_z w128 (of_z w128 area) +ℤ to_z w128 (of_z w128 bend))) ≡ area +ℤ bend
  both = to_z-of_z sum_fits ∙ (λ i. alone i +ℤ other i)

pub overflow_add-round : goal.overflow_add-round
overflow_add-round g c = sum_fits c.round_along-round.result.area c.area_of_bend-bend.result c.round_along-round.ensures.small c.area_of_bend-bend.ensures.small

pub returns-then-get : goal.returns-then-get
returns-then-get g c same f b there own has =
    let m = g.M.MapView.map c.args.map.now in
    let area = c.round_along-round.result.area in
    let bend = c.area_of_bend-bend.result in
    let itself = alone area bend c.round_along-round.ensures.small c.area_of_bend-bend.ensures.small in
    let sum = both area bend c.round_along-round.ensures.small c.area_of_bend-bend.ensures.small in
    let walked = c.round_along-round.ensures.round b there has in
    let bent = c.area_of_bend-bend.ensures.value ∙ (λ i. area_of_bend (c.position.ensures i) ((c.joined.view_is i).position) (c.position-2.ensures i)) in
    let round : area +ℤ bend ≡ sum_of_ring doubled_area m b.ring +ℤ area_of_bend (position_of m c.args.from) c.args.joined.now.position (position_of m c.args.to) = λ i. walked.area i +ℤ bent i in
    let less = c.if-get.true in
    let least = c.get.ensures.value ∙ walked.least in
    let point = c.get-2.ensures.value ∙ ap (λ (j : Joined). j.point) c.joined.view_is in
    let signs = c.is_same_turn.ensures in
    record {
      positive = ap (int_lt (pos 0)) (sym walked.area ∙ sym itself) ∙ signs.positive same ∙ ap (int_lt (pos 0)) (sum ∙ round);
      negative = ap (λ (z : ℤ). int_lt z (pos 0)) (sym walked.area ∙ sym itself) ∙ signs.negative same ∙ ap (λ (z : ℤ). int_lt z (pos 0)) (sum ∙ round);
      anchor = omega (arith, less, least, point);
    }
