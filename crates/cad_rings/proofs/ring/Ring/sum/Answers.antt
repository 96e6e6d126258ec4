use Rattle.std.proofs.Common.{◌≡◌, ◌∙◌, sym, ap, subst, List, length, arith}
use Rattle.std.proofs.lemmas.Int.{ints}
use Rattle.std.specs.List.{AllByRecursion}
use Rattle.geo_exact.specs.Measure.{sum_over}
use Rattle.cad_rings.specs.Cycle.{Side, sides_of, placed, ring_sum}
use Rattle.cad_rings.specs.SidesLeft.{sides_left}
use Rattle.cad_rings.specs.Positions.{IsPlaced, position_in}
use Rattle.cad_rings.proofs.InMemory.{ends_of}
use Rattle.cad_rings.proofs.CallerLemmas.{length-sides_of, ring_sum-cut, ring_sum-joined}
use Rattle.cad_rings.proofs.ring.Ring.sum.Goals as goal

pub loop-from-init : goal.loop-from-init
loop-from-init g c =
    let placed_in = position_in c.args.positions.now in
    let all : sides_left c.into_iter-from-iterator.result ≡ sides_of c.args.self.now = ap sides_left c.into_iter-from-iterator.ensures.into_iter_gives ∙ c.sides-from-items.ensures in
    let sum = ap (λ (sides : List Side). sum_over (g.F.SideMeasure.measure c.args.measure.now) (placed placed_in sides)) all in
    let many = ap length all in
    record {
      value = omega (arith, ints, sum);
      small = omega (arith, many, length-sides_of c.args.self.now);
      ends = subst (λ (sides : List Side). AllByRecursion (λ s. IsPlaced c.args.positions.now s.0 × IsPlaced c.args.positions.now s.1) sides) (sym all) (ends_of (IsPlaced c.args.positions.now) c.args.self.now c.requires.placed);
    }

pub loop-from-preserved : goal.loop-from-preserved
loop-from-preserved g c =
    let placed_in = position_in c.args.positions.now in
    let step = c.in-Some.ensures.steps in
    let sum = ap (λ (sides : List Side). sum_over (g.F.SideMeasure.measure c.args.measure.now) (placed placed_in sides)) step in
    let many = ap length step in
    let of = rw (c.position_of.ensures, c.position_of-in-loop-from.ensures) at c.of-total.ensures.value in
    record {
      value = omega (arith, ints, sum, of);
      small = omega (arith, ints, many);
      ends = (subst (λ (sides : List Side). AllByRecursion (λ s. IsPlaced c.args.positions.now s.0 × IsPlaced c.args.positions.now s.1) sides) step c.loop-from.invariant.ends).1;
    }

pub returns-clause-cut : goal.returns-clause-cut
returns-clause-cut g c = λ i j inner two.
    let placed_in = position_in c.args.positions.now in
    let measure = g.F.SideMeasure.measure c.args.measure.now in
    let none = ap (λ (sides : List Side). sum_over measure (placed placed_in sides)) c.in-None.ensures.steps.0 in
    ring_sum-cut measure (g.met.F.SideMeasure.odd c.args.measure.now) placed_in i j inner c.args.self.now two ∙ omega (arith, ints, none)

pub returns-clause-joined : goal.returns-clause-joined
returns-clause-joined g c = λ i j m kept ended common is.
    let placed_in = position_in c.args.positions.now in
    let measure = g.F.SideMeasure.measure c.args.measure.now in
    let none = ap (λ (sides : List Side). sum_over measure (placed placed_in sides)) c.in-None.ensures.steps.0 in
    ring_sum-joined measure (g.met.F.SideMeasure.odd c.args.measure.now) placed_in i j m kept ended common ∙ ap (ring_sum measure placed_in) (sym is) ∙ omega (arith, ints, none)
