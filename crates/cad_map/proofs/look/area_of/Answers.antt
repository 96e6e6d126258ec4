use Rattle.std.proofs.Common.{◌≡◌, ◌∙◌, ap, List, length, arith}
use Rattle.std.proofs.lemmas.Int.{ints}
use Rattle.geo_exact.specs.Measure.{doubled_area, sum_over}
use Rattle.cad_rings.specs.Cycle.{Side, sides_of, placed}
use Rattle.cad_rings.specs.SidesLeft.{sides_left}
use Rattle.cad_rings.proofs.CallerLemmas.{length-sides_of}
use Rattle.numbered_rows.specs.Rows.{rows_in}
use Rattle.cad_map.specs.Map.{Map, empty_map, position_of}
use Rattle.cad_map.proofs.look.area_of.Goals as goal

pub loop-from-init : goal.loop-from-init
loop-from-init c =
    let m : Map = record empty_map { points = rows_in c.args.points.now } in
    let ring = c.args.ring.now in
    let all : sides_left c.into_iter-from-iterator.result ≡ sides_of ring = ap sides_left c.into_iter-from-iterator.ensures.into_iter_gives ∙ c.sides-from-items.ensures in
    let sum = ap (λ (sides : List Side). sum_over doubled_area (placed (position_of m) sides)) all in
    let many = ap length all in
    record {
      value = omega (arith, ints, sum);
      small = omega (arith, many, length-sides_of ring);
    }

pub loop-from-preserved : goal.loop-from-preserved
loop-from-preserved c =
    let m : Map = record empty_map { points = rows_in c.args.points.now } in
    let step = c.in-Some.ensures.steps in
    let sum = ap (λ (sides : List Side). sum_over doubled_area (placed (position_of m) sides)) step in
    let many = ap length step in
    let of = rw (c.position_in.ensures, c.position_in-in-loop-from.ensures) at c.of-area.ensures.value in
    record {
      value = omega (arith, ints, sum, of);
      small = omega (arith, ints, many);
    }
