use Rattle.std.proofs.Common.{◌≡◌, ◌∙◌, ap, sym, subst, List, length, arith}
use Rattle.std.proofs.lemmas.Int.{ints}
use Rattle.geo_exact.specs.Position.{Position}
use Rattle.geo_exact.specs.Measure.{doubled_area}
use Rattle.cad_map.specs.Map.{Map, empty_map, position_of}
use Rattle.half_table.specs.declared.half.Half.{Half}
use Rattle.half_table.specs.Cycle.{orbit}
use Rattle.half_table.specs.Rows.{halves, next, origin_of}
use Rattle.half_paths.specs.Path.{AreIn}
use Rattle.numbered_rows.specs.Rows.{rows_in}
use Rattle.cad_surgery.proofs.AreasAlong.{area_ahead, ahead-is, cycle-in, past-first}
use Rattle.cad_surgery.proofs.areas.area_along.Goals as goal

pub loop-along-init : goal.loop-along-init
loop-along-init g c =
    let m : Map = record empty_map { points = rows_in c.args.points.now } in
    let rows = c.args.table.now.rows in
    let h = c.args.half.now in
    let rest = orbit (next rows) (length (halves rows)) h (next rows h) in
    let at : Half → Position = λ k. position_of m (origin_of rows k) in
    let left : c.into_iter-along-iterator.result ≡ rest = c.into_iter-along-iterator.ensures.into_iter_gives ∙ past-first c.next.result _ _ c.next.ensures.steps c.walk-halves.ensures.halves in
    let first : c.position_in-first.result ≡ at h = c.position_in-first.ensures ∙ ap (position_of m) c.origin.ensures in
    let many = ap length left in
    let few = c.requires.few in
    let whole = ahead-is (position_of m) (origin_of rows) (origin_of rows h) (origin_of rows h) rest in
    let here : area_ahead at c.position_in-first.result c.into_iter-along-iterator.result c.position_in-first.result ≡ area_ahead at (at h) rest (at h) = λ i. area_ahead at (first i) (left i) (first i) in
    record {
      value = omega (arith, ints, here, whole);
      small = omega (arith, ints, many, few);
      ahead = subst (AreIn rows) (sym left) (cycle-in rows c.walk-halves.ensures.linked h c.requires.there).1;
    }

pub overflow_add-area : goal.overflow_add-area
overflow_add-area g c = let many = ap length c.in-Some.ensures.steps in omega (arith, ints, many)

pub loop-along-preserved : goal.loop-along-preserved
loop-along-preserved g c =
    let m : Map = record empty_map { points = rows_in c.args.points.now } in
    let rows = c.args.table.now.rows in
    let at : Half → Position = λ k. position_of m (origin_of rows k) in
    let step = c.in-Some.ensures.steps in
    let here : c.position_in-here.result ≡ at c.in-Some.along = c.position_in-here.ensures ∙ ap (position_of m) c.origin-in-loop-along.ensures in
    let many = ap length step in
    let ahead = ap (λ (l : List Half). area_ahead at c.loop-along.last l c.position_in-first.result) step in
    let one : c.of-area.result ≡ doubled_area c.loop-along.last (at c.in-Some.along) = c.of-area.ensures.value ∙ ap (doubled_area c.loop-along.last) here in
    let next = ap (λ (p : Position). area_ahead at p c.next-in-loop-along.new.self c.position_in-first.result) here in
    let all = subst (AreIn rows) step c.loop-along.invariant.ahead in
    record {
      value = omega (arith, ints, ahead, one, next);
      small = omega (arith, ints, many);
      ahead = all.1;
    }

pub returns : goal.returns
returns g c =
    let none = c.in-None.ensures.steps in
    let m : Map = record empty_map { points = rows_in c.args.points.now } in
    let rows = c.args.table.now.rows in
    let at : Half → Position = λ k. position_of m (origin_of rows k) in
    let ahead = ap (λ (l : List Half). area_ahead at c.loop-along.last l c.position_in-first.result) none.0 in
    omega (arith, ints, ahead)
