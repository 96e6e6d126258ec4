use Rattle.std.proofs.Common.{refl, sym, subst}
use Rattle.std.proofs.lemmas.List.{take_all}
use Rattle.std.proofs.lemmas.Option.{slice_get_read}
use Rattle.std.specs.List.{AllByRecursion}
use Rattle.geo_exact.specs.Position.{Position}
use Rattle.cad_rows.specs.declared.rows.PointRow.{PointRow}
use Rattle.cad_near.specs.Near.{OfPoint}
use Rattle.cad_near.specs.Seen.{IsInReach, HasInReach, lying_point}
use Rattle.cad_near.proofs.SeenNear.{wider_of, row-more, no_row-more}
use Rattle.cad_near.proofs.many.grown_by_points.Goals as goal
use Rattle.cad_near.proofs.many.grown_by_points.Goals.{in-Some, in_default}

pub loop-place-init : goal.loop-place-init
loop-place-init g c = record { all = tt; kept = λ q h. h }

pub loop-place-preserved : goal.loop-place-preserved
unfolding OfPoint
loop-place-preserved g c =
    let m = g.M.MapView.map c.args.map.now in
    let at = slice_get_read c.args.points.now _ c.loop-place.place c.index-points-place.result refl c.loop-place-test.true c.index-points-place.is in
    let old = c.loop-place.so_far in
    let all = c.loop-place.invariant.all in
    elim c.match-point.branch [
      | in-Some w ↦
          let new = w.grown-so_far.result in
          let wider : (q : Position) → IsInReach old q → IsInReach new q = w.grown-so_far.ensures.kept in
          rw w.so_far-is (record {
            all = row-more (λ (r : PointRow). r.number) m.points c.requires.points.distinct c.args.points.now c.loop-place.place _ at
                (λ p. HasInReach old (lying_point p)) (λ p. HasInReach new (lying_point p)) (λ p h. wider_of old new wider (lying_point p) h) all w.in-Some.row.now (sym w.in-Some.ensures)
                (record { a = w.grown-so_far.ensures.within; b = w.grown-so_far.ensures.within });
            kept = λ q h. wider q (c.loop-place.invariant.kept q h);
          })
      | in_default w ↦ rw w.so_far-is (record {
        all = no_row-more (λ (r : PointRow). r.number) m.points c.requires.points.distinct c.args.points.now c.loop-place.place _ at
            (λ p. HasInReach old (lying_point p)) (λ p. HasInReach old (lying_point p)) (λ p h. h) all (sym w.in_default.ensures);
        kept = c.loop-place.invariant.kept;
      })
    ]

pub returns-clause-all : goal.returns-clause-all
returns-clause-all g c =
    let m = g.M.MapView.map c.args.map.now in
    subst (AllByRecursion (OfPoint m (λ s. HasInReach c.loop-place.so_far (lying_point s)))) (take_all c.loop-place.place c.args.points.now c.loop-place-test.false) c.loop-place.invariant.all

pub returns-clause-kept : goal.returns-clause-kept
returns-clause-kept g c = c.loop-place.invariant.kept
