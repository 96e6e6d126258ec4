use Rattle.std.proofs.Common.{◌++◌, ◌∷◌, [], refl, sym, ap, ◌∙◌, arith}
use Rattle.std.proofs.lemmas.Option.{slice_get_read}
use Rattle.cad_rows.specs.declared.rows.PointRow.{PointRow}
use Rattle.cad_near.specs.declared.seen.Lying.{Lying}
use Rattle.cad_near.specs.Near.{OfPoint}
use Rattle.cad_near.specs.Seen.{lying_point}
use Rattle.cad_near.proofs.SeenNear.{row-gathered, no_row-gathered}
use Rattle.cad_near.proofs.seen.gather_points.Goals as goal
use Rattle.cad_near.proofs.seen.gather_points.Goals.{in-Some+else-is_full, in_default}

pub loop-place-preserved : goal.loop-place-preserved
unfolding OfPoint
loop-place-preserved g c =
    let m = g.M.MapView.map c.args.map.now in
    let before = c.loop-place.seen.items in
    let at = slice_get_read c.args.points.now _ c.loop-place.place c.index-points-place.result refl c.loop-place-test.true c.index-points-place.is in
    let kept = c.loop-place.invariant in
    elim c.match-point.branch [
      | in-Some+else-is_full w ↦ record {
        all = row-gathered (λ (r : PointRow). r.number) m.points c.requires.sound.points.distinct c.args.points.now c.loop-place.place _ at lying_point before _ w.in-Some.row.now (sym w.in-Some.ensures)
            (ap (λ v. v.items) w.seen-is ∙ w.push.ensures.items ∙ ap (λ (f : Lying). before ++ f ∷ []) w.lying_point.ensures) kept.all;
        few = rw w.seen-is (omega (arith, w.push.ensures.len, kept.few));
      }
      | in_default w ↦ record {
        all = no_row-gathered (λ (r : PointRow). r.number) m.points c.requires.sound.points.distinct c.args.points.now c.loop-place.place _ at lying_point before _ (sym w.in_default.ensures)
            (ap (λ v. v.items) w.seen-is) kept.all;
        few = rw w.seen-is (omega (arith, kept.few));
      }
    ]
