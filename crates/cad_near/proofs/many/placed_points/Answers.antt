use Rattle.std.proofs.Common.{◌∙◌, ◌++◌, ◌∷◌, [], refl, sym, ap}
use Rattle.std.proofs.lemmas.Option.{slice_get_read}
use Rattle.cad_rows.specs.declared.rows.PointRow.{PointRow}
use Rattle.cad_valid.specs.declared.placed.Placed.{Placed}
use Rattle.cad_near.specs.Near.{OfPoint}
use Rattle.cad_valid.specs.Placed.{placed_point}
use Rattle.cad_near.proofs.ListsLeft.{where_ok}
use Rattle.cad_near.proofs.SeenNear.{row-gathered, no_row-gathered}
use Rattle.cad_near.proofs.many.placed_points.Goals as goal
use Rattle.cad_near.proofs.many.placed_points.Goals.{in-Some+in_ok-ok, in_default}

pub loop-place-preserved : goal.loop-place-preserved
unfolding OfPoint
loop-place-preserved g c =
    let m = g.M.MapView.map c.args.map.now in
    let before = c.loop-place.items.items in
    let at = slice_get_read c.args.numbers.now _ c.loop-place.place c.index-numbers-place.result refl c.loop-place-test.true c.index-numbers-place.is in
    elim c.match-point.branch [
      | in-Some+in_ok-ok w ↦
          let f = w.placed_point.result in
          let put = where_ok w.push.result w.ok.result w.in_ok-ok.field-0 before (before ++ f ∷ []) w.push.new.self.items w.in_ok-ok.was w.ok.ensures.value w.push.ensures.items in
          row-gathered (λ (r : PointRow). r.number) m.points c.requires.points.distinct c.args.numbers.now c.loop-place.place _ at placed_point before _ w.in-Some.row.now (sym w.in-Some.ensures)
          (ap (λ v. v.items) w.items-is ∙ put ∙ ap (λ (f : Placed). before ++ f ∷ []) w.placed_point.ensures) c.loop-place.invariant
      | in_default w ↦
          no_row-gathered (λ (r : PointRow). r.number) m.points c.requires.points.distinct c.args.numbers.now c.loop-place.place _ at placed_point before _ (sym w.in_default.ensures)
          (ap (λ v. v.items) w.items-is) c.loop-place.invariant
    ]
