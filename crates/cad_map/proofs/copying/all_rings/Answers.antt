use Rattle.std.proofs.Common.{◌∙◌, sym, ap, List, ◌++◌, length, ◌≤◌}
use Rattle.cad_rows.specs.declared.names.Face.TheVariants.{Parcel}
use Rattle.cad_rows.specs.declared.rows.ParcelRow.{ParcelRow}
use Rattle.cad_map.specs.declared.boundary.Boundary.{Boundary}
use Rattle.cad_map.specs.Boundaries.{canonical_order}
use Rattle.cad_map.proofs.Boundaries.AllFaces.{outlined, outlined-next, outlined-all}
use Rattle.cad_map.proofs.Lists.RowsInTurn.{row_with-there}
use Rattle.cad_map.proofs.copying.all_rings.Goals as goal

pub append_outline-requires-in-loop-place-clause-there : goal.append_outline-requires-in-loop-place-clause-there
append_outline-requires-in-loop-place-clause-there g c =
    let m = g.M.MapView.map c.args.view.now in
    let at = rw c.unwrap-parcel.ensures at c.parcel_at.ensures in
    row_with-there (λ (r : ParcelRow). r.number) m.parcels c.loop-place.place _ (sym at)

pub loop-place-preserved : goal.loop-place-preserved
loop-place-preserved g c =
    let m = g.M.MapView.map c.args.view.now in
    let at = rw c.unwrap-parcel.ensures at c.parcel_at.ensures in
    c.in_ok-append_outline-2.ensures ∙ ap (λ (bs : List Boundary). bs ++ outlined m (Parcel c.unwrap-parcel.result.now.number)) c.loop-place.invariant
    ∙ sym (outlined-next m c.loop-place.place _ (sym at))

pub returns : goal.returns
returns g c =
    let m = g.M.MapView.map c.args.view.now in
    let past : length m.parcels ≤ c.loop-place.place = rw c.counts-place-end.ensures at c.loop-place-test.false in
    ap canonical_order c.loop-place.invariant ∙ outlined-all m c.loop-place.place c.requires past
