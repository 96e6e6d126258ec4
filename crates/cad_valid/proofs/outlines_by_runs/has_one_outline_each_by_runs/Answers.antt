use Rattle.std.proofs.Common.{◌∙◌, Bool, sym, ap}
use Rattle.std.specs.Prelude.{◌&&◌}
use Rattle.std.specs.List.{list_all}
use Rattle.cad_rows.specs.declared.rows.ParcelRow.{ParcelRow}
use Rattle.cad_rows.specs.declared.names.Face.TheVariants.{Parcel}
use Rattle.cad_map.specs.Map.{rings_of}
use Rattle.cad_map.specs.Valid.{has_outlines}
use Rattle.cad_valid.proofs.Tests.{all-stops, all-goes}
use Rattle.cad_valid.proofs.outlines_by_runs.has_one_outline_each_by_runs.Goals as goal

pub returns-then-not-has_outlines-2 : goal.returns-then-not-has_outlines-2
returns-then-not-has_outlines-2 c =
    let m = c.args.map.now in
    let sound = λ (p : ParcelRow). has_outlines 1 m (rings_of m (Parcel p.number)) in
    let at = rw c.unwrap-parcel.ensures at c.parcel_at.ensures in
    let outside = sym c.has_outlines.ensures ∙ c.if-not-has_outlines.false in
    sym (ap (λ (b : Bool). b && list_all sound m.parcels) outside ∙ c.loop-place.invariant ∙ all-stops sound m.parcels c.loop-place.place _ (sym at) (sym c.has_outlines-in-loop-place.ensures ∙ c.if-not-has_outlines-2.true))

pub loop-place-preserved : goal.loop-place-preserved
loop-place-preserved c =
    let m = c.args.map.now in
    let sound = λ (p : ParcelRow). has_outlines 1 m (rings_of m (Parcel p.number)) in
    let at = rw c.unwrap-parcel.ensures at c.parcel_at.ensures in
    c.loop-place.invariant ∙ all-goes sound m.parcels c.loop-place.place _ (sym at) (sym c.has_outlines-in-loop-place.ensures ∙ c.if-not-has_outlines-2.false)
