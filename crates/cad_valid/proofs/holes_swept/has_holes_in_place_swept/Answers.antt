use Rattle.std.proofs.Common.{◌∙◌, Bool, sym, ap}
use Rattle.std.specs.Prelude.{◌&&◌}
use Rattle.std.specs.List.{list_all}
use Rattle.cad_rows.specs.declared.rows.ParcelRow.{ParcelRow}
use Rattle.cad_rows.specs.declared.names.Face.TheVariants.{Parcel}
use Rattle.cad_map.specs.Map.{rings_of}
use Rattle.cad_map.specs.Valid.{has_sound_holes}
use Rattle.cad_valid.proofs.Tests.{all-stops, all-goes}
use Rattle.cad_valid.proofs.holes_swept.has_holes_in_place_swept.Goals as goal

pub returns-then-not-branch-2 : goal.returns-then-not-branch-2
returns-then-not-branch-2 c =
    let m = c.args.map.now in
    let sound = λ (p : ParcelRow). has_sound_holes m (rings_of m (Parcel p.number)) in
    let at = rw c.unwrap-parcel.ensures at c.parcel_at.ensures in
    let outside = sym c.in_ok-has_sound_holes.ensures ∙ c.if-not-branch.false in
    sym (ap (λ (b : Bool). b && list_all sound m.parcels) outside ∙ c.loop-place.invariant
    ∙ all-stops sound m.parcels c.loop-place.place _ (sym at) (sym c.in_ok-has_sound_holes-2.ensures ∙ c.if-not-branch-2.true))

pub loop-place-preserved : goal.loop-place-preserved
loop-place-preserved c =
    let m = c.args.map.now in
    let sound = λ (p : ParcelRow). has_sound_holes m (rings_of m (Parcel p.number)) in
    let at = rw c.unwrap-parcel.ensures at c.parcel_at.ensures in
    c.loop-place.invariant ∙ all-goes sound m.parcels c.loop-place.place _ (sym at) (sym c.in_ok-has_sound_holes-2.ensures ∙ c.if-not-branch-2.false)
