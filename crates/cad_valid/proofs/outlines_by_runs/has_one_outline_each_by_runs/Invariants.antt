use Rattle.std.proofs.Common.{◌≡◌, drop}
use Rattle.std.specs.List.{list_all}
use Rattle.cad_rows.specs.declared.rows.ParcelRow.{ParcelRow}
use Rattle.cad_rows.specs.declared.names.Face.TheVariants.{Parcel}
use Rattle.cad_map.specs.Map.{rings_of}
use Rattle.cad_map.specs.Valid.{has_outlines}
use Rattle.cad_valid.proofs.outlines_by_runs.has_one_outline_each_by_runs.Given as goal

-- the parcels that are left decide
abbrev pub invariant-loop-place : goal.invariant-loop-place
invariant-loop-place l =
    let m = l.map in
    let sound = λ (p : ParcelRow). has_outlines 1 m (rings_of m (Parcel p.number)) in
    list_all sound m.parcels ≡ list_all sound (drop l.place m.parcels)
