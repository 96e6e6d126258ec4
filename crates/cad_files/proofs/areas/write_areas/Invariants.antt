use Rattle.std.proofs.Common.{◌++◌, ℕ, List, map, take}
use Rattle.geo_exact.specs.Measure.{doubled_area}
use Rattle.cad_rows.specs.declared.names.Face.TheVariants.{Parcel}
use Rattle.cad_map.specs.Map.{sum_of_face}
use Rattle.cad_files.specs.Texts.{HasWritten, text_of}
use Rattle.cad_files.specs.Reports.{area_record}
use Rattle.cad_files.proofs.areas.write_areas.Given as goal

-- the parcels up to the place are told
abbrev pub invariant-loop-place : goal.invariant-loop-place
invariant-loop-place g l =
    let m = g.M.MapView.map l.view in
    (text : List ℕ) → HasWritten text l.fn.writer → HasWritten (text ++ text_of (map (λ r. area_record r (sum_of_face doubled_area m (Parcel r.number))) (take l.place m.parcels))) l.writer
