-- What an enclosure names and gives.
use Rattle.std.specs.Prelude.{◌≡◌, List, [], ◌∷◌, ◌++◌, map}
use Rattle.cad_rows.specs.declared.edits.Edit.{Edit}
use Rattle.cad_rows.specs.declared.edits.Edit.TheVariants.{Enclose}
use Rattle.cad_rows.specs.declared.rows.ParcelRow.{ParcelRow}
use Rattle.cad_rows.specs.declared.rows.StringRow.{StringRow}
use Rattle.cad_map.specs.Chain.{start_of, strings_along}
use Rattle.cad_map.specs.Map.{Map}
use Rattle.half_table.specs.declared.half.Half.{Half}
use Rattle.half_table.specs.Half.{forward_of}
use Rattle.half_table.specs.Rows.{HalfRows}
use Rattle.cad_surgery.specs.declared.edits.given.NewParcel.{NewParcel}
use Rattle.map_parts.specs.Placed.{AreOfHoles}

-- the edit
abbrev pub enclosed_by : NewParcel → Edit
enclosed_by e = Enclose e.face e.points.now e.strings.now e.parcel e.label.now e.source

-- the rows of the strings round its points
abbrev pub strings_by : NewParcel → List StringRow
strings_by e = strings_along (e.source ∷ []) e.strings.now (e.points.now ++ start_of e.points.now ∷ [])

-- the row of its parcel, and of one that comes by a division
abbrev pub parcel_by : NewParcel → ParcelRow
parcel_by e = record { number = e.parcel; label = e.label.now; sources = e.source ∷ [] }

-- What comes with an enclosure that is tried on the map: the rows, the halves of its strings, and
-- those that are kept of the holes that pass over.
pub record ComesRound (m : Map) (rows : HalfRows) (e : NewParcel) (strings : List StringRow) (parcel : ParcelRow) (path moved : List Half) : Type 0 where
  pub strings_are : strings ≡ strings_by e
  pub parcel_is : parcel ≡ parcel_by e
  pub path_is : path ≡ map forward_of e.strings.now
  pub holes : AreOfHoles m rows e.face e.points.now moved
