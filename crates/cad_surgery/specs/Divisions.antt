-- What a division names and gives.
use Rattle.std.specs.Prelude.{◌≡◌, not, List, [], ◌∷◌, map, filter, IsPermutation}
use Rattle.cad_rows.specs.declared.edits.Edit.{Edit}
use Rattle.cad_rows.specs.declared.edits.Edit.TheVariants.{Divide}
use Rattle.cad_rows.specs.declared.names.Face.TheVariants.{Parcel}
use Rattle.cad_rows.specs.declared.rows.ParcelRow.{ParcelRow}
use Rattle.cad_rows.specs.declared.rows.StringRow.{StringRow}
use Rattle.cad_rings.specs.Cycle.{Ring, Corner, has_side, sides_of}
use Rattle.cad_map.specs.Boundaries.{is_face}
use Rattle.cad_map.specs.Chain.{leaving, strings_along}
use Rattle.cad_map.specs.Division.{hole_placed}
use Rattle.cad_map.specs.Effects.{after}
use Rattle.cad_map.specs.Map.{Map}
use Rattle.half_table.specs.declared.half.Half.{Half}
use Rattle.half_table.specs.Half.{forward_of}
use Rattle.half_table.specs.Rows.{HalfRows}
use Rattle.half_paths.specs.Path.{AreIn}
use Rattle.cad_laws.specs.Faces.{IsDividedIn, left_of_chain, uncut}
use Rattle.cad_laws.specs.Local.{side_by}
use Rattle.cad_laws.specs.Tried.{AreChosen}
use Rattle.cad_surgery.specs.declared.edits.given.NewParcel.{NewParcel}
use Rattle.cad_surgery.specs.Enclosures.{parcel_by}
use Rattle.map_parts.specs.Handing.{home_of}
use Rattle.map_parts.specs.Labels.{IsAlong}
use Rattle.map_parts.specs.Islands.{AreOfRings}
use Rattle.map_parts.specs.Placed.{AreOfHoles}

-- the edit
abbrev pub divided_by : NewParcel → Edit
divided_by d = Divide d.face d.points.now d.strings.now d.parcel d.label.now d.source

-- the rows of the strings along its chain
abbrev pub strings_across : NewParcel → List StringRow
strings_across d = strings_along (d.source ∷ []) d.strings.now d.points.now

-- One half of each ring of the face that passes over to the left of its chain: of each hole that lies
-- in the part of the cut ring left of the chain, but for the cut ring itself.
pub record AreMovedOver (m : Map) (rows : HalfRows) (d : NewParcel) (first last : Corner) (cut : Ring) (moved : List Half) : Type 0 where
  pub holes : List Half
  pub holes_are : AreOfHoles m rows d.face (left_of_chain d.points.now first last cut) holes
  pub off : moved ≡ filter (λ h. not (has_side (side_by rows h) (sides_of cut))) holes

-- In a table that goes with the map, the halves that leave the two corners between which the chain
-- leads, and one half of each ring that passes over.
pub record HasCrossing (m : Map) (rows : HalfRows) (d : NewParcel) (start end : Half) (moved : List Half) : Type 0 where
  pub first : Corner
  pub last : Corner
  pub chosen : AreChosen m d.face d.points.now first last
  pub divided : IsDividedIn m (after m (divided_by d)) d.face (Parcel d.parcel) d.points.now first last
  pub start_on : IsAlong m rows (leaving first) start
  pub end_on : IsAlong m rows (leaving last) end
  pub moved_in : AreIn rows moved
  pub moved_are : AreOfRings (after m (divided_by d)) rows moved (Parcel d.parcel)
      (map (hole_placed m d.face (Parcel d.parcel) (left_of_chain d.points.now first last divided.cut.ring)) (uncut m first))
  pub once : IsPermutation (map (home_of (after m (divided_by d)) rows) moved)
      (filter (λ b. is_face (Parcel d.parcel) b.face)
      (map (hole_placed m d.face (Parcel d.parcel) (left_of_chain d.points.now first last divided.cut.ring)) (uncut m first)))

-- What comes with a division that is tried on the map: the rows, the halves of its strings, and
-- where its chain crosses the face.
pub record ComesAcross (m : Map) (rows : HalfRows) (d : NewParcel) (start end : Half) (moved : List Half) (strings : List StringRow) (parcel : ParcelRow) (path : List Half) : Type 0 where
  pub strings_are : strings ≡ strings_across d
  pub parcel_is : parcel ≡ parcel_by d
  pub path_is : path ≡ map forward_of d.strings.now
  pub crossing : HasCrossing m rows d start end moved
