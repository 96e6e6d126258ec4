-- What the record of an edit tells, of which two maps it is one, and what it weighs.
use Rattle.std.specs.Prelude.{◌≡◌, ℕ, ◌+◌, ⊤, List, [], ◌∷◌, length, option_map, slice_get, sum_by, Some, None}
use Rattle.geo_exact.specs.Position.{Position}
use Rattle.cad_rows.specs.declared.edits.Edit.{Edit}
use Rattle.cad_rows.specs.declared.edits.Edit.TheVariants as edit
use Rattle.cad_rows.specs.declared.names.Face.{Face}
use Rattle.cad_rows.specs.declared.names.Face.TheVariants.{Parcel}
use Rattle.cad_rows.specs.declared.names.Item.{Item}
use Rattle.cad_rows.specs.declared.names.Item.TheVariants as item
use Rattle.cad_rows.specs.declared.rows.PointRow.{PointRow}
use Rattle.cad_rows.specs.declared.rows.StringRow.{StringRow}
use Rattle.cad_rows.specs.declared.rows.ParcelRow.{ParcelRow}
use Rattle.cad_rows.specs.declared.rows.SourceRow.{SourceRow}
use Rattle.cad_map.specs.Changes.{by_number}
use Rattle.cad_map.specs.Effects.{after}
use Rattle.cad_map.specs.Map.{Map, point_of, parcel_of, strings_at}
use Rattle.cad_map.specs.Outcome.{LeadsTo}
use Rattle.cad_map.specs.Refusals.{first_refusal, sources_at}
use Rattle.numbered_rows.specs.Rows.{without_row}
use Rattle.cad_map.specs.Valid.{IsValid}
use Rattle.half_table.specs.declared.half.Half.{Half}
use Rattle.edit_records.specs.declared.record.ChainString.{ChainString}
use Rattle.edit_records.specs.declared.record.SmallRecord.{SmallRecord}
use Rattle.edit_records.specs.declared.record.SmallRecord.TheVariants.{AddSource, AddPoint, DropPoint, Split, Join, Divide, MergeAlong, MergeIsland, Move, Attach, Detach, Rename, Enclose}
use Rattle.edit_records.specs.HeldChains.{HeldChain, HeldIsland, HeldMerged, IsSharedAlong, IsSharedAround, closed}

-- the edit that the record is of
abbrev pub edit_of : SmallRecord → Edit
edit_of (AddSource row) = edit.AddSource row.number row.text
edit_of (AddPoint p at) = edit.AddPoint p at.x at.y
edit_of (DropPoint row place) = edit.DropPoint row.number
edit_of (Split row place p at first second) = edit.Split row.number p at.x at.y first second
edit_of (Join row place first i second j string) = edit.Join row.number string
edit_of (Divide face chain strings parcel label source start end moved) =
    edit.Divide face chain strings parcel label source
edit_of (MergeAlong kept row place chain strings start end moved) =
    edit.Merge kept (Parcel row.number)
edit_of (MergeIsland kept row place points strings moved) = edit.Merge kept (Parcel row.number)
edit_of (Move p from to) = edit.Move p to.x to.y
edit_of (Attach i source) = edit.Attach i source
edit_of (Detach i source place) = edit.Detach i source
edit_of (Rename p from to) = edit.Rename p to
edit_of (Enclose face points strings parcel label source moved) =
    edit.Enclose face points strings parcel label source

-- The point's row and its two strings were there, each string at its place when those before it
-- are out.
pub record HeldJoined (b : Map) (row : PointRow) (place : ℕ) (first : StringRow) (i : ℕ)
    (second : StringRow) (j : ℕ) : Type 0 where
  pub point : slice_get b.points place ≡ Some row
  pub strings : by_number (strings_at b row.number) ≡ first ∷ second ∷ []
  pub first_there : slice_get b.strings i ≡ Some first
  pub second_there : slice_get (without_row (λ r. r.number) first.number b.strings) j ≡ Some second

-- the chain was the one that the two faces share, and was held with its strings and what follows it
pub record HeldMergedAlong (b : Map) (kept : Face) (row : ParcelRow) (place : ℕ) (chain : List ℕ)
    (strings : List ChainString) (start end : Half) (moved : List Half) : Type 0 where
  pub shared : IsSharedAlong b kept (Parcel row.number) chain
  pub gone : HeldMerged b kept row place strings chain
  pub held : HeldChain b (Parcel row.number) chain start end moved

-- the ring was the one that the two faces share, and was held with its strings
pub record HeldMergedIsland (b : Map) (kept : Face) (row : ParcelRow) (place : ℕ) (points : List ℕ)
    (strings : List ChainString) (moved : List Half) : Type 0 where
  pub shared : IsSharedAround b kept (Parcel row.number) points
  pub gone : HeldMerged b kept row place strings (closed points)
  pub held : HeldIsland b (Parcel row.number) points moved

-- what the record says of the map before was so, and of the map after where something came
abbrev pub Holds : SmallRecord → Map → Type 0
Holds (AddSource row) b = ⊤
Holds (AddPoint p at) b = ⊤
Holds (DropPoint row place) b = slice_get b.points place ≡ Some row
Holds (Split row place p at first second) b = slice_get b.strings place ≡ Some row
Holds (Join row place first i second j string) b = HeldJoined b row place first i second j
Holds (Divide face chain strings parcel label source start end moved) b =
    HeldChain (after b (edit.Divide face chain strings parcel label source)) (Parcel parcel) chain
    start end moved.items
Holds (MergeAlong kept row place chain strings start end moved) b =
    HeldMergedAlong b kept row place chain strings.items start end moved.items
Holds (MergeIsland kept row place points strings moved) b =
    HeldMergedIsland b kept row place points strings.items moved.items
Holds (Move p from to) b = option_map (λ r. r.position) (point_of b p) ≡ Some from
Holds (Attach i source) b = ⊤
Holds (Detach i source place) b = slice_get (sources_at b i) place ≡ Some source
Holds (Rename p from to) b = option_map (λ r. r.label) (parcel_of b p) ≡ Some from
Holds (Enclose face points strings parcel label source moved) b =
    HeldIsland (after b (edit.Enclose face points strings parcel label source)) (Parcel parcel)
    points moved.items

-- the record is of its edit as it is made of a valid map, whether or not it breaks a rule
pub record IsMadeOf (r : SmallRecord) (before : Map) : Type 0 where
  pub valid : IsValid before
  pub allowed : first_refusal before (edit_of r) ≡ None
  pub holds : Holds r before

-- the record leads from the one map to the other and back, on whichever store
pub record Belongs (r : SmallRecord) (before after : Map) : Type 0 where
  pub valid : IsValid before
  pub leads : LeadsTo before (edit_of r) after
  pub holds : Holds r before

-- a point that came, or lies elsewhere: what has to be looked at, and is taken back without memory
abbrev pub IsPlaced : SmallRecord → Type 0
IsPlaced (AddPoint p at) = ⊤
IsPlaced (Move p from to) = ⊤
IsPlaced _ = ⊥

-- ---- Weight

-- a point, a string, a parcel or a source, by its number
abbrev pub number_weight : ℕ → ℕ
number_weight n = 1

abbrev pub place_weight : ℕ → ℕ
place_weight place = 1

-- a position counts with its point
abbrev pub position_weight : Position → ℕ
position_weight at = 0

-- a text counts with its row
abbrev pub text_weight : List ℕ → ℕ
text_weight text = 0

-- each number of a list
abbrev pub numbers_weight : List ℕ → ℕ
numbers_weight numbers = length numbers

-- each source of a list
abbrev pub sources_weight : List ℕ → ℕ
sources_weight sources = length sources

-- a face counts as a parcel
abbrev pub face_weight : Face → ℕ
face_weight f = 1

-- a half counts with its string
abbrev pub half_weight : Half → ℕ
half_weight h = number_weight h.string

-- each ring, which one half names
abbrev pub rings_weight : List Half → ℕ
rings_weight halves = length halves

abbrev pub item_weight : Item → ℕ
item_weight (item.Point n) = number_weight n
item_weight (item.String n) = number_weight n
item_weight (item.Parcel n) = number_weight n

abbrev pub source_weight : SourceRow → ℕ
source_weight r = number_weight r.number + text_weight r.text

abbrev pub point_weight : PointRow → ℕ
point_weight r = number_weight r.number + position_weight r.position + sources_weight r.sources

abbrev pub parcel_weight : ParcelRow → ℕ
parcel_weight r = number_weight r.number + text_weight r.label + sources_weight r.sources

abbrev pub string_weight : StringRow → ℕ
string_weight r =
    number_weight r.number + number_weight r.from + number_weight r.to + sources_weight r.sources

abbrev pub chain_string_weight : ChainString → ℕ
chain_string_weight s = half_weight s.half + place_weight s.place + sources_weight s.sources

abbrev pub chain_weight : List ChainString → ℕ
chain_weight strings = sum_by chain_string_weight strings

-- one more than the points, strings, parcels, sources, rings and places in all its fields
abbrev pub weight : SmallRecord → ℕ
weight (AddSource row) = 1 + source_weight row
weight (AddPoint p at) = 1 + number_weight p + position_weight at
weight (DropPoint row place) = 1 + point_weight row + place_weight place
weight (Split row place p at first second) =
    1 + string_weight row + place_weight place + number_weight p + position_weight at
    + number_weight first + number_weight second
weight (Join row place first i second j string) =
    1 + point_weight row + place_weight place + string_weight first + place_weight i
    + string_weight second + place_weight j + number_weight string
weight (Divide face chain strings parcel label source start end moved) =
    1 + face_weight face + numbers_weight chain + numbers_weight strings + number_weight parcel
    + text_weight label + number_weight source + half_weight start + half_weight end
    + rings_weight moved.items
weight (MergeAlong kept row place chain strings start end moved) =
    1 + face_weight kept + parcel_weight row + place_weight place + numbers_weight chain
    + chain_weight strings.items + half_weight start + half_weight end + rings_weight moved.items
weight (MergeIsland kept row place points strings moved) =
    1 + face_weight kept + parcel_weight row + place_weight place + numbers_weight points
    + chain_weight strings.items + rings_weight moved.items
weight (Move p from to) = 1 + number_weight p + position_weight from + position_weight to
weight (Attach i source) = 1 + item_weight i + number_weight source
weight (Detach i source place) =
    1 + item_weight i + number_weight source + place_weight place
weight (Rename p from to) = 1 + number_weight p + text_weight from + text_weight to
weight (Enclose face points strings parcel label source moved) =
    1 + face_weight face + numbers_weight points + numbers_weight strings + number_weight parcel
    + text_weight label + number_weight source + rings_weight moved.items
