-- What differs between two maps: for each name of which they don't have the same, what was and what is.
use Rattle.std.specs.Prelude.{◌≡◌, ◌≢◌, ℕ, ◌==◌, Bool, true, false, not, ◌&&◌, List, [], ◌∷◌, ◌++◌, length, map, filter, codes, decimal, Option, Some, None, option_map, is_some, unwrap_or, if◌then◌else◌}
use Rattle.std.specs.List.{Contains, join_with_byte}
use Rattle.std.specs.Str.{bytes_eq as is_same_text}
use Rattle.geo_exact.specs.Measure.{doubled_area}
use Rattle.geo_exact.specs.Position.{Position}
use Rattle.cad_rows.specs.declared.names.Face.TheVariants as face
use Rattle.cad_rows.specs.declared.names.Name.{Name}
use Rattle.cad_rows.specs.declared.names.Name.TheVariants as name
use Rattle.cad_rows.specs.declared.rows.PointRow.{PointRow}
use Rattle.cad_rows.specs.declared.rows.ParcelRow.{ParcelRow}
use Rattle.cad_rows.specs.declared.rows.StringRow.{StringRow}
use Rattle.cad_map.specs.Valid.{EachPair}
use Rattle.cad_map.specs.Map.{Map, source_of, point_of, parcel_of, string_of, has_parcel, is_retired, sum_of_face}
use Rattle.cad_files.specs.Answers.{kind_of, number_named}
use Rattle.cad_files.specs.Reports.{hundredths_of, area_field}
use Rattle.cad_files.specs.Texts.{Record, list_field}
use Rattle.cad_views.specs.Land.{apart_from, is_same_land, turns_of}
use Rattle.cad_views.specs.WellKnown.{coordinates}
use Rattle.cad_views.specs.declared.names.Kind.{Kind}
use Rattle.cad_views.specs.declared.names.Kind.TheVariants.{Sources, Points, Parcels, Retired, Strings}

-- ---- What a map tells of a name, but for the land of a parcel

-- sources, where there are any, after what they witness
abbrev pub by_sources : List ℕ → List ℕ
by_sources sources = if length sources == 0 then [] else codes " by " ++ list_field sources

-- a point: its position in metres, and its sources
unfoldable pub point_words : PointRow → List ℕ
point_words r = coordinates r.position ++ by_sources r.sources

-- a string: its first and its last point, and its sources
unfoldable pub string_words : StringRow → List ℕ
string_words r = decimal r.from ++ (codes " " ++ (decimal r.to ++ by_sources r.sources))

-- a parcel: its sources and its label
unfoldable pub parcel_words : ParcelRow → List ℕ
parcel_words r = by_sources r.sources ++ (codes ": " ++ r.label)

-- a parcel that a merger ended
abbrev pub retired_words : List ℕ
retired_words = codes "retired"

-- nothing where the map hasn't the name
abbrev pub words_of : Map → Name → Option (List ℕ)
words_of m (name.Source n) = option_map (λ r. r.text) (source_of m n)
words_of m (name.Point n) = option_map point_words (point_of m n)
words_of m (name.String n) = option_map string_words (string_of m n)
words_of m (name.Parcel n) =
    if is_some (parcel_of m n) then option_map parcel_words (parcel_of m n)
    else (if is_retired m n then Some retired_words else None)

-- ---- The land of a parcel

-- places, after the word that leads to them, if there are any
abbrev pub at_places : List Position → List ℕ
at_places places =
    if length places == 0 then []
    else codes " at" ++ join_with_byte 44 (map (λ a. codes " " ++ coordinates a) places)

-- where the parcel turns in this map, and not in the other one, if that has it too
abbrev pub turns_elsewhere : Map → Map → ℕ → List Position
turns_elsewhere m other n =
    if has_parcel other n
    then apart_from (turns_of other (face.Parcel n)) (turns_of m (face.Parcel n)) else []

-- a parcel: its area in square metres, and where it turns as it doesn't in the other map
unfoldable pub land_words : Map → Map → ℕ → List ℕ
land_words m other n =
    area_field (hundredths_of (sum_of_face doubled_area m (face.Parcel n)))
    ++ (codes " m2" ++ at_places (turns_elsewhere m other n))

-- what a map tells of a name beside another map; nothing where it hasn't the name
abbrev pub told_of : Map → Map → Name → List ℕ
told_of m other (name.Parcel n) =
    (if has_parcel m n then land_words m other n else []) ++ unwrap_or (words_of m (name.Parcel n)) []
told_of m other n = unwrap_or (words_of m n) []

-- ---- Names

-- the names of a map's rows of one kind, or of its retired parcels, in order of entry
abbrev pub names_of_kind : Map → Kind → List Name
names_of_kind m Sources = map (λ r. name.Source r.number) m.sources
names_of_kind m Points = map (λ r. name.Point r.number) m.points
names_of_kind m Parcels = map (λ r. name.Parcel r.number) m.parcels
names_of_kind m Retired = map (λ n. name.Parcel n) m.retired
names_of_kind m Strings = map (λ r. name.String r.number) m.strings

-- kind by kind
abbrev pub names_in : Map → List Name
names_in m =
    names_of_kind m Sources ++ (names_of_kind m Points ++ (names_of_kind m Parcels
    ++ (names_of_kind m Retired ++ names_of_kind m Strings)))

-- ---- What differs

-- two texts, or none twice
abbrev pub are_words_alike : Option (List ℕ) → Option (List ℕ) → Bool
are_words_alike None None = true
are_words_alike (Some s) (Some t) = is_same_text s t
are_words_alike _ _ = false

-- a parcel that both maps have has the same land in both
abbrev pub is_land_alike : Map → Map → Name → Bool
is_land_alike old new (name.Parcel n) =
    if has_parcel old n && has_parcel new n then is_same_land old new (face.Parcel n) else true
is_land_alike old new n = true

-- the two maps have the same of a name, or neither has it
abbrev pub is_alike : Map → Map → Name → Bool
is_alike old new n = are_words_alike (words_of old n) (words_of new n) && is_land_alike old new n

-- they don't, or, where it is asked what came, the old map doesn't have the name
abbrev pub is_listed : Map → Map → Bool → Name → Bool
is_listed old new false n = not (is_alike old new n)
is_listed old new true n = not (is_some (words_of old n))

-- the names of which the maps don't have the same: those of the old map in its order, and then those that the new map alone has
abbrev pub differing : Map → Map → List Name
differing old new =
    filter (is_listed old new false) (names_in old) ++ filter (is_listed old new true) (names_in new)

-- each of these names stands there once, and they are the names of which the maps don't have the same
pub record HasOneEach (old new : Map) (names : List Name) : Type 0 where
  pub once : EachPair (λ a b. a ≢ b) names
  pub all : (n : Name) → is_alike old new n ≡ false → Contains names n
  pub only : (n : Name) → Contains names n → is_alike old new n ≡ false

-- ---- Records

abbrev pub difference_header : Record
difference_header = codes "kind" ∷ codes "number" ∷ codes "was" ∷ codes "is" ∷ []

-- a name, what was told of it and what is told; nothing where the map hadn't it or hasn't it
abbrev pub difference_record : Map → Map → Name → Record
difference_record old new n =
    kind_of n ∷ decimal (number_named n) ∷ told_of old new n ∷ told_of new old n ∷ []

abbrev pub differences : Map → Map → List Record
differences old new = difference_header ∷ map (difference_record old new) (differing old new)
