-- Why an edit of a valid map is refused before anything is tried: rows in their one order, of which the first that applies is told.
use Rattle.std.specs.Prelude.{ℕ, ◌+◌, ◌-◌, Bool, true, false, ◌&&◌, ◌||◌, not, ◌==◌, nat_lt, nat_le, List, [], ◌∷◌, ◌++◌, length, map, find, Option, Some, None, option_map, unwrap_or}
use Rattle.std.specs.List.{list_any}
use Rattle.std.specs.Str.{bytes_eq as is_same_text}
use Rattle.geo_exact.specs.Position.{in_range}
use Rattle.cad_rows.specs.Limits.{row_limit, string_limit, source_limit}
use Rattle.cad_rows.specs.declared.names.Face.{Face}
use Rattle.cad_rows.specs.declared.names.Face.TheVariants.{Outside, Parcel}
use Rattle.cad_rows.specs.declared.names.Item.{Item}
use Rattle.cad_rows.specs.declared.names.Item.TheVariants as item
use Rattle.cad_rows.specs.declared.names.Name.{Name}
use Rattle.cad_rows.specs.declared.names.Name.TheVariants as name
use Rattle.cad_rows.specs.declared.edits.Edit.{Edit}
use Rattle.cad_rows.specs.declared.edits.Edit.TheVariants.{AddSource, AddPoint, DropPoint, Split, Join, Divide, Merge, Move, Attach, Detach, Rename, Enclose}
use Rattle.cad_rows.specs.declared.refusals.Refusal.{Refusal}
use Rattle.cad_rows.specs.declared.refusals.Refusal.TheVariants as told
use Rattle.cad_map.specs.Map.{Map, has_point, has_source, has_parcel, has_string, point_of, parcel_of, string_of, position_of, strings_at, degree, is_free, is_retired, rings_of}
use Rattle.cad_map.specs.Valid.{is_same_position}
use Rattle.cad_rings.specs.Cycle.{Corner, has_side, sides_of}
use Rattle.cad_map.specs.Boundaries.{is_face}
use Rattle.cad_map.specs.Chain.{start_of, next_of, end_of, last_but_one, inner_of, are_distinct, chosen_corner, leaving}
use Rattle.cad_map.specs.Merger.{shared_sides, shared_chains}
use Rattle.cad_map.specs.Changes.{by_number, joined_sources}

-- the refusal, where the test passes
abbrev pub when : Bool → Refusal → Option Refusal
when true r = Some r
when false r = None

-- the first refusal of several rows
abbrev pub first_of : List (Option Refusal) → Option Refusal
first_of [] = None
first_of (None ∷ rest) = first_of rest
first_of (Some r ∷ rest) = Some r

-- ---- 1, a coordinate is out of range
abbrev pub range : Edit → Option Refusal
range (AddPoint p x y) = when (not (in_range x && in_range y)) told.Range
range (Split s p x y first second) = when (not (in_range x && in_range y)) told.Range
range (Move p x y) = when (not (in_range x && in_range y)) told.Range
range _ = None

-- ---- 2 and 3, what an edit names, and what it gives a number to
abbrev pub item_named : Item → Name
item_named (item.Point n) = name.Point n
item_named (item.String n) = name.String n
item_named (item.Parcel n) = name.Parcel n

-- the outside has no name
abbrev pub face_named : Face → List Name
face_named Outside = []
face_named (Parcel n) = name.Parcel n ∷ []

abbrev pub points_named : List ℕ → List Name
points_named points = map (λ p. name.Point p) points

abbrev pub strings_named : List ℕ → List Name
strings_named strings = map (λ s. name.String s) strings

abbrev pub named : Edit → List Name
named (AddSource s text) = []
named (AddPoint p x y) = []
named (DropPoint p) = name.Point p ∷ []
named (Split s p x y first second) = name.String s ∷ []
named (Join p s) = name.Point p ∷ []
named (Divide face chain strings parcel label source) = face_named face ++ points_named chain ++ name.Source source ∷ []
named (Merge kept ended) = face_named kept ++ face_named ended
named (Move p x y) = name.Point p ∷ []
named (Attach i source) = item_named i ∷ name.Source source ∷ []
named (Detach i source) = item_named i ∷ name.Source source ∷ []
named (Rename p label) = name.Parcel p ∷ []
named (Enclose face points strings parcel label source) = face_named face ++ points_named points ++ name.Source source ∷ []

abbrev pub given : Edit → List Name
given (AddSource s text) = name.Source s ∷ []
given (AddPoint p x y) = name.Point p ∷ []
given (Split s p x y first second) = name.Point p ∷ name.String first ∷ name.String second ∷ []
given (Join p s) = name.String s ∷ []
given (Divide face chain strings parcel label source) = strings_named strings ++ name.Parcel parcel ∷ []
given (Enclose face points strings parcel label source) = strings_named strings ++ name.Parcel parcel ∷ []
given _ = []

abbrev pub is_there : Map → Name → Bool
is_there m (name.Point n) = has_point m n
is_there m (name.String n) = has_string m n
is_there m (name.Parcel n) = has_parcel m n
is_there m (name.Source n) = has_source m n

abbrev pub unknown : Map → Edit → Option Refusal
unknown m e = option_map (λ n. told.Unknown n) (find (λ n. not (is_there m n)) (named e))

abbrev pub taken : Map → Edit → Option Refusal
taken m e = option_map (λ n. told.Taken n) (find (is_there m) (given e))

-- ---- 4, the new parcel's number is retired
abbrev pub retired : Map → Edit → Option Refusal
retired m (Divide face chain strings parcel label source) = when (is_retired m parcel) (told.Retired parcel)
retired m (Enclose face points strings parcel label source) = when (is_retired m parcel) (told.Retired parcel)
retired m _ = None

-- ---- 5, a merger names the outside
abbrev pub outside : Edit → Option Refusal
outside (Merge kept ended) = when (is_face Outside kept || is_face Outside ended) told.Outside
outside _ = None

-- ---- 6, the same position or the same label
abbrev pub has_label : Map → ℕ → List ℕ → Bool
has_label m p label = unwrap_or (option_map (λ row. is_same_text row.label label) (parcel_of m p)) false

abbrev pub no_change : Map → Edit → Option Refusal
no_change m (Move p x y) = when (is_same_position (position_of m p) (record { x = x; y = y })) told.NoChange
no_change m (Rename p label) = when (has_label m p label) told.NoChange
no_change m _ = None

-- ---- 7, the first point that should be on no string and is on one
abbrev pub first_not_free : Map → List ℕ → Option Refusal
first_not_free m points = option_map (λ p. told.NotFree p) (find (λ p. not (is_free m p)) points)

abbrev pub not_free : Map → Edit → Option Refusal
not_free m (DropPoint p) = first_not_free m (p ∷ [])
not_free m (Divide face chain strings parcel label source) = first_not_free m (inner_of chain)
not_free m (Enclose face points strings parcel label source) = first_not_free m points
not_free m _ = None

-- ---- 8, a point that should be on two strings and is not
abbrev pub not_degree_two : Map → Edit → Option Refusal
not_degree_two m (Join p s) = when (not (degree m p == 2)) (told.NotDegreeTwo p)
not_degree_two m _ = None

-- ---- 9, a number that stands twice, or lists that don't fit

-- the points, as many as are wanted at least, and so many strings for them; no number stands twice
abbrev pub is_bad_chain : List ℕ → ℕ → List ℕ → ℕ → Bool
is_bad_chain points least strings wanted = nat_lt (length points) least || not (length strings == wanted) || not (are_distinct points) || not (are_distinct strings)

abbrev pub bad_chain : Edit → Option Refusal
bad_chain (Split s p x y first second) = when (first == second) told.BadChain
bad_chain (Divide face chain strings parcel label source) = when (is_bad_chain chain 2 strings (length chain - 1)) told.BadChain
bad_chain (Enclose face points strings parcel label source) = when (is_bad_chain points 3 strings (length points)) told.BadChain
bad_chain _ = None

-- ---- 10, the chain does not leave its first point, or does not reach its last, inside the face
abbrev pub corner_missing : Option Corner → ℕ → Option Refusal
corner_missing None p = Some (told.NotInParcel p)
corner_missing (Some c) p = None

abbrev pub not_in_parcel : Map → Edit → Option Refusal
not_in_parcel m (Divide face chain strings parcel label source) =
    first_of (corner_missing (chosen_corner m face (start_of chain) (next_of chain)) (start_of chain)
    ∷ corner_missing (chosen_corner m face (end_of chain) (last_but_one chain)) (end_of chain) ∷ [])
not_in_parcel m _ = None

-- ---- 11, the two corners lie in different rings
abbrev pub have_one_ring : Map → Face → Option Corner → Option Corner → Bool
have_one_ring m face (Some a) (Some b) = list_any (λ r. has_side (leaving a) (sides_of r) && has_side (leaving b) (sides_of r)) (rings_of m face)
have_one_ring m face _ _ = false

abbrev pub chain_joins_rings : Map → Edit → Option Refusal
chain_joins_rings m (Divide face chain strings parcel label source) =
    when (not (have_one_ring m face (chosen_corner m face (start_of chain) (next_of chain)) (chosen_corner m face (end_of chain) (last_but_one chain)))) told.ChainJoinsRings
chain_joins_rings m _ = None

-- ---- 12 to 14, what the two parcels of a merger have in common
abbrev pub same_parcel : Edit → Option Refusal
same_parcel (Merge kept ended) = when (is_face kept ended) told.SameParcel
same_parcel _ = None

abbrev pub not_neighbours : Map → Edit → Option Refusal
not_neighbours m (Merge kept ended) = when (length (shared_sides m kept ended) == 0) told.NotNeighbours
not_neighbours m _ = None

abbrev pub not_one_chain : Map → Edit → Option Refusal
not_one_chain m (Merge kept ended) = when (length (shared_chains m kept ended) == 0) told.NotOneChain
not_one_chain m _ = None

-- ---- 15 and 16, whether the item has the source
abbrev pub sources_at : Map → Item → List ℕ
sources_at m (item.Point n) = unwrap_or (option_map (λ r. r.sources) (point_of m n)) []
sources_at m (item.String n) = unwrap_or (option_map (λ r. r.sources) (string_of m n)) []
sources_at m (item.Parcel n) = unwrap_or (option_map (λ r. r.sources) (parcel_of m n)) []

abbrev pub is_attached : Map → Item → ℕ → Bool
is_attached m i source = list_any (λ s. s == source) (sources_at m i)

abbrev pub already_attached : Map → Edit → Option Refusal
already_attached m (Attach i source) = when (is_attached m i source) told.AlreadyAttached
already_attached m _ = None

abbrev pub not_attached : Map → Edit → Option Refusal
not_attached m (Detach i source) = when (not (is_attached m i source)) told.NotAttached
not_attached m _ = None

-- ---- 17, a limit would be passed
abbrev pub is_full : Map → Edit → Bool
is_full m (AddSource s text) = nat_le row_limit (length m.sources)
is_full m (AddPoint p x y) = nat_le row_limit (length m.points)
is_full m (Split s p x y first second) = nat_le row_limit (length m.points) || nat_le string_limit (length m.strings)
is_full m (Join p s) = nat_lt source_limit (length (joined_sources (by_number (strings_at m p))))
is_full m (Divide face chain strings parcel label source) = nat_lt string_limit (length m.strings + length strings) || nat_le row_limit (length m.parcels)
is_full m (Merge kept ended) = nat_le row_limit (length m.retired)
is_full m (Enclose face points strings parcel label source) = nat_lt string_limit (length m.strings + length strings) || nat_le row_limit (length m.parcels)
is_full m (Attach i source) = nat_le source_limit (length (sources_at m i))
is_full m _ = false

abbrev pub full : Map → Edit → Option Refusal
full m e = when (is_full m e) told.Full

-- ---- the rows in their order
unfoldable pub first_refusal : Map → Edit → Option Refusal
first_refusal m e = first_of
    (range e ∷ unknown m e ∷ taken m e ∷ retired m e ∷ outside e ∷ no_change m e ∷ not_free m e ∷ not_degree_two m e ∷ bad_chain e
    ∷ not_in_parcel m e ∷ chain_joins_rings m e ∷ same_parcel e ∷ not_neighbours m e ∷ not_one_chain m e ∷ already_attached m e ∷ not_attached m e
    ∷ full m e ∷ [])
