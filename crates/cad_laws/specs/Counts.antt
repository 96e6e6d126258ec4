-- How many rows each edit brings and takes, the sources of those that it takes, and how much it
-- changes of the rings.
use Rattle.std.specs.Prelude.{ℕ, ◌+◌, ◌-◌, Bool, List, length, filter, sum_by}
use Rattle.cad_rows.specs.declared.edits.Edit.{Edit}
use Rattle.cad_rows.specs.declared.edits.Edit.TheVariants.{AddSource, AddPoint, DropPoint, Split, Join, Divide, Merge, Enclose}
use Rattle.cad_rows.specs.declared.names.Face.{Face}
use Rattle.cad_rows.specs.declared.names.Face.TheVariants.{Parcel}
use Rattle.cad_rows.specs.declared.names.Item.TheVariants as item
use Rattle.cad_rows.specs.declared.rows.StringRow.{StringRow}
use Rattle.cad_map.specs.declared.boundary.Boundary.{Boundary}
use Rattle.cad_map.specs.Boundaries.{is_face}
use Rattle.cad_map.specs.Effects.{after}
use Rattle.cad_map.specs.Map.{Map, strings_at, rings_of}
use Rattle.cad_map.specs.Merger.{is_shared}
use Rattle.cad_map.specs.Refusals.{sources_at}
use Rattle.cad_laws.specs.Touching.{passes}

-- the strings that a merger takes out
abbrev pub shared_strings : Map → Face → Face → List StringRow
shared_strings m kept ended = filter (is_shared m kept ended) m.strings

-- the sources of these strings, each as often as it is attached
abbrev pub sources_of_strings : List StringRow → ℕ
sources_of_strings strings = sum_by (λ s. length s.sources) strings

-- The rows that an edit brings and those that it takes. A row that is changed in its place is
-- neither.
abbrev pub rows_by : Map → Edit → ℕ
rows_by m (AddSource s text) = 1
rows_by m (AddPoint p x y) = 1
rows_by m (DropPoint p) = 1
-- a string for two, and a point
rows_by m (Split s p x y first second) = 4
rows_by m (Join p new) = 4
-- the strings and the parcel
rows_by m (Divide face chain strings parcel label source) = length strings + 1
rows_by m (Enclose face points strings parcel label source) = length strings + 1
rows_by m (Merge kept ended) = length (shared_strings m kept ended) + 1
rows_by m _ = 0

-- the sources attached to the rows that an edit takes
abbrev pub sources_by : Map → Edit → ℕ
sources_by m (DropPoint p) = length (sources_at m (item.Point p))
sources_by m (Split s p x y first second) = length (sources_at m (item.String s))
sources_by m (Join p new) =
    length (sources_at m (item.Point p)) + sources_of_strings (strings_at m p)
sources_by m (Merge kept (Parcel n)) =
    sources_of_strings (shared_strings m kept (Parcel n)) + length (sources_at m (item.Parcel n))
sources_by m _ = 0

-- ---- Rings

-- the sides of the rings of the boundaries that pass the test
abbrev pub sides_where : (Boundary → Bool) → Map → ℕ
sides_where test m = sum_by (λ b. length b.ring) (filter test m.boundaries)

-- the sides of the rings of a face
abbrev pub sides_of_face : Face → Map → ℕ
sides_of_face f m = sides_where (λ b. is_face f b.face) m

-- the sides of the rings that pass a point
abbrev pub sides_through : ℕ → Map → ℕ
sides_through p m = sides_where (λ b. passes p b.ring) m

-- The sides of rings that an edit changes or hands over, at least: of rings through the point that
-- comes or goes, or of rings of the face that comes or goes.
abbrev pub sides_by : Map → Edit → ℕ
sides_by m (Split s p x y first second) = sides_through p (after m (Split s p x y first second))
sides_by m (Join p new) = sides_through p m
sides_by m (Divide face chain strings parcel label source) =
    sides_of_face (Parcel parcel) (after m (Divide face chain strings parcel label source))
sides_by m (Enclose face points strings parcel label source) =
    sides_of_face (Parcel parcel) (after m (Enclose face points strings parcel label source))
sides_by m (Merge kept ended) = sides_of_face ended m
sides_by m _ = 0

-- The rings that pass to another face, at least: of the new parcel's or the ended parcel's rings
-- each but one.
abbrev pub rings_by : Map → Edit → ℕ
rings_by m (Divide face chain strings parcel label source) =
    length (rings_of (after m (Divide face chain strings parcel label source)) (Parcel parcel)) - 1
rings_by m (Enclose face points strings parcel label source) =
    length (rings_of (after m (Enclose face points strings parcel label source)) (Parcel parcel))
    - 1
rings_by m (Merge kept ended) = length (rings_of m ended) - 1
rings_by m _ = 0
