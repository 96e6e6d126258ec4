-- The shape of a parcel.
use Rattle.std.specs.Prelude.{◌≡◌, ℕ, List, Option, Some, None, IsTrue}
use Rattle.cad_rows.specs.declared.names.Face.TheVariants.{Parcel}
use Rattle.cad_rings.specs.Cycle.{Ring}
use Rattle.cad_map.specs.Map.{Map, has_parcel, parcel_of, rings_of}
use Rattle.cad_views.specs.Cut.{AreCutFrom}
use Rattle.cad_views.specs.WellKnown.{polygon_geometry}

-- a parcel of the map has one polygon of rings that its own are cut into, and a number of no parcel has none
abbrev pub IsShape : Map → ℕ → Option (List ℕ) → Type 0
IsShape m number (Some text) =
    IsTrue (has_parcel m number) × (pieces : List Ring) × AreCutFrom (rings_of m (Parcel number)) pieces × (text ≡ polygon_geometry m pieces)
IsShape m number None = parcel_of m number ≡ None
