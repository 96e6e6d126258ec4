-- A square with sides of a metre, and the same with an island parcel.
use Rattle.std.proofs.Common.{ℕ, List, [], ◌∷◌, ℤ, pos}
use Rattle.cad_rows.specs.declared.rows.PointRow.{PointRow}
use Rattle.cad_rows.specs.declared.rows.StringRow.{StringRow}
use Rattle.cad_rows.specs.declared.rows.ParcelRow.{ParcelRow}
use Rattle.cad_rows.specs.declared.names.Face.TheVariants.{Outside, Parcel}
use Rattle.cad_map.specs.Boundaries.{bounding}
use Rattle.cad_map.specs.Map.{Map}
use Rattle.cad_map.specs.Changes.{change_point}

abbrev pub point : ℕ → ℤ → ℤ → PointRow
point n x y = record { number = n; position = record { x = x; y = y }; sources = [] }

abbrev pub string : ℕ → ℕ → ℕ → StringRow
string n a b = record { number = n; from = a; to = b; sources = [] }

abbrev pub parcel : ℕ → List ℕ → ParcelRow
parcel n l = record { number = n; label = l; sources = [] }

abbrev pub label_a : List ℕ
label_a = 65 ∷ []

abbrev pub label_b : List ℕ
label_b = 66 ∷ []

abbrev pub label_c : List ℕ
label_c = 67 ∷ []

abbrev pub outer_ring : List ℕ
outer_ring = 1 ∷ 2 ∷ 3 ∷ 4 ∷ []

abbrev pub square : Map
square = record {
  sources = record { number = 1; text = label_b } ∷ [];
  points = record { number = 1; position = record { x = pos 0; y = pos 0 }; sources = 1 ∷ [] } ∷ point 2 (pos 1000) (pos 0) ∷ point 3 (pos 1000) (pos 1000) ∷ point 4 (pos 0) (pos 1000) ∷ [];
  parcels = parcel 1 label_a ∷ [];
  strings = string 11 1 2 ∷ string 12 2 3 ∷ string 13 3 4 ∷ string 14 4 1 ∷ [];
  retired = [];
  boundaries = bounding Outside (1 ∷ 4 ∷ 3 ∷ 2 ∷ []) ∷ bounding (Parcel 1) outer_ring ∷ [];
}

abbrev pub island : Map
island = record {
  sources = square.sources;
  points = record { number = 1; position = record { x = pos 0; y = pos 0 }; sources = 1 ∷ [] } ∷ point 2 (pos 1000) (pos 0) ∷ point 3 (pos 1000) (pos 1000) ∷ point 4 (pos 0) (pos 1000)
      ∷ point 6 (pos 700) (pos 300) ∷ point 7 (pos 800) (pos 300) ∷ point 8 (pos 800) (pos 500) ∷ [];
  parcels = parcel 1 label_a ∷ parcel 2 label_b ∷ [];
  strings = string 11 1 2 ∷ string 12 2 3 ∷ string 13 3 4 ∷ string 14 4 1 ∷ string 31 6 7 ∷ string 32 7 8 ∷ string 33 8 6 ∷ [];
  retired = [];
  boundaries = bounding Outside (1 ∷ 4 ∷ 3 ∷ 2 ∷ []) ∷ bounding (Parcel 1) outer_ring ∷ bounding (Parcel 1) (6 ∷ 8 ∷ 7 ∷ []) ∷ bounding (Parcel 2) (6 ∷ 7 ∷ 8 ∷ []) ∷ [];
}

-- the map with these free points more
abbrev pub with_points : List PointRow → Map → Map
with_points rows m = record m { points = append m.points }
  where
    append : List PointRow → List PointRow
    append [] = rows
    append (p ∷ ps) = p ∷ append ps

-- the map with a point moved
abbrev pub moved : ℕ → ℤ → ℤ → Map → Map
moved n x y m = change_point n (λ r. record r { position = record { x = x; y = y } }) m
