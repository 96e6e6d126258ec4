-- What the sums over faces come to when a parcel is made of a part of a face, and when two are merged.
use Rattle.std.specs.Prelude.{◌≡◌, ℕ, List, [], ◌∷◌, map, ℤ, pos, ◌+ℤ◌}
use Rattle.geo_exact.specs.Measure.{Measure}
use Rattle.cad_rows.specs.declared.names.Face.{Face}
use Rattle.cad_rows.specs.declared.names.Face.TheVariants.{Parcel}
use Rattle.cad_map.specs.Map.{Map, faces, sum_of_face}

-- added up
abbrev pub total : List ℤ → ℤ
total [] = pos 0
total (z ∷ zs) = z +ℤ total zs

-- the sums of these faces, added up
abbrev pub sum_of_faces : Measure → Map → List Face → ℤ
sum_of_faces f m fs = total (map (sum_of_face f m) fs)

-- the sums of all faces, the outside included, add up to nothing
abbrev pub IsBalanced : Measure → Map → Type 0
IsBalanced f m = sum_of_faces f m (faces m) ≡ pos 0

-- what is left of the face and the new parcel add up to the face as it was
abbrev pub IsSharedOut : Measure → Map → Face → ℕ → Map → Type 0
IsSharedOut f old face parcel new = sum_of_face f old face ≡ sum_of_face f new face +ℤ sum_of_face f new (Parcel parcel)

-- the kept face has what both had
abbrev pub IsTakenIn : Measure → Map → Face → Face → Map → Type 0
IsTakenIn f old kept ended new = sum_of_face f new kept ≡ sum_of_face f old kept +ℤ sum_of_face f old ended
