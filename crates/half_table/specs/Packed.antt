-- How a row keeps the face to the left of a half-edge.
use Rattle.std.specs.Prelude.{◌≡◌, ℕ, zero, suc, refl}
use Rattle.cad_rows.specs.declared.names.Face.{Face}
use Rattle.cad_rows.specs.declared.names.Face.TheVariants.{Outside, Parcel}

-- the number of a face: that of its parcel, or 0 for the outside
abbrev pub number_of_face : Face → ℕ
number_of_face Outside = 0
number_of_face (Parcel n) = n

-- the face with this number
abbrev pub face_numbered : ℕ → Face
face_numbered zero = Outside
face_numbered (suc n) = Parcel (suc n)

-- the face with a number has that number
pub number_of_face-numbered : (n : ℕ) → number_of_face (face_numbered n) ≡ n
number_of_face-numbered zero = refl
number_of_face-numbered (suc n) = refl
