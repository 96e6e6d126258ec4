-- The records that tell the areas of a map's parcels, and the outline of a face.
use Rattle.std.specs.Prelude.{ℕ, ◌/◌, ◌%◌, List, [], ◌∷◌, ◌++◌, map, filter, not, codes, decimal, if◌then◌else◌, ℤ, pos, negsuc, ◌+ℤ◌, unsigned_abs}
use Rattle.std.specs.Int.{int_div_euclid}
use Rattle.std.specs.Fmt.{signed_decimal}
use Rattle.geo_exact.specs.Measure.{doubled_area}
use Rattle.cad_rows.specs.declared.names.Name.TheVariants as name
use Rattle.cad_rows.specs.declared.refusals.Refusal.TheVariants as told
use Rattle.cad_rows.specs.declared.names.Face.{Face}
use Rattle.cad_rows.specs.declared.names.Face.TheVariants as face
use Rattle.cad_rows.specs.declared.rows.ParcelRow.{ParcelRow}
use Rattle.cad_rings.specs.Cycle.{Ring}
use Rattle.cad_map.specs.Map.{Map, rings_of, has_parcel, sum_of_face, is_positive}
use Rattle.cad_files.specs.Texts.{Record, list_field, face_field}
use Rattle.cad_files.specs.Answers.{word_record, refusal_record}

-- the record that ends a report
abbrev pub end_record : Record
end_record = word_record (codes "end")

-- ---- Areas

-- hundredths of a square metre in so many half square millimetres, half up
abbrev pub hundredths_of : ℤ → ℤ
hundredths_of a2 = int_div_euclid (a2 +ℤ pos 10000) (pos 20000)

-- a number below 100, in two digits
abbrev pub two_digits : ℕ → List ℕ
two_digits n = decimal (n / 10) ++ decimal (n % 10)

abbrev pub sign_field : ℤ → List ℕ
sign_field (pos n) = []
sign_field (negsuc n) = codes "-"

-- so many hundredths of a square metre, in square metres
unfoldable pub area_field : ℤ → List ℕ
area_field h =
    sign_field h ++ (decimal (unsigned_abs h / 100)
    ++ (codes "." ++ two_digits (unsigned_abs h % 100)))

-- a parcel and its doubled area
abbrev pub area_record : ParcelRow → ℤ → Record
area_record r a2 =
    codes "area" ∷ decimal r.number ∷ r.label ∷ signed_decimal a2 ∷ area_field (hundredths_of a2)
    ∷ [] ∷ [] ∷ []

-- a parcel of a map, and its doubled area there
abbrev pub area_record_in : Map → ParcelRow → Record
area_record_in m r = area_record r (sum_of_face doubled_area m (face.Parcel r.number))

-- each parcel with its area, in order of entry
abbrev pub area_records : Map → List Record
area_records m = map (area_record_in m) m.parcels ++ end_record ∷ []

-- ---- Outlines

-- a ring of a face, in canonical form
abbrev pub ring_record : Face → List ℕ → Ring → Record
ring_record f kind r = codes "ring" ∷ face_field f ∷ kind ∷ list_field r ∷ [] ∷ [] ∷ [] ∷ []

-- how many rings run around a face of a valid map
abbrev pub outlines_of : Face → ℕ
outlines_of face.Outside = 0
outlines_of (face.Parcel n) = 1

-- the rings of a face: that of positive doubled area first, and then the others in order
abbrev pub outline_records : Map → Face → List Record
outline_records m f =
    map (ring_record f (codes "outer")) (filter (is_positive m) (rings_of m f))
    ++ (map (ring_record f (codes "hole")) (filter (λ r. not (is_positive m r)) (rings_of m f))
    ++ end_record ∷ [])

-- the answer to the question for an outline: of an unknown parcel, that it is unknown
abbrev pub outline_answer : Map → Face → List Record
outline_answer m face.Outside = outline_records m face.Outside
outline_answer m (face.Parcel n) =
    if has_parcel m n then outline_records m (face.Parcel n)
    else refusal_record (told.Unknown (name.Parcel n)) ∷ []
