-- What the records of a plan mean, each by itself.
use Rattle.std.specs.Prelude.{codes, Option, Some, None, option_map, option_and_then, if◌then◌else◌}
use Rattle.std.specs.Str.{bytes_eq}
use Rattle.cad_files.specs.Record.{Seven}
use Rattle.cad_files.specs.Fields.{number_of, face_of, coordinate_of, text_of, distinct_of, is_record, number_and_text_of}
use Rattle.cad_files.specs.declared.plan_records.Version.{Version}
use Rattle.cad_files.specs.declared.plan_records.Version.TheVariants.{One, Two}
use Rattle.cad_files.specs.declared.plan_records.PlanRecord.{PlanRecord}
use Rattle.cad_files.specs.declared.plan_records.PlanRecord.TheVariants as records

-- the version of a plan that begins with this record
unfoldable pub version_of : Seven → Option Version
version_of r =
    if is_record r (codes "plan") 1 then
    (if bytes_eq r.a (codes "1") then Some One else if bytes_eq r.a (codes "2") then Some Two
    else None)
    else None

-- a source: its number, and its text
unfoldable pub source_of_fields : Seven → Option PlanRecord
source_of_fields r =
    option_map (λ s. records.Source (record { number = s.0; text = s.1 })) (number_and_text_of r)

-- a point: its number, its position, and its sources
unfoldable pub point_of_fields : Seven → Option PlanRecord
point_of_fields r =
    option_and_then (λ n. option_and_then
    (λ x. option_and_then
    (λ y. option_map (λ sources. records.Point
    (record { number = n; x = x; y = y; sources = sources })) (distinct_of r.d))
    (coordinate_of r.c)) (coordinate_of r.b)) (number_of r.a)

-- a parcel: its number, its label, and its sources
unfoldable pub parcel_of_fields : Seven → Option PlanRecord
parcel_of_fields r =
    option_and_then (λ n. option_and_then
    (λ label. option_map (λ sources. records.Parcel
    (record { number = n; label = label; sources = sources })) (distinct_of r.c)) (text_of r.b))
    (number_of r.a)

-- a string: its number, the points that it runs from and to, the faces to its left and right, and its sources
unfoldable pub string_of_fields : Seven → Option PlanRecord
string_of_fields r =
    option_and_then (λ n. option_and_then
    (λ from. option_and_then
    (λ to. option_and_then (λ left. option_and_then (λ right. option_map (λ sources.
    records.String (record { number = n; from = from; to = to; left = left; right = right; sources = sources }))
    (distinct_of r.f)) (face_of r.e)) (face_of r.d)) (number_of r.c)) (number_of r.b))
    (number_of r.a)

-- a record after the first
unfoldable pub plan_of_fields : Seven → Option PlanRecord
plan_of_fields r =
    if is_record r (codes "source") 2 then source_of_fields r
    else if is_record r (codes "point") 4 then point_of_fields r
    else if is_record r (codes "parcel") 3 then parcel_of_fields r
    else if is_record r (codes "string") 6 then string_of_fields r
    else if is_record r (codes "retired") 1 then option_map (λ n. records.Retired n) (number_of r.a)
    else if is_record r (codes "open") 0 then Some records.Open
    else None
