-- What a list of records is as a plan.
use Rattle.std.specs.Prelude.{◌≡◌, ◌≢◌, ◌⊎◌, ◌<◌, ◌≤◌, ℕ, ◌+◌, ◌&&◌, nat_le, Bool, true, false, List, [], ◌∷◌, ◌++◌, length, fold, Option, Some, None, option_map, option_and_then, if◌then◌else◌, ℤ, pos, neg_ℤ, int_le, Result, OnOk, IfErr}
use Rattle.geo_exact.specs.Position.{coordinate_limit}
use Rattle.cad_rows.specs.Limits.{source_limit}
use Rattle.cad_files.specs.Record.{seven_of}
use Rattle.cad_files.specs.PlanRecords.{version_of, plan_of_fields}
use Rattle.cad_files.specs.Input.{BeginsWith, IsWhole, AreTaken}
use Rattle.cad_files.specs.Rows.{Rows, no_rows, plan_limit, HasOneMore, has_room, with_row, sources_of}
use Rattle.cad_files.specs.declared.plan_records.Version.{Version}
use Rattle.cad_files.specs.declared.plan_records.Version.TheVariants.{One, Two}
use Rattle.cad_files.specs.declared.rows.PlanRow.{PlanRow}
use Rattle.cad_files.specs.declared.rows.PlanRow.TheVariants as row
use Rattle.cad_files.specs.declared.plan_records.PlanRecord.{PlanRecord}
use Rattle.cad_files.specs.declared.plan_records.PlanRecord.TheVariants as records
use Rattle.cad_files.specs.declared.faults.PlanFault.{PlanFault}
use Rattle.cad_files.specs.declared.faults.PlanFault.TheVariants as faults

-- ---- The plan

-- how far a coordinate may lie from zero, either way, in a plan of this version
abbrev pub limit_of : Version → ℤ
limit_of One = pos 1000000000
limit_of Two = coordinate_limit

abbrev pub is_within : Version → ℤ → Bool
is_within version z = int_le (neg_ℤ (limit_of version)) z && int_le z (limit_of version)

-- how far a plan is read
pub data Plan : Type 0 where
  -- no record yet
  beginning : Plan
  -- so many records of a plan of this version gave these rows
  reading : Version → ℕ → Rows → Plan
  -- the last record is `open`
  opened : Rows → Plan
  -- a record stands after `open`
  passed : Plan
  -- the first fault
  faulty : PlanFault → Plan

-- the row that a record gives, and none where it ends the plan
abbrev pub row_of : PlanRecord → Option PlanRow
row_of (records.Source s) = Some (row.Source s)
row_of (records.Point p) = Some (row.Point
    (record { number = p.number; position = record { x = p.x; y = p.y }; sources = p.sources }))
row_of (records.Parcel p) = Some (row.Parcel
    (record { number = p.number; label = p.label; sources = p.sources }))
row_of (records.String s) = Some (row.String (record {
  row = record { number = s.number; from = s.from; to = s.to; sources = s.sources };
  left = s.left;
  right = s.right;
}))
row_of (records.Retired n) = Some (row.Retired n)
row_of records.Open = None

-- its coordinates, where it has any, are within the limit of the version
abbrev pub is_placed : Version → PlanRecord → Bool
is_placed version (records.Point p) = is_within version p.x && is_within version p.y
is_placed version _ = true

-- the row last, where its sources are few and there is room
abbrev pub with_one_more : Rows → PlanRow → Option Rows
with_one_more rows r =
    if nat_le (length (sources_of r)) source_limit && has_room rows r then Some (with_row rows r)
    else None

-- the plan goes on with these rows, or a limit is passed
abbrev pub goes_on : Version → ℕ → Option Rows → Plan
goes_on version n (Some rows) = reading version n rows
goes_on version n None = faulty faults.Full

-- with a row the plan goes on, and ends without
abbrev pub row_step : Version → ℕ → Rows → Option PlanRow → Plan
row_step version n rows None = opened rows
row_step version n rows (Some r) = goes_on version n (with_one_more rows r)

-- record number n, after those that gave the rows: a point is looked at for its range before its limits
abbrev pub record_step : Version → ℕ → Rows → Option PlanRecord → Plan
record_step version n rows None = faulty (faults.Syntax n)
record_step version n rows (Some r) =
    if is_placed version r then row_step version n rows (row_of r) else faulty (faults.Range n)

-- the first record: whether it has seven fields, and then whether they begin a plan
abbrev pub first_step : Option (Option Version) → Plan
first_step None = faulty (faults.Syntax 1)
first_step (Some None) = faulty faults.Version
first_step (Some (Some version)) = reading version 1 no_rows

unfoldable pub plan_step : Plan → List (List ℕ) → Plan
plan_step beginning fields = first_step (option_map version_of (seven_of fields))
plan_step (reading version n rows) fields =
    record_step version (n + 1) rows (option_and_then plan_of_fields (seven_of fields))
plan_step (opened rows) fields = passed
plan_step passed fields = passed
plan_step (faulty fault) fields = faulty fault

-- what a list of records is as a plan
abbrev pub plan_of : List (List (List ℕ)) → Plan
plan_of rows = fold plan_step beginning rows

-- ---- Faults

-- neither open nor at fault
abbrev pub is_unfinished : Plan → Bool
is_unfinished beginning = true
is_unfinished (reading version n rows) = true
is_unfinished (opened rows) = false
is_unfinished passed = false
is_unfinished (faulty fault) = false

-- the text's plan has this fault
pub data HasPlanFault (text : List ℕ) : PlanFault → Type 0 where
  -- the first record at fault: at most the 600,002nd
  of_record : (before : List (List (List ℕ))) (fields : List (List ℕ)) {fault : PlanFault}
      → AreTaken text (before ++ fields ∷ []) → length before ≤ plan_limit + 1
      → is_unfinished (plan_of before) ≡ true → plan_of (before ++ fields ∷ []) ≡ faulty fault
      → HasPlanFault text fault
  -- the first record, which hasn't seven fields
  of_first : (fields : List (List ℕ)) → BeginsWith text (fields ∷ []) → length fields ≢ 7
      → HasPlanFault text (faults.Syntax 1)
  -- a record behind those of an unfinished plan, which hasn't seven fields
  of_length : (before : List (List (List ℕ))) (next : List (List ℕ)) → AreTaken text before → BeginsWith text (before ++ next ∷ [])
      → length next ≢ 7 → 0 < length before → length before ≤ plan_limit + 1 → is_unfinished (plan_of before) ≡ true
      → HasPlanFault text faults.Length
  -- the text ends before `open`
  of_end : (rows : List (List (List ℕ))) → AreTaken text rows → IsWhole text rows
      → length rows ≤ plan_limit + 1 → is_unfinished (plan_of rows) ≡ true
      → HasPlanFault text faults.NoOpen

-- no fault of the plan, but one of the reader or of memory
abbrev pub IsOfReading : PlanFault → Type 0
IsOfReading fault = (fault ≡ faults.Read) ⊎ (fault ≡ faults.Memory)

-- a row was taken, as the definition has it, or it has none
pub record IsTaken (result : Result Unit PlanFault) (old new : Rows) (taken : Option Rows) : Type 0 where
  -- the rows are those that it makes
  pub ok : OnOk result (taken ≡ Some new)
  -- but for memory a row is refused where it makes none
  pub full : IfErr result (λ fault. fault ≢ faults.Memory → taken ≡ None)
  -- for nothing but a limit
  pub err : IfErr result (λ fault. fault ≢ faults.Memory → fault ≡ faults.Full)
  -- and a row more was taken
  pub grows : OnOk result (HasOneMore old new)

-- the same, where neither the reader nor memory failed
abbrev pub IsPlanFault : List ℕ → PlanFault → Type 0
IsPlanFault text fault = fault ≢ faults.Read → fault ≢ faults.Memory → HasPlanFault text fault
