-- A plan has at most 600,002 records: the first one, one for each row, and `open`.
use Rattle.std.proofs.Common.{◌≡◌, ◌≤◌, sym, refl, subst, ℕ, ◌+◌, ◌<◌, List, [], ◌∷◌, ◌++◌, length, length-append, Option, Some, None, Bool, true, false, arith, nat_lt, nat_le}
use Rattle.std.specs.Prelude.{fold, option_and_then, option_map, ◌&&◌, if◌then◌else◌}
use Rattle.std.proofs.lemmas.Bool.Decides.{nat_tests}
use Rattle.cad_rows.specs.Limits.{row_limit, string_limit, source_limit}
use Rattle.cad_files.specs.Record.{seven_of}
use Rattle.cad_files.specs.PlanRecords.{plan_of_fields, version_of}
use Rattle.cad_files.specs.Rows.{Rows, row_count, plan_limit, has_room, with_row, sources_of}
use Rattle.cad_files.specs.Plan.{Plan, beginning, reading, opened, passed, faulty, plan_of, plan_step, first_step, record_step, row_step, row_of, is_placed, goes_on}
use Rattle.cad_files.specs.declared.faults.PlanFault.TheVariants as faults
use Rattle.cad_files.specs.declared.plan_records.Version.{Version}
use Rattle.cad_files.specs.declared.rows.PlanRow.{PlanRow}
use Rattle.cad_files.specs.declared.rows.PlanRow.TheVariants as row
use Rattle.cad_files.specs.declared.plan_records.PlanRecord.{PlanRecord}

-- no more rows of a kind than there may be
record AreFew (rows : Rows) : Type 0 where
  sources : length rows.sources ≤ row_limit
  points : length rows.points ≤ row_limit
  parcels : length rows.parcels ≤ row_limit
  strings : length rows.strings ≤ string_limit
  retired : length rows.retired ≤ row_limit

-- after so many records
abbrev IsAfter : ℕ → Plan → Type 0
IsAfter k beginning = k ≡ 0
IsAfter k (reading version n rows) = (k ≡ row_count rows + 1) × AreFew rows
IsAfter k (opened rows) = k ≤ plan_limit + 2
IsAfter k passed = Unit {0}
IsAfter k (faulty fault) = Unit {0}

pushed : {X : Type 0} (xs : List X) (x : X) → length (xs ++ x ∷ []) ≡ length xs + 1
pushed xs x = length-append xs (x ∷ [])

less : (n limit : ℕ) → nat_lt n limit ≡ true → n < limit
less n limit room = grind (arith, nat_tests)

module _ (k : ℕ) (version : Version) (n : ℕ) (rows : Rows) (now : k ≡ row_count rows + 1) (few : AreFew rows) where
  -- a row of any kind is one more, where there is room for it
  row-next : (r : PlanRow) → has_room rows r ≡ true → (k + 1 ≡ row_count (with_row rows r) + 1) × AreFew (with_row rows r)
  row-next (row.Source s) room = let e = pushed rows.sources s in let h = less _ row_limit room in (omega (arith, e, now), record { sources = omega (arith, e, h); points = few.points; parcels = few.parcels; strings = few.strings; retired = few.retired })
  row-next (row.Point p) room = let e = pushed rows.points p in let h = less _ row_limit room in (omega (arith, e, now), record { sources = few.sources; points = omega (arith, e, h); parcels = few.parcels; strings = few.strings; retired = few.retired })
  row-next (row.Parcel p) room = let e = pushed rows.parcels p in let h = less _ row_limit room in (omega (arith, e, now), record { sources = few.sources; points = few.points; parcels = omega (arith, e, h); strings = few.strings; retired = few.retired })
  row-next (row.String s) room = let e = pushed rows.strings s in let h = less _ string_limit room in (omega (arith, e, now), record { sources = few.sources; points = few.points; parcels = few.parcels; strings = omega (arith, e, h); retired = few.retired })
  row-next (row.Retired n) room = let e = pushed rows.retired n in let h = less _ row_limit room in (omega (arith, e, now), record { sources = few.sources; points = few.points; parcels = few.parcels; strings = few.strings; retired = omega (arith, e, h) })

  -- with or without a row
  step-of_row : (given : Option PlanRow) → IsAfter (k + 1) (row_step version n rows given)
  step-of_row None = let a = few.sources in let b = few.points in let d = few.parcels in let e = few.strings in let f = few.retired in omega (arith, a, b, d, e, f, now)
  step-of_row (Some r) = by (nat_le (length (sources_of r)) source_limit) (has_room rows r) refl
    where
      by : (s b : Bool) → has_room rows r ≡ b → IsAfter (k + 1) (goes_on version n (if s && b then Some (with_row rows r) else None))
      by false b room = tt
      by true false room = tt
      by true true room = row-next r room

  record-next : (found : Option PlanRecord) → IsAfter (k + 1) (record_step version n rows found)
  record-next None = tt
  record-next (Some given) = by (is_placed version given)
    where
      by : (placed : Bool) → IsAfter (k + 1) (if placed then row_step version n rows (row_of given) else faulty (faults.Range n))
      by true = step-of_row (row_of given)
      by false = tt

first-next : (found : Option (Option Version)) → IsAfter 1 (first_step found)
first-next None = tt
first-next (Some None) = tt
first-next (Some (Some version)) = (refl, record { sources = omega arith; points = omega arith; parcels = omega arith; strings = omega arith; retired = omega arith })

step-next : (k : ℕ) (plan : Plan) (fields : List (List ℕ)) → IsAfter k plan → IsAfter (k + 1) (plan_step plan fields)
unfolding plan_step
step-next k beginning fields now = subst (λ (i : ℕ). IsAfter (i + 1) (first_step (option_map version_of (seven_of fields)))) (sym now) (first-next (option_map version_of (seven_of fields)))
step-next k (reading version n rows) fields now = record-next k version (n + 1) rows now.0 now.1 (option_and_then plan_of_fields (seven_of fields))
step-next k (opened rows) fields now = tt
step-next k passed fields now = tt
step-next k (faulty fault) fields now = tt

fold-next : (records : List (List (List ℕ))) (k : ℕ) (plan : Plan) → IsAfter k plan → IsAfter (k + length records) (fold plan_step plan records)
fold-next [] k plan now = subst (λ (i : ℕ). IsAfter i plan) (omega arith) now
fold-next (fields ∷ records) k plan now =
    subst (λ (i : ℕ). IsAfter i (fold plan_step (plan_step plan fields) records)) (omega arith) (fold-next records (k + 1) (plan_step plan fields) (step-next k plan fields now))

after : (records : List (List (List ℕ))) → IsAfter (length records) (plan_of records)
after records = subst (λ (i : ℕ). IsAfter i (plan_of records)) (omega arith) (fold-next records 0 beginning refl)

-- a plan up to `open`
pub few-opened : (records : List (List (List ℕ))) (rows : Rows) → plan_of records ≡ opened rows → length records ≤ plan_limit + 2
few-opened records rows is = subst (IsAfter (length records)) is (after records)

-- a plan before `open`
pub few-reading : (records : List (List (List ℕ))) (version : Version) (n : ℕ) (rows : Rows) → plan_of records ≡ reading version n rows → length records ≤ plan_limit + 1
few-reading records version n rows is =
    let now = subst (IsAfter (length records)) is (after records) in
    let few = now.1 in
    let a = few.sources in let b = few.points in let d = few.parcels in let e = few.strings in let f = few.retired in
    let same = now.0 in
    omega (arith, a, b, d, e, f, same)
