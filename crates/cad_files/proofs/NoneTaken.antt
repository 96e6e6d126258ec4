-- In the rows of a valid map no number is taken.
use Rattle.std.proofs.Common.{◌≡◌, ◌≢◌, ℕ, refl, ap, List, [], ◌∷◌, map, None}
use Rattle.std.specs.Prelude.{IsFalse}
use Rattle.std.specs.List.{AllByRecursion}
use Rattle.cad_rows.specs.declared.rows.ParcelRow.{ParcelRow}
use Rattle.cad_map.specs.Map.{Map, has_parcel, parcel_of}
use Rattle.cad_map.specs.Valid.{IsValid}
use Rattle.cad_map.proofs.CallerLemmas.{others-from_none, none-from_some}
use Rattle.cad_files.specs.Building.{rows_of, plan_string_of, twice_numbered}
use Rattle.cad_files.specs.Fields.{repeated}
use Rattle.cad_files.specs.Kinds.{numbers_of, taken_before, taken_of}
use Rattle.cad_files.specs.declared.kinds.Kind.{Kind}
use Rattle.cad_files.specs.declared.kinds.Kind.TheVariants.{Sources, Points, Parcels, Strings, Retired}
use Rattle.cad_files.specs.declared.rows.PlanString.{PlanString}
use Rattle.cad_rows.specs.declared.rows.StringRow.{StringRow}
use Rattle.cad_files.proofs.AgainFacts.{repeated-none, distinct-once}

string_numbers : (m : Map) (strings : List StringRow) → map (λ (s : PlanString). s.row.number) (map (plan_string_of m) strings) ≡ map (λ s. s.number) strings
string_numbers m [] = refl
string_numbers m (s ∷ strings) = ap (λ (l : List ℕ). s.number ∷ l) (string_numbers m strings)

module _ (m : Map) (valid : IsValid m) where
  -- a retired number is no parcel's
  retired_apart : (ns : List ℕ) → AllByRecursion (λ n. IsFalse (has_parcel m n)) ns → AllByRecursion (λ n. AllByRecursion (λ k. k ≢ n) (map (λ (p : ParcelRow). p.number) m.parcels)) ns
  retired_apart [] all = tt
  retired_apart (n ∷ ns) all = (others-from_none (λ (p : ParcelRow). p.number) n m.parcels (none-from_some (parcel_of m n) all.0), retired_apart ns all.1)

  not_taken : (kind : Kind) → repeated (taken_before (rows_of m) kind) (numbers_of (rows_of m) kind) ≡ None
  not_taken Sources = distinct-once _ valid.sound.v1.sources.distinct
  not_taken Points = distinct-once _ valid.sound.v1.points.distinct
  not_taken Parcels = distinct-once _ valid.sound.v1.parcels.distinct
  not_taken Strings = rw (string_numbers m m.strings) (distinct-once _ valid.sound.v1.strings.distinct)
  not_taken Retired =
      let v = valid.sound.v1 in
      repeated-none (map (λ (p : ParcelRow). p.number) m.parcels) m.retired v.retired.distinct (retired_apart m.retired v.retired_for_good)

  pub none_taken : twice_numbered (rows_of m) ≡ None
  unfolding taken_of
  none_taken = rw (not_taken Sources, not_taken Points, not_taken Parcels, not_taken Strings, not_taken Retired) refl
