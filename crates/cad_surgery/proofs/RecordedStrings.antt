-- What the record of a merger tells of the strings that went was so.
use Rattle.std.proofs.Common.{◌≡◌, ℕ, ◌+◌, sym, ap, subst, ◌∙◌, List, length, slice_get, Some, arith}
use Rattle.std.specs.Prelude.{IsPermutation}
use Rattle.std.specs.List.{AllByRecursion, Contains}
use Rattle.std.proofs.lemmas.List.{length-map}
use Rattle.std.proofs.lemmas.List.Sorted.{IsPermutation-sym}
use Rattle.cad_rows.specs.declared.names.Face.{Face}
use Rattle.cad_rows.specs.declared.names.Face.TheVariants.{Parcel}
use Rattle.cad_rows.specs.declared.rows.ParcelRow.{ParcelRow}
use Rattle.cad_rows.specs.declared.rows.StringRow.{StringRow}
use Rattle.cad_rings.specs.Surgery.{sides_of_chain}
use Rattle.cad_map.specs.Map.{Map}
use Rattle.cad_map.specs.Merger.{is_shared}
use Rattle.cad_map.specs.Valid.{IsValid}
use Rattle.cad_map.proofs.CallerLemmas.{filter-Contains, map-Contains}
use Rattle.half_table.specs.declared.half.Half.{Half}
use Rattle.half_table.specs.Rows.{HalfRows}
use Rattle.half_paths.specs.Path.{strings_of}
use Rattle.half_paths.specs.Loose.{numbers_of}
use Rattle.cad_laws.specs.Counts.{shared_strings}
use Rattle.cad_laws.specs.Taken.{AreAtPlaces}
use Rattle.edit_records.specs.HeldChains.{HeldMerged, rows_along}
use Rattle.map_parts.specs.declared.edits.placed_strings.PlacedString.{PlacedString}
use Rattle.map_parts.specs.Merging.{rows_gone}
use Rattle.map_parts.specs.Parts.{HasHalves}
use Rattle.map_parts.specs.Paths.{AreAlong}
use Rattle.map_parts.specs.PlacedStrings.{numbers_placed, StoodIn}
use Rattle.map_parts.proofs.CycleRings.{map-map}
use Rattle.map_parts.proofs.MergedRows.{stood-there}
use Rattle.cad_surgery.specs.ChainStrings.{with_halves}
use Rattle.cad_surgery.proofs.PlacedChains.{length-with, places-with, rows-permuted, rows-placed}

module _ (m : Map) (rows : HalfRows) (ends : AllByRecursion (HasHalves rows) m.strings) (kept : Face) (row : ParcelRow) (place : ℕ) (path : List Half) (gone : List PlacedString)
    (chain : List ℕ) (valid : IsValid m) (shared : IsPermutation (numbers_of (shared_strings m kept (Parcel row.number))) (strings_of path))
    (along : AreAlong rows path (sides_of_chain chain)) (long : length chain ≡ length path + 1)
    (numbers : numbers_placed gone ≡ strings_of path) (stood : StoodIn m.strings gone) (at : slice_get m.parcels place ≡ Some row) where
  abbrev shares : List StringRow
  shares = shared_strings m kept (Parcel row.number)

  as_long : length path ≡ length gone
  as_long = sym (length-map path (λ (h : Half). h.string)) ∙ sym (ap length numbers) ∙ length-map gone (λ (g : PlacedString). g.row.number)

  rows-are : rows_along (with_halves path gone) chain ≡ rows_gone gone
  rows-are = rows-placed m rows ends path gone chain along numbers (λ g among. stood-there m.strings gone stood g among)

  numbers-are : IsPermutation (numbers_of (rows_gone gone)) (numbers_of shares)
  numbers-are =
      subst (λ (l : List ℕ). IsPermutation l (numbers_of shares)) (sym (map-map (λ (s : StringRow). s.number) (λ (g : PlacedString). g.row) gone ∙ numbers))
      (IsPermutation-sym (numbers_of shares) (strings_of path) shared)

  gone-shared : IsPermutation (rows_gone gone) shares
  gone-shared =
      rows-permuted m valid.sound.v1.strings.distinct (rows_gone gone) shares
      (λ s among.
      let g = map-Contains (λ (g : PlacedString). g.row) gone s among in
      subst (Contains m.strings) g.2 (stood-there m.strings gone stood g.0 g.1))
      (λ s among. (filter-Contains (is_shared m kept (Parcel row.number)) m.strings s among).0) numbers-are

  -- with the halves along them, their places and their sources
  pub strings-held : HeldMerged m kept row place (with_halves path gone) chain
  strings-held = record {
    parcel = at;
    as_many = let b = length-with path gone as_long in let d = as_long in omega (arith, b, d, long);
    shared = subst (λ (l : List StringRow). IsPermutation l shares) (sym rows-are) gone-shared;
    there =
        subst (λ (t : List StringRow × List ℕ). AreAtPlaces m.strings t.0 t.1) (λ i. (sym rows-are i, sym (places-with path gone as_long) i)) stood;
  }
