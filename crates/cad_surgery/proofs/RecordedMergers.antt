-- What the record of a merger tells was so, along a chain or round an island.
use Rattle.std.proofs.Common.{◌≡◌, ℕ, refl, sym, subst, ◌∙◌, List, [], ◌∷◌, length-append, slice_get, Some, arith}
use Rattle.std.specs.Global.{Vec}
use Rattle.std.specs.List.{AllByRecursion}
use Rattle.cad_rows.specs.declared.edits.Edit.TheVariants.{Merge}
use Rattle.cad_rows.specs.declared.names.Face.{Face}
use Rattle.cad_rows.specs.declared.names.Face.TheVariants.{Parcel}
use Rattle.cad_rows.specs.declared.rows.ParcelRow.{ParcelRow}
use Rattle.cad_map.specs.Chain.{start_of}
use Rattle.cad_map.specs.Map.{Map}
use Rattle.half_table.specs.declared.half.Half.{Half}
use Rattle.half_table.specs.Rows.{HalfRows}
use Rattle.half_paths.specs.Path.{strings_of}
use Rattle.edit_records.specs.HeldChains.{closed}
use Rattle.edit_records.specs.Record.{HeldMergedIsland, edit_of, Holds}
use Rattle.edit_records.specs.declared.record.ChainString.{ChainString}
use Rattle.map_parts.specs.declared.edits.placed_strings.PlacedString.{PlacedString}
use Rattle.map_parts.specs.Parts.{HasHalves}
use Rattle.map_parts.specs.PlacedStrings.{numbers_placed, StoodIn}
use Rattle.map_parts.proofs.AlongPaths.{round-points}
use Rattle.map_parts.proofs.MergingIsland as merging
use Rattle.cad_surgery.specs.declared.edits.merging.Way.{Way}
use Rattle.cad_surgery.specs.declared.edits.merging.Way.TheVariants as way
use Rattle.cad_surgery.specs.ChainStrings.{with_halves}
use Rattle.cad_surgery.specs.IslandMergers.{HasSharedRing}
use Rattle.cad_surgery.specs.Merging.{HasFound, HasShared}
use Rattle.cad_surgery.specs.ToldMergers.{HeldMerger, merger_record}
use Rattle.cad_surgery.proofs.HeldIslandMergers.{closed-sides}
use Rattle.cad_surgery.proofs.MergersTried.{path-points}
use Rattle.cad_surgery.proofs.RecordedStrings.{strings-held}

-- what the two share is found
pub found-shared : (w : Way) (m : Map) (rows : HalfRows) (kept : Face) (ended : ℕ) (path : List Half) (points : List ℕ) (moved : List Half) → HasFound w m rows kept ended path points moved
    → HasShared w m rows kept ended path moved
found-shared (way.Along start end) m rows kept ended path points moved it = it.merger
found-shared way.Round m rows kept ended path points moved it = it.merger

-- the record of a merger is of it
pub merger-edit : (w : Way) (kept : Face) (row : ParcelRow) (place : ℕ) (points : List ℕ) (strings : Vec ChainString) (moved : Vec Half)
    → edit_of (merger_record w kept row place points strings moved) ≡ Merge kept (Parcel row.number)
merger-edit (way.Along start end) kept row place points strings moved = refl
merger-edit way.Round kept row place points strings moved = refl

-- and it tells what was so
pub merger-holds : (w : Way) (kept : Face) (row : ParcelRow) (place : ℕ) (points : List ℕ) (strings : Vec ChainString) (moved : Vec Half) (m : Map)
    → HeldMerger w m kept row place points strings.items moved.items → Holds (merger_record w kept row place points strings moved) m
merger-holds (way.Along start end) kept row place points strings moved m held = held
merger-holds way.Round kept row place points strings moved m held = held

pub merger-held : (w : Way) (kept : Face) (row : ParcelRow) (place : ℕ) (points : List ℕ) (strings : Vec ChainString) (moved : Vec Half) (m : Map)
    → Holds (merger_record w kept row place points strings moved) m → HeldMerger w m kept row place points strings.items moved.items
merger-held (way.Along start end) kept row place points strings moved m holds = holds
merger-held way.Round kept row place points strings moved m holds = holds

module _ (m : Map) (rows : HalfRows) (ends : AllByRecursion (HasHalves rows) m.strings) (kept : Face) (row : ParcelRow) (place : ℕ) (path : List Half) (points : List ℕ) (moved : List Half)
    (gone : List PlacedString) (numbers : numbers_placed gone ≡ strings_of path) (stood : StoodIn m.strings gone) (at : slice_get m.parcels place ≡ Some row) where
  held-island : (it : HasSharedRing m rows kept row.number path moved) → HeldMergedIsland m kept row place it.points (with_halves path gone) moved
  held-island it =
      let long = merging.long m kept row.number it.points path it.is in
      let a = length-append it.points (start_of it.points ∷ []) in
      let c = path-points m rows kept row.number path moved it in
      record {
        shared = record { kept_ring = it.is.kept_ring; ended_ring = it.is.ended_ring; there = it.is.there; is = it.is.leads };
        gone =
            strings-held m rows ends kept row place path gone (closed it.points) it.is.tried.valid it.is.shared (it.along ∙ sym (closed-sides it.points long))
            (omega (arith, a, c)) numbers stood at;
        held = it.named;
      }

  pub held-by : (w : Way) → HasFound w m rows kept row.number path points moved → HeldMerger w m kept row place points (with_halves path gone) moved
  held-by (way.Along start end) it = record {
    shared = it.shared;
    gone = strings-held m rows ends kept row place path gone points it.merger.is.tried.valid it.merger.is.shared it.along it.long numbers stood at;
    held = it.held;
  }
  held-by way.Round it =
      subst (λ (l : List ℕ). HeldMergedIsland m kept row place l (with_halves path gone) moved)
      (sym (it.points_are ∙ round-points rows path it.merger.points it.merger.along)) (held-island it.merger)
