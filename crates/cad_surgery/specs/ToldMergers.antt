-- A merger by its record, along a chain or round an island: what it tells, and how it is taken back.
use Rattle.std.specs.Prelude.{◌≡◌, ℕ, ◌+◌, ◌*◌, ◌<◌, ◌≤◌, ⊤, true, if◌then◌else◌, List, [], ◌∷◌, map, length, Result, OnOk, OnErr}
use Rattle.std.specs.Global.{Vec}
use Rattle.cad_rows.specs.declared.edits.Edit.TheVariants.{Merge}
use Rattle.cad_rows.specs.declared.names.Face.{Face}
use Rattle.cad_rows.specs.declared.names.Face.TheVariants.{Parcel}
use Rattle.cad_rows.specs.declared.rows.ParcelRow.{ParcelRow}
use Rattle.cad_map.specs.Effects.{after}
use Rattle.cad_map.specs.Map.{Map}
use Rattle.half_table.specs.declared.half.Half.{Half}
use Rattle.half_table.specs.Count.{ticked}
use Rattle.half_table.specs.Half.{twin}
use Rattle.half_table.specs.Rows.{HalfRows, Table, has, cycle}
use Rattle.half_paths.specs.Loose.{is_of}
use Rattle.key_lists.specs.Held.{Held}
use Rattle.cad_laws.specs.Tried.{IsTried}
use Rattle.cad_surgery.specs.declared.edits.merged.Merged.{Merged}
use Rattle.cad_surgery.specs.declared.edits.merging.Way.{Way}
use Rattle.cad_surgery.specs.declared.edits.merging.Way.TheVariants as way
use Rattle.edit_records.specs.HeldChains.{closed, rows_along}
use Rattle.edit_records.specs.declared.record.ChainString.{ChainString}
use Rattle.edit_records.specs.declared.record.SmallRecord.{SmallRecord}
use Rattle.edit_records.specs.declared.record.SmallRecord.TheVariants as change
use Rattle.edit_records.specs.Record.{HeldMergedAlong, HeldMergedIsland}
use Rattle.map_parts.specs.declared.edits.merging_tried.EndedParcel.{EndedParcel}
use Rattle.map_parts.specs.declared.edits.placed_strings.PlacedString.{PlacedString}
use Rattle.cad_map.specs.declared.map_rows.MapRows.{MapRows}
use Rattle.map_parts.specs.declared.stars.Spoke.{Spoke}
use Rattle.map_parts.specs.Merging.{rows_gone, CanBeginUnmerge}
use Rattle.map_parts.specs.MergingIsland.{CanBeginUnmergeIsland}
use Rattle.map_parts.specs.PlacedStrings.{numbers_placed}
use Rattle.map_parts.specs.Relabelled.{cycles_length}
use Rattle.map_parts.specs.Splitting.{FitMap}

-- the record is of a merger
abbrev pub IsOfMerge : SmallRecord → Type 0
IsOfMerge (change.MergeAlong kept row place chain strings start end moved) = ⊤
IsOfMerge (change.MergeIsland kept row place points strings moved) = ⊤
IsOfMerge _ = ⊥

-- the record of a merger that went so, with the points along what the two shared
abbrev pub merger_record : Way → Face → ParcelRow → ℕ → List ℕ → Vec ChainString → Vec Half → SmallRecord
merger_record (way.Along start end) kept row place points strings moved =
    change.MergeAlong kept row place points strings start end moved
merger_record way.Round kept row place points strings moved =
    change.MergeIsland kept row place points strings moved

-- the record is that of such a merger
abbrev pub TellsMerged : SmallRecord → Merged → Type 0
TellsMerged r t = (strings : Vec ChainString) × (moved : Vec Half) × (strings.items ≡ t.strings.now) × (moved.items ≡ t.moved.now)
    × (r ≡ merger_record t.way t.kept t.row.now t.place t.points.now strings moved)

-- what the record tells of the map before it: what the two shared, the parcel's row and the strings
abbrev pub HeldMerger : Way → Map → Face → ParcelRow → ℕ → List ℕ → List ChainString → List Half → Type 0
HeldMerger (way.Along start end) m kept row place points strings moved = HeldMergedAlong m kept row place points strings start end moved
HeldMerger way.Round m kept row place points strings moved = HeldMergedIsland m kept row place points strings moved

-- the points that the strings lead along: those of a ring back to the first
abbrev pub chain_told : Way → List ℕ → List ℕ
chain_told (way.Along start end) points = points
chain_told way.Round points = closed points

-- the halves of strings that went
abbrev pub halves_of : List ChainString → List Half
halves_of strings = map (λ (s : ChainString). s.half) strings

-- All that went by a merger: the parcel with its place, and the strings along the chain with theirs.
pub record WentAlong (row : ParcelRow) (place : ℕ) (strings : List ChainString) (chain : List ℕ) (e : EndedParcel) : Type 0 where
  pub row_is : e.row ≡ row
  pub place_is : e.place ≡ place
  pub rows_are : rows_gone e.strings.items ≡ rows_along strings chain
  pub places_are : map (λ (g : PlacedString). g.place) e.strings.items ≡ map (λ (s : ChainString). s.place) strings

-- The second map is that after the merger, which was tried, and what the record tells was so.
pub record IsMergedBy (m now : Map) (t : Merged) : Type 0 where
  pub tried : IsTried m (Merge t.kept (Parcel t.row.now.number))
  pub is : now ≡ after m (Merge t.kept (Parcel t.row.now.number))
  pub held : HeldMerger t.way m t.kept t.row.now t.place t.points.now t.strings.now t.moved.now

-- all that went is at hand, and the map is that before the merger
abbrev pub IsAtHand : Way → List Half → Map → Merged → EndedParcel → MapRows → Table → Held Half → Held Spoke → Type 0
IsAtHand (way.Along start end) path m t e rows table held stars =
    (can : CanBeginUnmerge t.kept e.row e.place path start end t.moved.now e.strings.items rows table.rows held stars) × (can.map ≡ m)
IsAtHand way.Round path m t e rows table held stars =
    (can : CanBeginUnmergeIsland t.kept e.row e.place path t.moved.now e.strings.items rows table.rows held stars) × (can.map ≡ m)

-- it can be taken back, to the map
pub record CanGoBack (m : Map) (t : Merged) (path : List Half) (e : EndedParcel) (rows : MapRows) (table : Table) (held : Held Half) (stars : Held Spoke) : Type 0 where
  pub some : 0 < length path
  pub back : IsAtHand t.way path m t e rows table held stars

-- as many ticks as it takes on the table, beside those of the strings that come
abbrev pub ticks_back : Way → List Half → List Half → HalfRows → ℕ
ticks_back (way.Along start end) (first ∷ others) moved rows = 2 + 2 * length others + (length others + 2) + (length (cycle rows first) + cycles_length rows moved)
ticks_back way.Round (first ∷ others) moved rows = length others + 1 + (length (cycle rows first) + (length (cycle rows (twin first)) + cycles_length rows moved))
ticks_back (way.Along start end) [] moved rows = 0
ticks_back way.Round [] moved rows = 0

-- It is taken back, with its strings in the table, or there is no memory and the map stays.
pub record GoesBack {A E : Type 0} (m : Map) (t : Merged) (path : List Half) (e : EndedParcel) (before : Table)
    (rows : MapRows) (u : Table) (held : Held Half) (stars : Held Spoke) (result : Result A E) : Type 0 where
  pub fits : OnOk result (FitMap m rows u.rows held stars)
  pub halves : OnOk result ((h : Half) → has u.rows h ≡ (if is_of (numbers_placed e.strings.items) h then true else has before.rows h))
  pub work : OnOk result (u.work ≡ ticked (ticks_back t.way path t.moved.now u.rows) (ticked (length e.strings.items) before.work))
  pub err : OnErr result (FitMap (after m (Merge t.kept (Parcel e.row.number))) rows u.rows held stars)
  pub err_rows : OnErr result (u.rows ≡ before.rows)
  pub err_work : OnErr result ((count : ℕ) × (count ≤ length e.strings.items) × (u.work ≡ ticked count (ticked count before.work)))
