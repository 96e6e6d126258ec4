-- A merger, along a chain or round an island: what it names, and how it begins and goes back.
use Rattle.std.specs.Prelude.{◌≡◌, ◌≤◌, ◌+◌, ◌*◌, ℕ, true, if◌then◌else◌, List, length, Result, IfOk, OnOk, OnErr}
use Rattle.cad_rows.specs.declared.edits.Edit.{Edit}
use Rattle.cad_rows.specs.declared.edits.Edit.TheVariants.{Merge}
use Rattle.cad_rows.specs.declared.names.Face.{Face}
use Rattle.cad_rows.specs.declared.names.Face.TheVariants.{Parcel}
use Rattle.cad_map.specs.Costs.{work_bound}
use Rattle.cad_map.specs.Effects.{after}
use Rattle.cad_map.specs.Map.{Map, has_string}
use Rattle.half_table.specs.declared.half.Half.{Half}
use Rattle.half_table.specs.Count.{greatest}
use Rattle.half_table.specs.Rows.{HalfRows, Table, has, next}
use Rattle.half_paths.specs.Path.{strings_of}
use Rattle.half_paths.specs.Loose.{is_of, AreLoose}
use Rattle.key_lists.specs.Held.{Held}
use Rattle.cad_laws.specs.Counts.{sides_of_face}
use Rattle.cad_surgery.specs.declared.edits.merging.Merger.{Merger}
use Rattle.cad_surgery.specs.declared.edits.merging.Way.{Way}
use Rattle.cad_surgery.specs.declared.edits.merging.Way.TheVariants as way
use Rattle.cad_surgery.specs.IslandMergers.{HasSharedRing, HasFoundRing}
use Rattle.cad_surgery.specs.Mergers.{HasSharedPath, HasFoundPath}
use Rattle.cad_surgery.specs.Work.{TakesWork, TicksUpTo}
use Rattle.map_parts.specs.declared.edits.merging_tried.EndedParcel.{EndedParcel}
use Rattle.cad_map.specs.declared.map_rows.MapRows.{MapRows}
use Rattle.map_parts.specs.declared.stars.Spoke.{Spoke}
use Rattle.map_parts.specs.Handing.{KeepsEnds}
use Rattle.map_parts.specs.Merging.{CanUnmerge}
use Rattle.map_parts.specs.MergingIsland.{CanUnmergeIsland}
use Rattle.map_parts.specs.Splitting.{FitMap}

-- the edit
abbrev pub merged_by : Merger → Edit
merged_by g = Merge g.kept (Parcel g.ended)

-- the halves along what the two share, and one half of each other ring of the ended parcel
abbrev pub HasShared : Way → Map → HalfRows → Face → ℕ → List Half → List Half → Type 0
HasShared (way.Along start end) m rows kept ended path moved = HasSharedPath m rows kept ended path start end moved
HasShared way.Round m rows kept ended path moved = HasSharedRing m rows kept ended path moved

-- the same found, with the points along it
abbrev pub HasFound : Way → Map → HalfRows → Face → ℕ → List Half → List ℕ → List Half → Type 0
HasFound (way.Along start end) m rows kept ended path points moved = HasFoundPath m rows kept ended path points start end moved
HasFound way.Round m rows kept ended path points moved = HasFoundRing m rows kept ended path points moved

-- These are the parts of the map, at rest, and the merger's halves are in its table.
pub record IsMergerOn (m : Map) (g : Merger) (rows : MapRows) (table : Table) (held : Held Half) (stars : Held Spoke) : Type 0 where
  pub shared : HasShared g.way m table.rows g.kept g.ended g.path.now g.moved.now
  pub strings_are : g.strings.now ≡ strings_of g.path.now
  pub fits : FitMap m rows table.rows held stars
  pub all : (h : Half) → has table.rows h ≡ has_string m h.string

-- as many ticks as a merger takes on the table at the most, and as many as its way back does
abbrev pub ticks_by : Map → Merger → ℕ
ticks_by m g = 3 * length g.path.now + 1 + sides_of_face (Parcel g.ended) m

-- The parts are those of the map after it, and the strings that went are in the table still, loose.
pub record IsBegun (m : Map) (g : Merger) (before : Table) (rows : MapRows) (t : Table) (held : Held Half) (stars : Held Spoke) : Type 0 where
  pub fits : FitMap (after m (merged_by g)) rows t.rows held stars
  pub halves : (h : Half) → has t.rows h ≡ (if is_of (strings_of g.path.now) h then true else has_string (after m (merged_by g)) h.string)
  pub loose : AreLoose (next t.rows) g.path.now
  pub ticks : TicksUpTo (ticks_by m g) before t

-- all that went is at hand, and the map is that after the merger
abbrev pub IsUndoable : Way → List Half → Map → Merger → EndedParcel → MapRows → HalfRows → Held Half → Held Spoke → Type 0
IsUndoable (way.Along start end) path m g e rows table held stars =
    (can : CanUnmerge g.kept e.row e.place path start end g.moved.now e.strings.items rows table held stars) × (can.map ≡ m)
IsUndoable way.Round path m g e rows table held stars =
    (can : CanUnmergeIsland g.kept e.row e.place path g.moved.now e.strings.items rows table held stars) × (can.map ≡ m)

-- It can be taken back without memory, to the map, whose table was this one.
pub record CanTakeBack (m : Map) (g : Merger) (before : Table) (e : EndedParcel) (rows : MapRows) (t : Table) (held : Held Half) (stars : Held Spoke)
    : Type 0 where
  pub shared : HasShared g.way m before.rows g.kept g.ended g.path.now g.moved.now
  pub all : (h : Half) → has before.rows h ≡ has_string m h.string
  pub ends : KeepsEnds before.rows t.rows
  pub within : before.work ≤ greatest
  pub ticks : TicksUpTo (ticks_by m g) before t
  pub undo : IsUndoable g.way g.path.now m g e rows t.rows held stars

-- The merger is begun, or there is no memory and the map stays.
pub record Begins {E : Type 0} (m : Map) (g : Merger) (before : Table) (rows : MapRows) (t : Table) (held : Held Half) (stars : Held Spoke)
    (result : Result EndedParcel E) : Type 0 where
  pub begun : OnOk result (IsBegun m g before rows t held stars)
  pub back : IfOk result (λ e. CanTakeBack m g before e rows t held stars)
  pub err : OnErr result (FitMap m rows t.rows held stars)
  pub err_table : OnErr result (t ≡ before)

-- It is taken back, within the work that the merger may take.
pub record IsBack (m : Map) (g : Merger) (before : Table) (rows : MapRows) (t : Table) (held : Held Half) (stars : Held Spoke) : Type 0 where
  pub fits : FitMap m rows t.rows held stars
  pub all : (h : Half) → has t.rows h ≡ has_string m h.string
  pub work : TakesWork before t (work_bound m (after m (merged_by g)))
