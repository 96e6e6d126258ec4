-- A parcel that comes by a division or an enclosure: how it begins to come, and goes out again.
use Rattle.std.specs.Prelude.{◌≡◌, ◌<◌, ◌≤◌, ◌+◌, ◌*◌, ℕ, ⊤, true, false, if◌then◌else◌, List, [], ◌∷◌, map, length, Result, OnOk, OnErr}
use Rattle.cad_rows.specs.declared.edits.Edit.{Edit}
use Rattle.cad_rows.specs.declared.edits.Edit.TheVariants.{Divide, Enclose}
use Rattle.cad_rows.specs.declared.names.Face.TheVariants.{Parcel}
use Rattle.cad_rows.specs.declared.rows.ParcelRow.{ParcelRow}
use Rattle.cad_rows.specs.declared.rows.StringRow.{StringRow}
use Rattle.cad_map.specs.Effects.{after}
use Rattle.cad_map.specs.Map.{Map, has_string}
use Rattle.cad_map.specs.Rings.{HasWholeRings}
use Rattle.half_table.specs.declared.half.Half.{Half}
use Rattle.half_table.specs.Count.{greatest}
use Rattle.half_table.specs.Half.{forward_of, twin}
use Rattle.half_table.specs.Rows.{HalfRows, Table, has, next, cycle}
use Rattle.half_paths.specs.Path.{AreDifferent, strings_of}
use Rattle.half_paths.specs.Loose.{is_of, AreLoose}
use Rattle.key_lists.specs.Held.{Held}
use Rattle.cad_laws.specs.Counts.{sides_of_face}
use Rattle.cad_laws.specs.Local.{IsShown}
use Rattle.cad_laws.specs.Tried.{IsTried}
use Rattle.cad_surgery.specs.declared.edits.coming.Coming.{Coming}
use Rattle.cad_surgery.specs.declared.edits.given.Kept.{Kept}
use Rattle.cad_surgery.specs.declared.edits.given.Kind.{Kind}
use Rattle.cad_surgery.specs.declared.edits.given.Kind.TheVariants as kind
use Rattle.cad_surgery.specs.declared.edits.given.NewParcel.{NewParcel}
use Rattle.cad_surgery.specs.declared.edits.merging.Way.{Way}
use Rattle.cad_surgery.specs.declared.edits.merging.Way.TheVariants as way
use Rattle.cad_surgery.specs.Divisions.{ComesAcross, divided_by}
use Rattle.cad_surgery.specs.Enclosures.{ComesRound, enclosed_by, parcel_by}
use Rattle.cad_surgery.specs.Work.{TicksUpTo}
use Rattle.cad_map.specs.declared.map_rows.MapRows.{MapRows}
use Rattle.map_parts.specs.declared.stars.Spoke.{Spoke}
use Rattle.map_parts.specs.Dividing.{CanUndivide}
use Rattle.map_parts.specs.Enclosing.{CanOpen}
use Rattle.map_parts.specs.Relabelled.{cycles_length}
use Rattle.map_parts.specs.Splitting.{FitMap}

-- the edit
abbrev pub edit_by : Way → NewParcel → Edit
edit_by (way.Along start end) d = divided_by d
edit_by way.Round d = enclosed_by d

-- whether it comes by a division or by an enclosure
abbrev pub edit_as : Kind → NewParcel → Edit
edit_as kind.Divide d = divided_by d
edit_as kind.Enclose d = enclosed_by d

-- the edit is a division or an enclosure
abbrev pub BringsParcel : Edit → Type 0
BringsParcel (Divide face chain strings parcel label source) = ⊤
BringsParcel (Enclose face points strings parcel label source) = ⊤
BringsParcel _ = ⊥

-- what its record keeps of it
abbrev pub kept_by : NewParcel → Kept
kept_by d = record { points = d.points.now; strings = d.strings.now; label = d.label.now }

-- what comes with it: its rows, and the halves
abbrev pub Comes : Way → Map → HalfRows → NewParcel → List StringRow → ParcelRow → List Half → List Half → Type 0
Comes (way.Along start end) m rows d added row path moved = ComesAcross m rows d start end moved added row path
Comes way.Round m rows d added row path moved = ComesRound m rows d added row path moved

-- these are the rows and the halves of a parcel whose strings have such rows and lead so
pub record IsComing (d : NewParcel) (added : List StringRow) (w : Way) (moved : List Half) (c : Coming) : Type 0 where
  pub strings_are : c.strings.items ≡ added
  pub parcel_is : c.parcel ≡ parcel_by d
  pub way_is : c.lead.way ≡ w
  pub path_is : c.lead.path.items ≡ map forward_of d.strings.now
  pub moved_are : c.lead.moved.items ≡ moved

-- These are the parts of the map, at rest, on which it is tried.
pub record IsNewOn (m : Map) (w : Way) (d : NewParcel) (path moved : List Half) (added : List StringRow) (row : ParcelRow)
    (rows : MapRows) (table : Table) (held : Held Half) (stars : Held Spoke) : Type 0 where
  pub tried : IsTried m (edit_by w d)
  pub comes : Comes w m table.rows d added row path moved
  pub fits : FitMap m rows table.rows held stars
  pub all : (h : Half) → has table.rows h ≡ has_string m h.string

-- as many ticks as it takes on the table at the most, and as many as its way back does
abbrev pub ticks_by : Map → Way → NewParcel → ℕ
ticks_by m w d = 4 * length d.strings.now + 1 + sides_of_face (Parcel d.parcel) (after m (edit_by w d))

-- The parts are those of the map after it.
pub record IsPut (m : Map) (w : Way) (d : NewParcel) (before : Table) (rows : MapRows) (t : Table) (held : Held Half) (stars : Held Spoke) : Type 0 where
  pub whole : HasWholeRings (after m (edit_by w d))
  pub fits : FitMap (after m (edit_by w d)) rows t.rows held stars
  pub all : (h : Half) → has t.rows h ≡ has_string (after m (edit_by w d)) h.string
  pub ticks : TicksUpTo (ticks_by m w d) before t

-- what is asked where it is taken out
abbrev pub IsUndoable : Way → List Half → Map → NewParcel → List Half → MapRows → HalfRows → Held Half → Held Spoke → Type 0
IsUndoable (way.Along start end) path m d moved rows table held stars =
    (can : CanUndivide d.face d.strings.now d.parcel path moved rows table held stars) × (can.map ≡ m)
IsUndoable way.Round path m d moved rows table held stars =
    (can : CanOpen d.face d.strings.now d.parcel path moved rows table held stars) × (can.map ≡ m)

-- and as many ticks as that takes
abbrev pub ticks_out : Way → List Half → List Half → HalfRows → ℕ
ticks_out (way.Along start end) (first ∷ others) moved rows =
    cycles_length rows moved + (length (cycle rows first) + (length others + 2) + (2 + 2 * length others))
ticks_out way.Round (first ∷ others) moved rows = cycles_length rows moved + (length (cycle rows (twin first)) + (length others + 1))
ticks_out (way.Along start end) [] moved rows = 0
ticks_out way.Round [] moved rows = 0

-- the strings of the path are in the table beside those of the map
abbrev pub AreBeside : List Half → Map → HalfRows → Type 0
AreBeside path m rows = (h : Half) → has rows h ≡ (if is_of (strings_of path) h then true else has_string m h.string)

-- It can be taken out without memory, and the map is the one before, whose table was this one.
pub record CanTakeOut (m : Map) (w : Way) (d : NewParcel) (path moved : List Half) (before : Table)
    (rows : MapRows) (t : Table) (held : Held Half) (stars : Held Spoke) : Type 0 where
  pub some : 0 < length path
  pub long : length path ≡ length d.strings.now
  pub new : (h : Half) → IsShown m h → is_of (strings_of path) h ≡ false
  pub different : AreDifferent path
  pub beside : AreBeside path m t.rows
  pub ticks : TicksUpTo (ticks_by m w d) before t
  pub undo : IsUndoable w path m d moved rows t.rows held stars
  pub few : ticks_out w path moved t.rows ≤ ticks_by m w d

-- It has begun, or there is no memory and the map stays.
pub record Begins {A E : Type 0} (m : Map) (w : Way) (d : NewParcel) (path moved : List Half) (before : Table)
    (rows : MapRows) (t : Table) (held : Held Half) (stars : Held Spoke) (result : Result A E) : Type 0 where
  pub within : before.work ≤ greatest
  pub put : OnOk result (IsPut m w d before rows t held stars)
  pub back : OnOk result (CanTakeOut m w d path moved before rows t held stars)
  pub err : OnErr result (FitMap m rows t.rows held stars)
  pub err_rows : OnErr result (t.rows ≡ before.rows)
  pub err_ticks : OnErr result (TicksUpTo (ticks_by m w d) before t)

-- It is out, and its strings are in the table still, loose.
pub record IsOut (m : Map) (w : Way) (d : NewParcel) (path : List Half) (before : Table)
    (rows : MapRows) (t : Table) (held : Held Half) (stars : Held Spoke) : Type 0 where
  pub fits : FitMap m rows t.rows held stars
  pub beside : AreBeside path m t.rows
  pub loose : AreLoose (next t.rows) path
  pub ticks : TicksUpTo (ticks_by m w d + ticks_by m w d) before t
