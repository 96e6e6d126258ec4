-- A parcel that came by a division or an enclosure, by its record: what it tells, and how it is taken out.
use Rattle.std.specs.Prelude.{◌≡◌, ◌<◌, ℕ, ⊤, List, length, Result, OnOk, OnErr}
use Rattle.std.specs.Global.{Vec}
use Rattle.cad_rows.specs.declared.names.Face.{Face}
use Rattle.cad_rows.specs.declared.names.Face.TheVariants.{Parcel}
use Rattle.cad_map.specs.Effects.{after}
use Rattle.cad_map.specs.Map.{Map}
use Rattle.half_table.specs.declared.half.Half.{Half}
use Rattle.half_table.specs.Count.{ticked}
use Rattle.half_table.specs.Rows.{Table, has, next}
use Rattle.half_paths.specs.Loose.{AreLoose}
use Rattle.key_lists.specs.Held.{Held}
use Rattle.cad_laws.specs.Tried.{IsTried}
use Rattle.cad_surgery.specs.declared.edits.added.Added.{Added}
use Rattle.cad_surgery.specs.declared.edits.given.NewParcel.{NewParcel}
use Rattle.cad_surgery.specs.declared.edits.merging.Way.{Way}
use Rattle.cad_surgery.specs.declared.edits.merging.Way.TheVariants as way
use Rattle.cad_surgery.specs.Divisions.{divided_by}
use Rattle.cad_surgery.specs.Enclosures.{enclosed_by}
use Rattle.cad_surgery.specs.NewParcels.{edit_by, ticks_out}
use Rattle.edit_records.specs.HeldChains.{HeldChain, HeldIsland}
use Rattle.edit_records.specs.declared.record.SmallRecord.{SmallRecord}
use Rattle.edit_records.specs.declared.record.SmallRecord.TheVariants as change
use Rattle.cad_map.specs.declared.map_rows.MapRows.{MapRows}
use Rattle.map_parts.specs.declared.stars.Spoke.{Spoke}
use Rattle.map_parts.specs.Dividing.{CanBeginUndivide, divided}
use Rattle.map_parts.specs.Enclosing.{CanBeginOpen, enclosed}
use Rattle.map_parts.specs.Splitting.{FitMap}

-- the record is of a division or an enclosure
abbrev pub IsOfParcel : SmallRecord → Type 0
IsOfParcel (change.Divide face chain strings parcel label source start end moved) = ⊤
IsOfParcel (change.Enclose face points strings parcel label source moved) = ⊤
IsOfParcel _ = ⊥

-- the record of a parcel that came so, with one half of each ring that passed over to it
abbrev pub added_record : Way → NewParcel → Vec Half → SmallRecord
added_record (way.Along start end) d moved =
    change.Divide d.face d.points.now d.strings.now d.parcel d.label.now d.source start end moved
added_record way.Round d moved =
    change.Enclose d.face d.points.now d.strings.now d.parcel d.label.now d.source moved

-- the record is that of such a parcel
abbrev pub TellsAdded : SmallRecord → Added → Type 0
TellsAdded r t = (moved : Vec Half) × (moved.items ≡ t.moved.now) × (r ≡ added_record t.way t.new moved)

-- what the record tells of the map after it: what follows the chain, and the parcel's other rings
abbrev pub HeldParcel : Way → Map → Face → List ℕ → List Half → Type 0
HeldParcel (way.Along start end) m face points moved = HeldChain m face points start end moved
HeldParcel way.Round m face points moved = HeldIsland m face points moved

-- The second map is that after the edit, which was tried, and the halves name the rings of its parcel
-- but the one along its strings.
pub record IsAddedBy (w : Way) (m now : Map) (d : NewParcel) (moved : List Half) : Type 0 where
  pub tried : IsTried m (edit_by w d)
  pub is : now ≡ after m (edit_by w d)
  pub named : HeldIsland now (Parcel d.parcel) d.points.now moved

-- what is asked where it goes, and the maps are those before and after the edit
abbrev pub IsFound : Way → List Half → Map → NewParcel → List Half → MapRows → Table → Held Half → Held Spoke → Type 0
IsFound (way.Along start end) path m d moved rows table held stars =
    (can : CanBeginUndivide d.face d.strings.now d.parcel path moved rows table.rows held stars) × (can.map ≡ m) × (divided can.is ≡ after m (divided_by d))
IsFound way.Round path m d moved rows table held stars =
    (can : CanBeginOpen d.face d.strings.now d.parcel path moved rows table.rows held stars) × (can.map ≡ m) × (enclosed can.is ≡ after m (enclosed_by d))

-- the parcel can go, to the map
pub record CanGoOut (m : Map) (w : Way) (d : NewParcel) (path moved : List Half) (rows : MapRows) (table : Table) (held : Held Half) (stars : Held Spoke) : Type 0 where
  pub some : 0 < length path
  pub out : IsFound w path m d moved rows table held stars

-- It is out, with its strings in the table still, loose, or there is no memory and the map stays.
pub record GoesOut {A E : Type 0} (m : Map) (w : Way) (d : NewParcel) (path moved : List Half) (before : Table)
    (rows : MapRows) (t : Table) (held : Held Half) (stars : Held Spoke) (result : Result A E) : Type 0 where
  pub fits : OnOk result (FitMap m rows t.rows held stars)
  pub loose : OnOk result (AreLoose (next t.rows) path)
  pub work : OnOk result (t.work ≡ ticked (ticks_out w path moved before.rows) before.work)
  pub halves : (h : Half) → has t.rows h ≡ has before.rows h
  pub err : OnErr result (FitMap (after m (edit_by w d)) rows t.rows held stars)
  pub err_table : OnErr result (t ≡ before)
