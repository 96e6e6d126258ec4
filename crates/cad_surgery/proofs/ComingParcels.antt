-- What comes with a division or an enclosure, and what its record tells of it.
use Rattle.std.proofs.Common.{◌≡◌, ap, refl, sym, subst, List, map}
use Rattle.std.specs.Prelude.{Result}
use Rattle.std.specs.Global.{Vec}
use Rattle.cad_rows.specs.declared.names.Face.TheVariants.{Parcel}
use Rattle.cad_rows.specs.declared.refusals.Refusal.{Refusal}
use Rattle.cad_rows.specs.declared.rows.ParcelRow.{ParcelRow}
use Rattle.cad_rows.specs.declared.rows.StringRow.{StringRow}
use Rattle.cad_map.specs.Effects.{after}
use Rattle.cad_map.specs.Map.{Map}
use Rattle.half_table.specs.declared.half.Half.{Half}
use Rattle.half_table.specs.Half.{forward_of}
use Rattle.half_table.specs.Rows.{HalfRows}
use Rattle.cad_laws.specs.Tried.{IsTried}
use Rattle.cad_surgery.specs.declared.edits.coming.Coming.{Coming}
use Rattle.cad_surgery.specs.declared.edits.given.NewParcel.{NewParcel}
use Rattle.cad_surgery.specs.declared.edits.merging.Way.{Way}
use Rattle.cad_surgery.specs.declared.edits.merging.Way.TheVariants as way
use Rattle.cad_surgery.specs.AddedParcels.{HeldParcel, added_record}
use Rattle.cad_surgery.specs.Enclosures.{parcel_by}
use Rattle.cad_surgery.specs.NewParcels.{Comes, IsComing, edit_by}
use Rattle.cad_surgery.specs.Proper.{IsProper}
use Rattle.cad_surgery.specs.Trials.{IsPlayed}
use Rattle.edit_records.specs.Record.{edit_of, Holds}
use Rattle.map_parts.specs.Parts.{Parts, FitTogether, map_of, kept_at}
use Rattle.cad_surgery.proofs.HeldDivisions.{holds}
use Rattle.cad_surgery.proofs.OpenedDraft.{names}

module _ {d : NewParcel} {added : List StringRow} {w : Way} {moved : List Half} {c : Coming} (it : IsComing d added w moved c) where
  -- it is the edit that has this way
  pub same-edit : edit_by c.lead.way d ≡ edit_by w d
  same-edit = ap (λ (v : Way). edit_by v d) it.way_is

  -- and it comes with what is told of it
  pub comes-so : (m : Map) (rows : HalfRows) → Comes w m rows d added (parcel_by d) (map forward_of d.strings.now) moved
      → Comes c.lead.way m rows d c.strings.items c.parcel c.lead.path.items c.lead.moved.items
  comes-so m rows =
      subst (λ (q : Way × List StringRow × ParcelRow × List Half × List Half). Comes q.0 m rows d q.1 q.2 q.3 q.4)
      (λ i. (sym it.way_is i, sym it.strings_are i, sym it.parcel_is i, sym it.path_is i, sym it.moved_are i))

-- what the record is to tell of the map after it was so
pub held-so : (d : Parts) → FitTogether d → IsProper (map_of d) d.table.rows (kept_at d) → (e : NewParcel) (w : Way) → IsTried (map_of d) (edit_by w e)
    → (added : List StringRow) (row : ParcelRow) (path moved : List Half) → Comes w (map_of d) d.table.rows e added row path moved
    → HeldParcel w (after (map_of d) (edit_by w e)) (Parcel e.parcel) e.points.now moved
held-so d fit proper e (way.Along start end) tried added row path moved comes = holds d fit proper e tried start end moved comes.crossing
held-so d fit proper e way.Round tried added row path moved comes = names d fit e tried moved comes.holes

-- the record of a parcel that came so is of its edit
pub added-edit : (w : Way) (d : NewParcel) (moved : Vec Half) → edit_of (added_record w d moved) ≡ edit_by w d
added-edit (way.Along start end) d moved = refl
added-edit way.Round d moved = refl

-- and it tells what was so
pub added-holds : (w : Way) (d : NewParcel) (moved : Vec Half) (m : Map) → HeldParcel w (after m (edit_by w d)) (Parcel d.parcel) d.points.now moved.items
    → Holds (added_record w d moved) m
added-holds (way.Along start end) d moved m held = held
added-holds way.Round d moved m held = held

pub added-held : (w : Way) (d : NewParcel) (moved : Vec Half) (m : Map) → Holds (added_record w d moved) m
    → HeldParcel w (after m (edit_by w d)) (Parcel d.parcel) d.points.now moved.items
added-held (way.Along start end) d moved m holds = holds
added-held way.Round d moved m holds = holds

-- the same edit, played by another name of its way
pub played-as : {A : Type 0} {w v : Way} (d : NewParcel) {old new : Parts} {r : Result A Refusal} → w ≡ v → IsPlayed (edit_by w d) old new r → IsPlayed (edit_by v d) old new r
played-as d {old} {new} {r} same = subst (λ (w : Way). IsPlayed (edit_by w d) old new r) same
