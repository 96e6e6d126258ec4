use Rattle.std.proofs.Common.{◌∙◌, ap, map, refl, sym, subst}
use Rattle.std.proofs.lemmas.Result.{IfOk-weaker}
use Rattle.cad_rows.specs.declared.names.Face.TheVariants.{Parcel}
use Rattle.cad_map.specs.Effects.{after}
use Rattle.half_table.specs.Half.{forward_of}
use Rattle.cad_laws.specs.Tried.{IsTried}
use Rattle.map_parts.specs.Parts.{FitTogether, map_of}
use Rattle.cad_surgery.specs.declared.edits.merging.Way.{Way}
use Rattle.cad_surgery.specs.AddedParcels.{HeldParcel}
use Rattle.cad_surgery.specs.Divisions.{HasCrossing}
use Rattle.cad_surgery.specs.Enclosures.{parcel_by}
use Rattle.cad_surgery.specs.NewParcels.{Comes, edit_by}
use Rattle.cad_surgery.proofs.ComingParcels.{same-edit, comes-so}
use Rattle.cad_surgery.proofs.CrossedRing.{can-be}
use Rattle.cad_surgery.proofs.DividedAgain.{crossing}
use Rattle.cad_surgery.proofs.edits.added.coming_again.Goals as goal

pub rows_along-requires : goal.rows_along-requires
rows_along-requires g c =
    let m = map_of c.args.draft.now in
    (can-be m c.args.told.now.new (subst (λ (w : Way). IsTried m (edit_by w c.args.told.now.new)) c.in-Along.is c.requires.tried)).as_many

pub returns-in_ok-moved-in-Along-clause-edit : goal.returns-in_ok-moved-in-Along-clause-edit
returns-in_ok-moved-in-Along-clause-edit g c = IfOk-weaker c.coming_with.result _ _ (λ k it. same-edit it) c.coming_with.ensures

pub returns-in_ok-moved-in-Along-clause-comes : goal.returns-in_ok-moved-in-Along-clause-comes
returns-in_ok-moved-in-Along-clause-comes g c =
    let m = map_of c.args.draft.now in
    let rows = c.args.draft.now.table.rows in
    let t = c.args.told.now in
    let e = c.in-Along in
    let tried = subst (λ (w : Way). IsTried m (edit_by w t.new)) e.is c.requires.tried in
    let held = subst (λ (w : Way). HeldParcel w (after m (edit_by w t.new)) (Parcel t.new.parcel) t.new.points.now t.moved.now) e.is c.requires.held in
    let fit = subst FitTogether c.draft.view_is c.draft.invariant in
    IfOk-weaker c.coming_with.result _ _ (λ k it. comes-so it m rows (subst (λ (w : Way). Comes w m rows t.new c.in_ok-strings-in-Along.strings.items (parcel_by t.new)
    (map forward_of t.new.strings.now) c.in_ok-moved-in-Along.moved.items) (sym e.is) (record {
      strings_are = c.in_ok-strings-in-Along.ensures;
      parcel_is = refl;
      path_is = refl;
      crossing = subst (HasCrossing m rows t.new e.start e.end) (sym c.in_ok-moved-in-Along.ensures.items)
          (crossing m t.new tried rows fit.ends e.start e.end t.moved.now held);
    }))) c.coming_with.ensures

pub coming_round-requires : goal.coming_round-requires
coming_round-requires g c = subst (λ (w : Way). IsTried (map_of c.args.draft.now) (edit_by w c.args.told.now.new)) c.in-Round.is c.requires.tried

pub returns-in-Round-clause-edit : goal.returns-in-Round-clause-edit
returns-in-Round-clause-edit g c =
    IfOk-weaker c.coming_round.result _ _ (λ k is. is ∙ ap (λ (w : Way). edit_by w c.args.told.now.new) (sym c.in-Round.is)) c.coming_round.ensures.edit
