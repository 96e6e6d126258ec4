use Rattle.std.proofs.Common.{◌∙◌, refl, subst, sym}
use Rattle.cad_rows.specs.declared.edits.Edit.TheVariants.{Move}
use Rattle.cad_map.specs.Effects.{after}
use Rattle.cad_map.proofs.CallerLemmas.{whole_valid}
use Rattle.cad_laws.specs.Areas.{HasPointAt}
use Rattle.cad_laws.specs.Tried.{IsTried}
use Rattle.cad_laws.proofs.CallerLemmas.{move-from, move-to}
use Rattle.cad_near.specs.KeptAreas.{HoldsAreas}
use Rattle.cad_near.specs.Near.{touched_of}
use Rattle.edit_records.proofs.AreasLeft.{KeepsNone, holds-still, left-same, returned-forgotten}
use Rattle.edit_records.proofs.GridEdits.{moved-on, on_map, same_numbers}
use Rattle.edit_records.proofs.areas.return_areas.Goals as goal

pub returns-then-not-keeps_any : goal.returns-then-not-keeps_any
returns-then-not-keeps_any g c =
    let m = g.M.MapView.map c.args.map.now in
    let mid = c.forget_ended.new.areas in
    returned-forgotten c.args.areas.now mid mid m c.args.edit.now (touched_of c.args.touched.now)
    c.requires.tried c.requires.touched c.forget_ended.ensures.gone c.forget_ended.ensures.others
    (subst (KeepsNone mid) c.as_slice.ensures.value (c.if-not-keeps_any.ensures.none refl))
    (λ f. left-same mid mid f refl) c.requires.held

pub at-requires : goal.at-requires
at-requires g c =
    let e = c.in-Move in
    on_map e.x e.y
    (moved-on (g.M.MapView.map c.args.map.now) e.point e.x e.y (rw e.is at c.requires.tried))

pub sweep-requires : goal.sweep-requires
sweep-requires g c = whole_valid (g.M.MapView.map c.args.map.now) c.requires.tried.valid

pub returns-in-Move : goal.returns-in-Move
returns-in-Move g c =
    let m = g.M.MapView.map c.args.map.now in
    let e = c.in-Move in
    let mid = c.forget_ended.new.areas in
    let tried : IsTried m (Move e.point e.x e.y) = rw e.is at c.requires.tried in
    let at = c.at.ensures ∙ same_numbers e.x e.y (moved-on m e.point e.x e.y tried) in
    let still =
    holds-still c.args.areas.now mid (after m c.args.edit.now) c.forget_ended.ensures.others
    c.requires.held in
    let held : HoldsAreas mid (after m (Move e.point e.x e.y)) = rw e.is at still in
    c.sweep.ensures (after m (Move e.point e.x e.y)) m
    (subst (HasPointAt m (after m (Move e.point e.x e.y)) e.point) (sym at)
    (move-to m e.point e.x e.y tried))
    (subst (HasPointAt m m e.point) (sym c.position.ensures) (move-from m e.point)) held

pub returns-in_default : goal.returns-in_default
returns-in_default g c =
    let m = g.M.MapView.map c.args.map.now in
    let new = c.forget_all.new.areas in
    returned-forgotten c.args.areas.now c.forget_ended.new.areas new m c.args.edit.now
    (touched_of c.args.touched.now) c.requires.tried c.requires.touched
    c.forget_ended.ensures.gone c.forget_ended.ensures.others
    (subst (KeepsNone new) c.as_slice-in_default.ensures.value c.forget_all.ensures.gone)
    c.forget_all.ensures.others c.requires.held
