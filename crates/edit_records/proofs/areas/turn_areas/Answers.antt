use Rattle.std.proofs.Common.{◌≡◌, ◌∙◌, ap, refl, subst, sym, Some}
use Rattle.std.specs.Option.{option_copied}
use Rattle.cad_rows.specs.declared.edits.Edit.TheVariants.{Move, Split}
use Rattle.cad_map.specs.Effects.{after}
use Rattle.cad_map.specs.Map.{string_of}
use Rattle.cad_map.proofs.CallerLemmas.{whole_valid}
use Rattle.cad_laws.specs.Areas.{HasPointAt}
use Rattle.cad_laws.specs.Tried.{IsTried}
use Rattle.cad_laws.proofs.CallerLemmas.{move-from, move-to, split-between, split-lies, split-straight, whole-after}
use Rattle.cad_near.specs.Near.{touched_of}
use Rattle.edit_records.proofs.AreasLeft.{KeepsNone, holds-still, left-same, turned-forgotten}
use Rattle.edit_records.proofs.GridEdits.{lent-found, moved-on, on_map, same_numbers, split-on, split-there}
use Rattle.edit_records.proofs.areas.turn_areas.Goals as goal

pub at-requires : goal.at-requires
at-requires g c =
    let e = c.in-Move in
    on_map e.x e.y
    (moved-on (g.M.MapView.map c.args.map.now) e.point e.x e.y (rw e.is at c.requires.tried))

pub sweep-requires : goal.sweep-requires
sweep-requires g c = whole_valid (g.M.MapView.map c.args.map.now) c.requires.tried.valid

pub returns-in-Move : goal.returns-in-Move
returns-in-Move g c =
    let m = g.M.MapView.map c.args.map.now in
    let e = c.in-Move in
    let tried : IsTried m (Move e.point e.x e.y) = rw e.is at c.requires.tried in
    let at = c.at.ensures ∙ same_numbers e.x e.y (moved-on m e.point e.x e.y tried) in
    let held =
    holds-still c.args.areas.now c.forget_ended.new.areas m c.forget_ended.ensures.others
    c.requires.held in
    rw e.is (c.sweep.ensures m (after m (Move e.point e.x e.y))
    (subst (HasPointAt m m e.point) (sym c.position.ensures) (move-from m e.point))
    (subst (HasPointAt m (after m (Move e.point e.x e.y)) e.point) (sym at)
    (move-to m e.point e.x e.y tried)) held)

pub returns-then-not-keeps_any : goal.returns-then-not-keeps_any
returns-then-not-keeps_any g c =
    let m = g.M.MapView.map c.args.map.now in
    let mid = c.forget_ended.new.areas in
    turned-forgotten c.args.areas.now mid mid m c.args.edit.now (touched_of c.args.touched.now)
    c.requires.tried c.requires.touched c.forget_ended.ensures.gone c.forget_ended.ensures.others
    (subst (KeepsNone mid) c.as_slice.ensures.value (c.if-not-keeps_any.ensures.none refl))
    (λ f. left-same mid mid f refl) c.requires.held

pub unwrap-row-requires : goal.unwrap-row-requires
unwrap-row-requires g c =
    let m = g.M.MapView.map c.args.map.now in
    let e = c.in-Split in
    let there =
    split-there m e.string e.point e.x e.y e.first e.second (rw e.is at c.requires.tried) in
    lent-found c.string.result there.0 (c.string.ensures ∙ there.1)

pub at-requires-in-Split : goal.at-requires-in-Split
at-requires-in-Split g c =
    let e = c.in-Split in
    on_map e.x e.y
    (split-on (g.M.MapView.map c.args.map.now) e.string e.point e.x e.y e.first e.second
    (rw e.is at c.requires.tried))

pub bend-requires : goal.bend-requires
bend-requires g c = whole_valid (g.M.MapView.map c.args.map.now) c.requires.tried.valid

pub straighten-requires : goal.straighten-requires
straighten-requires g c = whole_valid (g.M.MapView.map c.args.map.now) c.requires.tried.valid

pub returns-in-Split : goal.returns-in-Split
returns-in-Split g c =
    let m = g.M.MapView.map c.args.map.now in
    let e = c.in-Split in
    let edit = Split e.string e.point e.x e.y e.first e.second in
    let tried : IsTried m edit = rw e.is at c.requires.tried in
    let row = c.unwrap-row.result.now in
    let is : string_of m e.string ≡ Some row =
    sym c.string.ensures ∙ ap option_copied c.unwrap-row.ensures in
    let at =
    c.at-in-Split.ensures
    ∙ same_numbers e.x e.y (split-on m e.string e.point e.x e.y e.first e.second tried) in
    let held =
    holds-still c.args.areas.now c.forget_ended.new.areas m c.forget_ended.ensures.others
    c.requires.held in
    rw e.is (c.bend.ensures (after m edit) e.point
    (whole-after m edit tried.valid tried.given tried.allowed tt)
    (split-straight m e.string e.point e.x e.y e.first e.second row tried is)
    (split-between m e.string e.point e.x e.y e.first e.second row tried.valid tried.given
    tried.allowed is).1
    (split-lies m e.string e.point e.x e.y e.first e.second row tried is ∙ sym at) held)

pub returns-in-None : goal.returns-in-None
returns-in-None g c =
    let m = g.M.MapView.map c.args.map.now in
    let new = c.forget_all.new.areas in
    turned-forgotten c.args.areas.now c.forget_ended.new.areas new m c.args.edit.now
    (touched_of c.args.touched.now) c.requires.tried c.requires.touched
    c.forget_ended.ensures.gone c.forget_ended.ensures.others
    (subst (KeepsNone new) c.as_slice-in-None.ensures.value c.forget_all.ensures.gone)
    c.forget_all.ensures.others c.requires.held

pub returns-in_default : goal.returns-in_default
returns-in_default g c =
    let m = g.M.MapView.map c.args.map.now in
    let new = c.forget_all-in_default.new.areas in
    turned-forgotten c.args.areas.now c.forget_ended.new.areas new m c.args.edit.now
    (touched_of c.args.touched.now) c.requires.tried c.requires.touched
    c.forget_ended.ensures.gone c.forget_ended.ensures.others
    (subst (KeepsNone new) c.as_slice-in_default.ensures.value c.forget_all-in_default.ensures.gone)
    c.forget_all-in_default.ensures.others c.requires.held
