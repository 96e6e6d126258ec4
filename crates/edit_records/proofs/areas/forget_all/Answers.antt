use Rattle.std.proofs.Common.{◌≡◌, refl, sym, subst, take, None}
use Rattle.std.specs.List.{AllByRecursion}
use Rattle.std.proofs.lemmas.List.{take_all, take_more}
use Rattle.cad_rows.specs.declared.names.Face.{Face}
use Rattle.cad_map.proofs.CallerLemmas.{All-push}
use Rattle.cad_near.specs.KeptAreas.{area_at}
use Rattle.edit_records.proofs.AreasLeft.{KeepsNone, left-both, left-forgotten, left-same, nones-left}
use Rattle.edit_records.proofs.areas.forget_all.Goals as goal

pub loop-face-init : goal.loop-face-init
loop-face-init c =
    record { gone = tt; others = λ f. left-same c.args.areas.now c.args.areas.now f refl }

pub loop-face-preserved : goal.loop-face-preserved
loop-face-preserved c =
    let it = c.loop-face in
    let faces = c.args.faces.now in
    let new = c.forget.new.self in
    let left =
    left-forgotten it.areas new c.face-item.result c.forget.ensures.here
    c.forget.ensures.elsewhere in
    let none : Face → Type 0 = λ f. area_at new f ≡ None in
    record {
      gone = subst (AllByRecursion none)
          (sym (take_more faces it.face-index c.face-item.result c.loop-face-test.true))
          (All-push none (take it.face-index faces) _
          (nones-left it.areas new (take it.face-index faces) left it.invariant.gone)
          (subst none c.face-item.is c.forget.ensures.here));
      others = λ f. left-both c.args.areas.now it.areas new f (it.invariant.others f) (left f);
    }

pub returns : goal.returns
returns c = record {
  gone = subst (KeepsNone c.loop-face.areas)
      (take_all c.loop-face.face-index c.args.faces.now c.loop-face-test.false)
      c.loop-face.invariant.gone;
  others = c.loop-face.invariant.others;
}
