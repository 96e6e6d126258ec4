use Rattle.std.proofs.Common.{ℕ, sym, subst}
use Rattle.std.specs.Prelude.{IfNone}
use Rattle.cad_map.specs.Views.{IsNoSide}
use Rattle.edit_records.proofs.TouchedLists.{face-some, face-is}
use Rattle.edit_records.proofs.touched.face_into.Goals as goal

pub unwrap-requires : goal.unwrap-requires
unwrap-requires g c =
    let m = g.M.MapView.map c.args.map.now in
    let there = c.requires.there in
    face-some m c.requires.valid c.args.point there.0 there.1 c.face_of.result
    (subst (λ (q : ℕ). IfNone c.face_of.result (IsNoSide m (q, c.args.point))) (sym there.2) c.face_of.ensures.none)

pub returns : goal.returns
returns g c b among out =
    face-is (g.M.MapView.map c.args.map.now) c.requires.valid (c.args.far, c.args.point) c.unwrap.result b (rw c.unwrap.ensures at c.face_of.ensures.some) among out
