use Rattle.std.proofs.Common.{◌∙◌, ◌++◌, ◌∷◌, [], ap, subst, sym, inl, inr}
use Rattle.std.specs.List.{Contains}
use Rattle.std.proofs.lemmas.List.Elements.{Contains-append_left, Contains-append_right}
use Rattle.cad_map.proofs.CallerLemmas.{Contains-first}
use Rattle.edit_records.proofs.TouchedLists.{faces-some, face-along}
use Rattle.edit_records.proofs.touched.add_faces.Goals as goal

pub unwrap-left-requires : goal.unwrap-left-requires
unwrap-left-requires g c =
    faces-some (g.M.MapView.map c.args.map.now) c.requires.valid c.args.string c.requires.there c.left_right.result c.left_right.ensures.none

pub returns-clause-beside : goal.returns-clause-beside
returns-clause-beside g c s b told among along =
    let faces = c.unwrap-left.result in
    let has = rw c.unwrap-left.ensures at c.left_right.ensures.some in
    let is = c.in_ok-push-2.ensures.items ∙ ap (λ l. l ++ faces.1 ∷ []) c.in_ok-push.ensures.items in
    subst (λ l. Contains l b.face) (sym is) (elim (face-along (g.M.MapView.map c.args.map.now) c.requires.valid c.args.string faces.0 faces.1 s b has told among along) [
      | inl same ↦ subst (Contains ((c.args.faces.now.items ++ faces.0 ∷ []) ++ faces.1 ∷ [])) same
          (Contains-append_left (c.args.faces.now.items ++ faces.0 ∷ []) (faces.1 ∷ []) faces.0 (Contains-append_right c.args.faces.now.items (faces.0 ∷ []) faces.0 (Contains-first faces.0 [])))
      | inr same ↦ subst (Contains ((c.args.faces.now.items ++ faces.0 ∷ []) ++ faces.1 ∷ [])) same
          (Contains-append_right (c.args.faces.now.items ++ faces.0 ∷ []) (faces.1 ∷ []) faces.1 (Contains-first faces.1 []))
    ])
