use Rattle.std.proofs.Common.{◌≡◌, inl, inr, ap, sym, refl, subst, ◌∙◌, ℕ, arith}
use Rattle.cad_rows.specs.declared.edits.Edit.{Edit}
use Rattle.cad_rows.specs.declared.edits.Edit.TheVariants.{AddSource, AddPoint, DropPoint, Split, Join, Divide, Merge, Move, Attach, Detach, Rename, Enclose}
use Rattle.cad_map.proofs.CallerLemmas.{allowed, two-joined, meet-at, can-divide, can-enclose}
use Rattle.cad_laws.specs.Tried.{IsTried}
use Rattle.edit_records.specs.GridEdits.{come_by}
use Rattle.edit_records.specs.GridLists.{AreEntries}
use Rattle.edit_records.proofs.GridEdits.{quiet-come, if-ok, beside, same_numbers, on_map, added-on, split-on, moved-on}
use Rattle.edit_records.proofs.grid_edits.coming.Goals as goal

pub at-requires : goal.at-requires
at-requires g c =
    let e = c.in-AddPoint in
    on_map e.x e.y (added-on (g.M.MapView.map c.args.map.now) e.point e.x e.y (rw e.is at c.requires))

pub at-requires-in-Split : goal.at-requires-in-Split
at-requires-in-Split g c =
    let e = c.in-Split in
    on_map e.x e.y (split-on (g.M.MapView.map c.args.map.now) e.string e.point e.x e.y e.first e.second (rw e.is at c.requires))

pub at-requires-in-Move : goal.at-requires-in-Move
at-requires-in-Move g c =
    let e = c.in-Move in
    on_map e.x e.y (moved-on (g.M.MapView.map c.args.map.now) e.point e.x e.y (rw e.is at c.requires))

pub halves-requires : goal.halves-requires
halves-requires g c =
    let m = g.M.MapView.map c.args.map.now in
    let e = c.in-Split in
    let tried : IsTried m (Split e.string e.point e.x e.y e.first e.second) = rw e.is at c.requires in
    let at = c.at-in-Split.ensures ∙ same_numbers e.x e.y (split-on m e.string e.point e.x e.y e.first e.second tried) in
    subst (IsTried m) (λ i. Split e.string e.point (sym at i).x (sym at i).y e.first e.second) tried

pub far_ends-from-requires-clause-two : goal.far_ends-from-requires-clause-two
far_ends-from-requires-clause-two g c =
    let m = g.M.MapView.map c.args.map.now in
    let e = c.in-Join in
    let tried : IsTried m (Join e.point e.string) = rw e.is at c.requires in
    two-joined m e.point e.string (allowed m (Join e.point e.string) tried.allowed).not_degree_two

pub strings_of_chain-requires : goal.strings_of_chain-requires
strings_of_chain-requires g c =
    let m = g.M.MapView.map c.args.map.now in
    let e = c.in-Divide in
    let edit = Divide e.face e.chain e.strings e.parcel e.label e.source in
    let tried : IsTried m edit = rw e.is at c.requires in
    let many = (can-divide m e.face e.chain e.strings e.parcel e.label e.source tried.given (allowed m edit tried.allowed)).as_many in
    rw (c.as_slice.ensures, c.as_slice-in-Divide.ensures) (omega (arith, many))

pub strings_of_chain-requires-in-Enclose : goal.strings_of_chain-requires-in-Enclose
strings_of_chain-requires-in-Enclose g c =
    let m = g.M.MapView.map c.args.map.now in
    let e = c.in-Enclose in
    let edit = Enclose e.face e.points e.strings e.parcel e.label e.source in
    let tried : IsTried m edit = rw e.is at c.requires in
    let many = (can-enclose m e.face e.points e.strings e.parcel e.label e.source tried.given (allowed m edit tried.allowed)).as_many in
    rw (c.as_slice-in-Enclose.ensures, c.as_slice-in-Enclose-2.ensures) (omega (arith, many))

pub returns-in-AddPoint : goal.returns-in-AddPoint
returns-in-AddPoint g c =
    let m = g.M.MapView.map c.args.map.now in
    let e = c.in-AddPoint in
    let at = c.at.ensures ∙ same_numbers e.x e.y (added-on m e.point e.x e.y (rw e.is at c.requires)) in
    rw e.is (if-ok c.lone_point.result (λ l comes.
    subst (λ (d : Edit). AreEntries (come_by m d) l) (λ i. AddPoint e.point (at i).x (at i).y) (comes m)) c.lone_point.ensures.comes)

pub returns-in-Split : goal.returns-in-Split
returns-in-Split g c =
    let m = g.M.MapView.map c.args.map.now in
    let e = c.in-Split in
    let tried : IsTried m (Split e.string e.point e.x e.y e.first e.second) = rw e.is at c.requires in
    let at = c.at-in-Split.ensures ∙ same_numbers e.x e.y (split-on m e.string e.point e.x e.y e.first e.second tried) in
    rw e.is (if-ok c.halves.result (λ l comes.
    subst (λ (d : Edit). AreEntries (come_by m d) l) (λ i. Split e.string e.point (at i).x (at i).y e.first e.second) comes) c.halves.ensures)

pub returns-in-Join : goal.returns-in-Join
returns-in-Join g c =
    let m = g.M.MapView.map c.args.map.now in
    let e = c.in-Join in
    let tried : IsTried m (Join e.point e.string) = rw e.is at c.requires in
    let meet = meet-at m e.point (two-joined m e.point e.string (allowed m (Join e.point e.string) tried.allowed).not_degree_two) in
    let ends = c.far_ends-from.ensures meet.first meet.second meet.are in
    rw e.is (if-ok c.lone_string.result (λ l joins. joins m meet.first meet.second (beside m _ tried) meet.are (ap (λ (q : ℕ × ℕ). q.0) ends) (ap (λ (q : ℕ × ℕ). q.1) ends)) c.lone_string.ensures.joins)

pub returns-in-Divide : goal.returns-in-Divide
returns-in-Divide g c =
    let m = g.M.MapView.map c.args.map.now in
    let e = c.in-Divide in
    let tried : IsTried m (Divide e.face e.chain e.strings e.parcel e.label e.source) = rw e.is at c.requires in
    let same : Divide e.face c.as_slice-in-Divide.result.now c.as_slice.result.now e.parcel e.label e.source ≡ Divide e.face e.chain e.strings e.parcel e.label e.source =
    λ i. Divide e.face (c.as_slice-in-Divide.ensures i) (c.as_slice.ensures i) e.parcel e.label e.source in
    rw e.is (if-ok c.strings_of_chain.result (λ l divides.
    subst (λ (d : Edit). AreEntries (come_by m d) l) same (divides m e.face e.parcel e.label e.source (beside m _ (subst (IsTried m) (sym same) tried)))) c.strings_of_chain.ensures.divides)

pub returns-in-Enclose : goal.returns-in-Enclose
returns-in-Enclose g c =
    let m = g.M.MapView.map c.args.map.now in
    let e = c.in-Enclose in
    let tried : IsTried m (Enclose e.face e.points e.strings e.parcel e.label e.source) = rw e.is at c.requires in
    let same : Enclose e.face c.as_slice-in-Enclose-2.result.now c.as_slice-in-Enclose.result.now e.parcel e.label e.source ≡ Enclose e.face e.points e.strings e.parcel e.label e.source =
    λ i. Enclose e.face (c.as_slice-in-Enclose-2.ensures i) (c.as_slice-in-Enclose.ensures i) e.parcel e.label e.source in
    rw e.is (if-ok c.strings_of_chain-in-Enclose.result (λ l encloses.
    subst (λ (d : Edit). AreEntries (come_by m d) l) same (encloses m e.face e.parcel e.label e.source (beside m _ (subst (IsTried m) (sym same) tried)))) c.strings_of_chain-in-Enclose.ensures.encloses)

pub returns-in-Move : goal.returns-in-Move
returns-in-Move g c =
    let m = g.M.MapView.map c.args.map.now in
    let e = c.in-Move in
    let tried : IsTried m (Move e.point e.x e.y) = rw e.is at c.requires in
    let at = c.at-in-Move.ensures ∙ same_numbers e.x e.y (moved-on m e.point e.x e.y tried) in
    let same : Move e.point c.at-in-Move.result.x c.at-in-Move.result.y ≡ Move e.point e.x e.y = λ i. Move e.point (at i).x (at i).y in
    rw e.is (if-ok c.point_with_strings.result (λ l comes.
    subst (λ (d : Edit). AreEntries (come_by m d) l) same (comes m (beside m _ (subst (IsTried m) (sym same) tried)))) c.point_with_strings.ensures.comes)

pub returns-in-AddSource : goal.returns-in-AddSource
returns-in-AddSource g c =
    let m = g.M.MapView.map c.args.map.now in
    let e = c.args.edit.now in
    let l = c.new.result in
    let is = c.new.ensures in
    let r = c.in-AddSource.is in
    elim r [
      | inl h ↦ quiet-come m e (AddSource h.0 h.1) l is refl h.2
      | inr r ↦ elim r [
        | inl h ↦ quiet-come m e (DropPoint h.0) l is refl h.1
        | inr r ↦ elim r [
          | inl h ↦ quiet-come m e (Merge h.0 h.1) l is refl h.2
          | inr r ↦ elim r [
            | inl h ↦ quiet-come m e (Attach h.0 h.1) l is refl h.2
            | inr r ↦ elim r [
              | inl h ↦ quiet-come m e (Detach h.0 h.1) l is refl h.2
              | inr r ↦ let h = r in quiet-come m e (Rename h.0 h.1) l is refl h.2
            ]
          ]
        ]
      ]
    ]
