use Rattle.std.proofs.Common.{◌≡◌, inl, inr, ap, sym, refl, subst, ◌∙◌, Some}
use Rattle.std.specs.Option.{option_copied}
use Rattle.cad_rows.specs.declared.edits.Edit.{Edit}
use Rattle.cad_rows.specs.declared.edits.Edit.TheVariants.{AddSource, AddPoint, DropPoint, Split, Join, Divide, Move, Attach, Detach, Rename, Enclose}
use Rattle.cad_rows.specs.declared.rows.StringRow.{StringRow}
use Rattle.cad_map.specs.declared.span.Span.{Span}
use Rattle.cad_map.specs.Map.{string_of}
use Rattle.cad_map.proofs.CallerLemmas.{found-number}
use Rattle.cad_laws.specs.Tried.{IsTried}
use Rattle.edit_records.specs.GridEdits.{gone_by}
use Rattle.edit_records.specs.GridLists.{AreEntries}
use Rattle.edit_records.proofs.GridEdits.{quiet-gone, if-ok, lent-found, beside, dropped-there, joined-there, split-there, lies-there, same_numbers, on_map, split-on}
use Rattle.edit_records.proofs.GridLists.{move-there}
use Rattle.edit_records.proofs.grid_edits.going.Goals as goal

pub unwrap-requires : goal.unwrap-requires
unwrap-requires g c =
    let e = c.in-Split in
    let there = split-there (g.M.MapView.map c.args.map.now) e.string e.point e.x e.y e.first e.second (rw e.is at c.requires) in
    lent-found c.string.result there.0 (c.string.ensures ∙ there.1)

pub at-requires : goal.at-requires
at-requires g c =
    let e = c.in-Split in
    on_map e.x e.y (split-on (g.M.MapView.map c.args.map.now) e.string e.point e.x e.y e.first e.second (rw e.is at c.requires))

pub returns-in-DropPoint : goal.returns-in-DropPoint
returns-in-DropPoint g c =
    let m = g.M.MapView.map c.args.map.now in
    let e = c.in-DropPoint in
    let tried : IsTried m (DropPoint e.point) = rw e.is at c.requires in
    let there = dropped-there m e.point tried in
    rw e.is (if-ok c.lone_point.result (λ l goes. goes m there.0 tried.valid there.1 (lies-there m e.point there.0 _ there.1 c.position.ensures)) c.lone_point.ensures.goes)

pub returns-in-Split : goal.returns-in-Split
returns-in-Split g c =
    let m = g.M.MapView.map c.args.map.now in
    let e = c.in-Split in
    let tried : IsTried m (Split e.string e.point e.x e.y e.first e.second) = rw e.is at c.requires in
    let row = c.unwrap.result.now in
    let is : string_of m e.string ≡ Some row = sym c.string.ensures ∙ ap option_copied c.unwrap.ensures in
    let span = c.span_of-span.result in
    let number = ap (λ (s : Span). s.string) c.span_of-span.ensures ∙ found-number (λ (r : StringRow). r.number) e.string m.strings row is in
    let at = c.at.ensures ∙ same_numbers e.x e.y (split-on m e.string e.point e.x e.y e.first e.second tried) in
    let same : Split span.string e.point c.at.result.x c.at.result.y e.first e.second ≡ Split e.string e.point e.x e.y e.first e.second =
    λ i. Split (number i) e.point (at i).x (at i).y e.first e.second in
    rw e.is (if-ok c.lone_string.result (λ l splits.
    subst (λ (d : Edit). AreEntries (gone_by m d) l) same
    (splits m row e.first e.second (beside m _ (subst (IsTried m) (sym same) tried)) (ap (string_of m) number ∙ is) c.span_of-span.ensures)) c.lone_string.ensures.splits)

pub returns-in-AddSource : goal.returns-in-AddSource
returns-in-AddSource g c =
    let m = g.M.MapView.map c.args.map.now in
    let e = c.args.edit.now in
    let l = c.new.result in
    let is = c.new.ensures in
    let r = c.in-AddSource.is in
    elim r [
      | inl h ↦ quiet-gone m e (AddSource h.0 h.1) l is refl h.2
      | inr r ↦ elim r [
        | inl h ↦ quiet-gone m e (AddPoint h.0 h.1 h.2) l is refl h.3
        | inr r ↦ elim r [
          | inl h ↦ quiet-gone m e (Divide h.0 h.1 h.2 h.3 h.4 h.5) l is refl h.6
          | inr r ↦ elim r [
            | inl h ↦ quiet-gone m e (Attach h.0 h.1) l is refl h.2
            | inr r ↦ elim r [
              | inl h ↦ quiet-gone m e (Detach h.0 h.1) l is refl h.2
              | inr r ↦ elim r [
                | inl h ↦ quiet-gone m e (Rename h.0 h.1) l is refl h.2
                | inr r ↦ let h = r in quiet-gone m e (Enclose h.0 h.1 h.2 h.3 h.4 h.5) l is refl h.6
              ]
            ]
          ]
        ]
      ]
    ]

pub returns-in-Join : goal.returns-in-Join
returns-in-Join g c =
    let m = g.M.MapView.map c.args.map.now in
    let e = c.in-Join in
    let tried : IsTried m (Join e.point e.string) = rw e.is at c.requires in
    let there = joined-there m e.point e.string tried in
    rw e.is (if-ok c.point_with_strings.result (λ l joins. joins there.0 e.string tried.valid there.1 (lies-there m e.point there.0 _ there.1 c.position-in-Join.ensures)) c.point_with_strings.ensures.joins)

pub returns-in-Move : goal.returns-in-Move
returns-in-Move g c =
    let m = g.M.MapView.map c.args.map.now in
    let e = c.in-Move in
    let tried : IsTried m (Move e.point e.x e.y) = rw e.is at c.requires in
    let there = move-there m e.point e.x e.y tried in
    rw e.is (if-ok c.point_with_strings-in-Move.result (λ l goes.
    goes m there.0 (record { x = e.x; y = e.y }) (beside m _ tried) there.1 (lies-there m e.point there.0 _ there.1 c.position-in-Move.ensures)) c.point_with_strings-in-Move.ensures.goes)

pub strings_shared-requires : goal.strings_shared-requires
strings_shared-requires g c =
    rw c.in-Merge.is at c.requires

pub returns-in-Merge : goal.returns-in-Merge
returns-in-Merge g c =
    rw c.in-Merge.is c.strings_shared.ensures
