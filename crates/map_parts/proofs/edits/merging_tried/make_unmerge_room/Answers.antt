use Rattle.std.proofs.Common.{◌≡◌, ◌∙◌, ℕ, List, length, map, nat_eq, sym, ap, subst}
use Rattle.std.specs.Prelude.{OnOk, OnErr}
use Rattle.std.specs.List.{IsDistinct}
use Rattle.cad_rows.specs.declared.rows.StringRow.{StringRow}
use Rattle.half_table.specs.Count.{ticked}
use Rattle.half_paths.specs.Loose.{AreNew, numbers_of}
use Rattle.map_parts.specs.declared.edits.placed_strings.PlacedString.{PlacedString}
use Rattle.map_parts.specs.Adding.{AreAdded}
use Rattle.map_parts.specs.Merging.{bare_row, rows_gone}
use Rattle.map_parts.specs.TableGrown.{CameAndWent}
use Rattle.map_parts.proofs.RoomMade.{ok-follows}
use Rattle.map_parts.proofs.UnmergingBegun.{bare-added, bare-distinct, bare-many, bare-new}
use Rattle.map_parts.proofs.edits.merging_tried.make_unmerge_room.Goals.{After-as_slice-2}
use Rattle.map_parts.proofs.edits.merging_tried.make_unmerge_room.Goals as goal

-- the rows that are added are those that went, without their sources
is : (g : _) (c : goal.After-as_slice-2 g) → c.as_slice-2.result.now ≡ map bare_row (rows_gone c.args.gone.now.strings.items)
is g c = c.as_slice-2.ensures.value ∙ c.in_ok-bare.ensures ∙ ap (λ (l : List PlacedString). map bare_row (rows_gone l)) c.as_slice.ensures.value

pub add_with_room-requires : goal.add_with_room-requires
add_with_room-requires g c =
    let same = sym (is g (goal.at.add_with_room-requires g c).After-as_slice-2) in
    record {
      linked = c.requires.linked;
      new = subst (AreNew c.args.table.now.rows) same (bare-new c.args.table.now.rows (rows_gone c.args.gone.now.strings.items) c.requires.new);
      different = subst (λ (l : List StringRow). IsDistinct nat_eq (numbers_of l)) same (bare-distinct c.args.gone.now.strings.items c.requires.different);
    }

pub returns-clause-added : goal.returns-clause-added
returns-clause-added g c =
    let made = c.add_with_room.new in
    let all : List StringRow → Type 0 =
    λ l. AreAdded l c.args.keeper.now c.args.gone.now.row.number c.args.rows.now made.rows c.args.table.now.rows made.table.rows c.args.kept.now made.kept c.args.stars.now made.stars in
    ok-follows c.add_with_room.result
    (λ (it : all c.as_slice-2.result.now). bare-added (subst all (is g (goal.at.returns-clause-added g c).After-as_slice-2) it))
    c.add_with_room.ensures.added

many : (g : _) (c : goal.After-as_slice-2 g) → length c.as_slice-2.result.now ≡ length c.args.gone.now.strings.items
many g c = ap length (is g c) ∙ bare-many c.args.gone.now.strings.items

pub returns-clause-work : goal.returns-clause-work
returns-clause-work g c =
    subst (λ (n : ℕ). OnOk c.add_with_room.result (c.add_with_room.new.table.work ≡ ticked n c.args.table.now.work))
    (many g (goal.at.returns-clause-work g c).After-as_slice-2) c.add_with_room.ensures.work

pub returns-clause-err_work : goal.returns-clause-err_work
returns-clause-err_work g c =
    subst (λ (n : ℕ). OnErr c.add_with_room.result (CameAndWent n c.args.table.now.work c.add_with_room.new.table.work))
    (many g (goal.at.returns-clause-err_work g c).After-as_slice-2) c.add_with_room.ensures.err_work
