use Rattle.std.proofs.Common.{◌∙◌, ◌+◌, refl, sym, subst, length, true}
use Rattle.std.specs.Prelude.{IsSome}
use Rattle.std.proofs.lemmas.Option.{same_Some}
use Rattle.cad_rows.specs.declared.rows.StringRow.{StringRow}
use Rattle.half_table.specs.Half.{forward_of, backward_of}
use Rattle.half_table.specs.Rows.{cycle}
use Rattle.map_parts.specs.declared.edits.passing.Passing.{Passing}
use Rattle.map_parts.specs.Passing.{CanGoThrough}
use Rattle.cad_map.specs.MapRows.{map_in}
use Rattle.map_parts.specs.Splitting.{CanBeginSplit, CanPart}
use Rattle.map_parts.proofs.TicksAdded.{two-steps}
use Rattle.map_parts.proofs.RoomMade.{on-err, fit-kept}
use Rattle.map_parts.proofs.Passing.Begun.{IsPathReady, path-ready}
use Rattle.map_parts.proofs.Passing.SplitMade as made
use Rattle.map_parts.proofs.edits.split.begin_split.Goals.{In_ok-add_path}
use Rattle.map_parts.proofs.edits.split.begin_split.Goals as goal

ready : (g : _) (c : goal.In_ok-add_path g) (can : CanBeginSplit c.args.string c.args.point c.args.first c.args.second c.args.rows.now c.args.table.now.rows c.args.kept.now c.args.stars.now)
    → IsPathReady can.map c.args.first c.args.second true true c.add_path.new.rows c.add_path.new.table.rows c.args.kept.now c.add_path.new.stars
ready g c can =
    let added = c.add_path.ensures in
    path-ready true true can.fits can.new added.rows added.stars c.in_ok-add_path.ensures.adds added.linked

pub add_path-requires : goal.add_path-requires
add_path-requires g c = record { linked = c.requires.fits.fits.local.linked; new = c.requires.new; differ = made.split-differ c.requires }

pub go_through-requires : goal.go_through-requires
go_through-requires g c =
    subst (λ (q : Passing). CanGoThrough q c.add_path.new.table.rows c.args.kept.now) (sym c.path-halves.ensures)
    (made.split-can c.requires (ready g (goal.at.go_through-requires g c).In_ok-add_path c.requires))

pub string-requires : goal.string-requires
string-requires g c = subst IsSome (sym (made.split-found c.requires (ready g (goal.at.string-requires g c).In_ok-add_path c.requires))) refl

pub part_spokes-requires : goal.part_spokes-requires
part_spokes-requires g c =
    let it = ready g (goal.at.part_spokes-requires g c).In_ok-add_path c.requires in
    let same = same_Some c.string.result.now c.requires.row (sym c.string.ensures ∙ made.split-found c.requires it) in
    subst (λ (w : StringRow). CanPart w c.args.first c.args.second c.add_path.new.stars) (sym same)
    (made.split-part c.requires it c.in_ok-add_path.ensures.room.star_room)

pub split_rows-requires : goal.split_rows-requires
split_rows-requires g c =
    let it = ready g (goal.at.split_rows-requires g c).In_ok-add_path c.requires in
    let room = c.in_ok-add_path.ensures.room in
    record {
      there = subst IsSome (sym (made.split-found c.requires it)) refl;
      no_point = made.split-no_point c.requires it;
      no_first = made.split-no_first c.requires it;
      no_second = made.split-no_second c.requires it;
      differ = made.split-differ c.requires;
      point_slot = room.point_slot;
      first_slot = room.first_slot;
      second_slot = room.second_slot;
    }

pub returns-in_err-add_path-clause-err : goal.returns-in_err-add_path-clause-err
returns-in_err-add_path-clause-err g c = λ can.
    let added = c.add_path in
    on-err _ (fit-kept can.map can.fits (record { same_rows = added.ensures.rows; same_kept = λ n. refl; same_stars = added.ensures.stars }) c.in_err-add_path.ensures.err)

pub returns-clause-fits : goal.returns-clause-fits
returns-clause-fits g c = λ can.
    let it = ready g (goal.at.returns-clause-fits g c).In_ok-add_path can in
    let same = same_Some c.string.result.now can.row (sym c.string.ensures ∙ made.split-found can it) in
    record {
      rows_are = made.split-rows_are can it (map_in c.split_rows.new.rows) c.split_rows.ensures.rows;
      fits = made.split-fits can it c.path-halves.result c.path-halves.ensures c.go_through.new.table.rows c.go_through.new.kept c.go_through.ensures.fits;
      are_stars = made.split-stars can it c.string.result.now same c.part_spokes.new.stars c.part_spokes.ensures;
    }

pub returns-clause-there : goal.returns-clause-there
returns-clause-there g c =
    made.split-whole c.requires (ready g (goal.at.returns-clause-there g c).In_ok-add_path c.requires)
    c.split_rows.result.1 c.split_rows.ensures.found c.go_through.new.table.rows c.go_through.ensures.halves.has c.go_through.ensures.halves.origin

pub returns-clause-has : goal.returns-clause-has
returns-clause-has g c = λ h. c.go_through.ensures.halves.has h ∙ c.in_ok-add_path.ensures.adds.has h

pub returns-clause-work : goal.returns-clause-work
returns-clause-work g c =
    let done = c.go_through.new.table.rows in
    let ring = length (cycle done (forward_of c.args.first.number)) + length (cycle done (backward_of c.args.second.number)) + 5 in
    two-steps 2 ring c.args.table.now.work c.in_ok-add_path.ensures.work (rw c.path-halves.ensures at c.go_through.ensures.work)
