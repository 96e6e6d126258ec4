use Rattle.std.proofs.Common.{◌≡◌, ◌∙◌, ◌+◌, refl, sym, subst, length}
use Rattle.std.specs.Prelude.{IsSome}
use Rattle.std.proofs.lemmas.Option.{same_Some}
use Rattle.cad_rows.specs.declared.rows.StringRow.{StringRow}
use Rattle.cad_map.specs.Map.{Map}
use Rattle.half_table.specs.Half.{forward_of, backward_of}
use Rattle.half_table.specs.Rows.{Table, cycle}
use Rattle.map_parts.specs.declared.edits.passing.Passing.{Passing}
use Rattle.map_parts.specs.Joined.{CanBeginJoin, HaveJoined}
use Rattle.map_parts.specs.Passing.{CanGoPast, path_at}
use Rattle.cad_map.specs.MapRows.{map_in}
use Rattle.map_parts.specs.Splitting.{CanMeet, FitMap}
use Rattle.map_parts.proofs.TicksAdded.{two-steps}
use Rattle.map_parts.proofs.RoomMade.{on-err, fit-grown}
use Rattle.map_parts.proofs.Passing.Begun.{IsStringReady, string-ready}
use Rattle.map_parts.proofs.Passing.JoinMade as made
use Rattle.map_parts.proofs.edits.join.begin_join.Goals.{In_ok-add_string, After-string-second_row}
use Rattle.map_parts.proofs.edits.join.begin_join.Goals as goal

ready : (g : _) (c : goal.In_ok-add_string g) (can : CanBeginJoin c.args.point c.args.first c.args.second c.args.row c.args.rows.now c.args.table.now.rows c.args.kept.now c.args.stars.now)
    → IsStringReady can.map c.args.row c.add_string.new.rows c.add_string.new.table.rows c.args.kept.now c.args.stars.now
ready g c can = string-ready can.fits can.new c.add_string.ensures.rows c.in_ok-add_string.ensures.adds c.add_string.ensures.linked

first_is : (g : _) (c : goal.After-string-second_row g) (can : CanBeginJoin c.args.point c.args.first c.args.second c.args.row c.args.rows.now c.args.table.now.rows c.args.kept.now c.args.stars.now)
    → IsStringReady can.map c.args.row c.add_string.new.rows c.add_string.new.table.rows c.args.kept.now c.args.stars.now → c.string-first_row.result.now ≡ can.one
first_is g c can it = same_Some _ _ (sym c.string-first_row.ensures ∙ made.join-first can it)

second_is : (g : _) (c : goal.After-string-second_row g) (can : CanBeginJoin c.args.point c.args.first c.args.second c.args.row c.args.rows.now c.args.table.now.rows c.args.kept.now c.args.stars.now)
    → IsStringReady can.map c.args.row c.add_string.new.rows c.add_string.new.table.rows c.args.kept.now c.args.stars.now → c.string-second_row.result.now ≡ can.other
second_is g c can it = same_Some _ _ (sym c.string-second_row.ensures ∙ made.join-second can it)

pub add_string-requires : goal.add_string-requires
add_string-requires g c = record { linked = c.requires.fits.fits.local.linked; new = c.requires.new }

pub string-first_row-requires : goal.string-first_row-requires
string-first_row-requires g c = subst IsSome (sym (made.join-first c.requires (ready g (goal.at.string-first_row-requires g c).In_ok-add_string c.requires))) refl

pub string-second_row-requires : goal.string-second_row-requires
string-second_row-requires g c = subst IsSome (sym (made.join-second c.requires (ready g (goal.at.string-second_row-requires g c).In_ok-add_string c.requires))) refl

pub go_past-requires : goal.go_past-requires
go_past-requires g c =
    let it = ready g (goal.at.go_past-requires g c).In_ok-add_string c.requires in
    let at = (goal.at.go_past-requires g c).After-string-second_row in
    subst (λ (q : Passing). CanGoPast q c.add_string.new.table.rows c.args.kept.now)
    (sym (c.path-halves.ensures ∙ (λ i. path_at c.args.point (first_is g at c.requires it i) (second_is g at c.requires it i) c.args.row.number)))
    (made.join-can c.requires it)

pub join_spokes-requires : goal.join_spokes-requires
join_spokes-requires g c =
    let it = ready g (goal.at.join_spokes-requires g c).In_ok-add_string c.requires in
    let at = (goal.at.join_spokes-requires g c).After-string-second_row in
    subst (λ (v : StringRow × StringRow). CanMeet c.args.row v.0 v.1 c.args.stars.now) (λ i. (sym (first_is g at c.requires it) i, sym (second_is g at c.requires it) i))
    (made.join-meet c.requires it)

pub join_rows-requires : goal.join_rows-requires
join_rows-requires g c =
    let it = ready g (goal.at.join_rows-requires g c).In_ok-add_string c.requires in
    record {
      point = made.join-point c.requires it;
      first = subst IsSome (sym (made.join-first c.requires it)) refl;
      second = subst IsSome (sym (made.join-second c.requires it)) refl;
      differ = made.join-differ c.requires it;
      absent = made.join-absent c.requires it;
      slot = c.in_ok-add_string.ensures.slot;
    }

pub returns-in_err-add_string-clause-err : goal.returns-in_err-add_string-clause-err
returns-in_err-add_string-clause-err g c = λ can.
    let added = c.add_string in
    on-err _
    (subst (λ (t : Table). FitMap can.map added.new.rows t.rows c.args.kept.now c.args.stars.now) (sym c.in_err-add_string.ensures.err)
    (fit-grown can.map can.fits added.ensures.rows (λ n. refl)))

pub returns-clause-fits : goal.returns-clause-fits
returns-clause-fits g c = λ can.
    let it = ready g (goal.at.returns-clause-fits g c).In_ok-add_string can in
    let at = (goal.at.returns-clause-fits g c).After-string-second_row in
    let one = first_is g at can it in
    let other = second_is g at can it in
    record {
      rows_are = made.join-rows_are can it (map_in c.join_rows.new.rows) c.join_rows.ensures.rows;
      fits =
          made.join-fits can it c.path-halves.result (c.path-halves.ensures ∙ (λ i. path_at c.args.point (one i) (other i) c.args.row.number))
          c.go_past.new.table.rows c.go_past.new.kept c.go_past.ensures.fits;
      are_stars = made.join-stars can it c.string-first_row.result.now c.string-second_row.result.now one other c.join_spokes.new.stars c.join_spokes.ensures.stars;
    }

pub returns-clause-taken : goal.returns-clause-taken
returns-clause-taken g c = subst (λ (m : Map). HaveJoined m c.args.point c.args.first c.args.second c.join_rows.result) c.add_string.ensures.rows c.join_rows.ensures.taken

pub returns-clause-room : goal.returns-clause-room
returns-clause-room g c =
    let it = ready g (goal.at.returns-clause-room g c).In_ok-add_string c.requires in
    let at = (goal.at.returns-clause-room g c).After-string-second_row in
    made.join-room c.requires it c.string-first_row.result.now c.string-second_row.result.now (first_is g at c.requires it) (second_is g at c.requires it)
    c.join_spokes.new.stars c.join_spokes.ensures.room

pub returns-clause-first_there : goal.returns-clause-first_there
returns-clause-first_there g c =
    made.join-whole c.requires (ready g (goal.at.returns-clause-first_there g c).In_ok-add_string c.requires)
    c.args.first c.join_rows.result.first c.join_rows.ensures.taken.first_found c.go_past.new.table.rows c.go_past.ensures.halves.has c.go_past.ensures.halves.origin

pub returns-clause-second_there : goal.returns-clause-second_there
returns-clause-second_there g c =
    made.join-whole c.requires (ready g (goal.at.returns-clause-second_there g c).In_ok-add_string c.requires)
    c.args.second c.join_rows.result.second c.join_rows.ensures.taken.second_found c.go_past.new.table.rows c.go_past.ensures.halves.has c.go_past.ensures.halves.origin

pub returns-clause-has : goal.returns-clause-has
returns-clause-has g c = λ h. c.go_past.ensures.halves.has h ∙ c.in_ok-add_string.ensures.adds.has h

pub returns-clause-work : goal.returns-clause-work
returns-clause-work g c =
    let done = c.go_past.new.table.rows in
    let ring = length (cycle done (forward_of c.args.row.number)) + length (cycle done (backward_of c.args.row.number)) + 5 in
    two-steps 1 ring c.args.table.now.work c.in_ok-add_string.ensures.work (rw c.path-halves.ensures at c.go_past.ensures.work)
