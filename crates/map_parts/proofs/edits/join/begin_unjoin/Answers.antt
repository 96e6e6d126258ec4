use Rattle.std.proofs.Common.{◌+◌, ◌∙◌, ◌==◌, not, length, refl}
use Rattle.cad_rows.specs.declared.edits.Edit.TheVariants.{Join}
use Rattle.cad_map.specs.Effects.{after}
use Rattle.half_table.specs.Half.{twin}
use Rattle.half_table.specs.Rows.{cycle}
use Rattle.map_parts.specs.Passing.{path_at}
use Rattle.map_parts.proofs.TicksAdded.{two-steps}
use Rattle.map_parts.proofs.RoomMade.{on-err, fit-kept}
use Rattle.map_parts.proofs.Passing.Begun.{path-ready}
use Rattle.map_parts.proofs.Passing.JoinBegun.{differ, back-can}
use Rattle.map_parts.proofs.edits.join.begin_unjoin.Goals as goal

pub add_path-requires : goal.add_path-requires
add_path-requires g c = record { linked = c.requires.fits.fits.local.linked; new = c.requires.new; differ = differ c.requires }

pub unjoin-requires : goal.unjoin-requires
unjoin-requires g c =
    let added = c.add_path.ensures in
    let ok = c.in_ok-add_path.ensures in
    let p = c.args.joined.point.number in
    back-can c.requires (path-ready (not (c.args.joined.first.from == p)) (c.args.joined.second.from == p) c.requires.fits c.requires.new added.rows added.stars ok.adds added.linked) ok.room

pub returns-in_err-add_path-clause-err : goal.returns-in_err-add_path-clause-err
returns-in_err-add_path-clause-err g c = λ can.
    let added = c.add_path in
    let now = after can.map (Join c.args.joined.point.number c.args.string) in
    on-err _ (fit-kept now can.fits (record { same_rows = added.ensures.rows; same_kept = λ n. refl; same_stars = added.ensures.stars }) c.in_err-add_path.ensures.err)

pub returns-clause-fits : goal.returns-clause-fits
returns-clause-fits g c = λ can.
    let added = c.add_path.ensures in
    let ok = c.in_ok-add_path.ensures in
    let p = c.args.joined.point.number in
    c.unjoin.ensures.fits
    (back-can can (path-ready (not (c.args.joined.first.from == p)) (c.args.joined.second.from == p) can.fits can.new added.rows added.stars ok.adds added.linked) ok.room)

pub returns-clause-has : goal.returns-clause-has
returns-clause-has g c = λ h. c.unjoin.ensures.has h ∙ c.in_ok-add_path.ensures.adds.has h

pub returns-clause-work : goal.returns-clause-work
returns-clause-work g c =
    let done = c.unjoin.new.table.rows in
    let path = path_at c.args.joined.point.number c.args.joined.first c.args.joined.second c.args.string in
    let ring = length (cycle done path.first) + length (cycle done (twin path.second)) + 5 in
    two-steps 2 ring c.args.table.now.work c.in_ok-add_path.ensures.work c.unjoin.ensures.work
