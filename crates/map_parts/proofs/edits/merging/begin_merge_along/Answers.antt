use Rattle.std.proofs.Common.{◌∷◌}
use Rattle.cad_rows.specs.declared.rows.ParcelRow.{ParcelRow}
use Rattle.cad_map.proofs.CallerLemmas.{found-number}
use Rattle.cad_map.specs.MapRows.{map_in}
use Rattle.map_parts.proofs.MergedRows as rows_of
use Rattle.map_parts.proofs.Merging as it
use Rattle.map_parts.proofs.MergingBegun.{goes-back}
use Rattle.map_parts.proofs.RoomMade.{on-err, fit-seen}
use Rattle.map_parts.proofs.edits.merging.begin_merge_along.Goals as goal

pub end_with_room-requires : goal.end_with_room-requires
end_with_room-requires g c =
    let can = c.requires in
    record {
      can = rows_of.made-end can.map c.args.keeper.now c.args.ended (c.args.first.now ∷ c.args.rest.now) can.is.tried can.is.shared can.fits can.strings_are;
      differ = rows_of.places-differ can.map c.args.keeper.now c.args.ended (c.args.first.now ∷ c.args.rest.now) can.is.tried can.is.shared;
    }

pub take_across-requires : goal.take_across-requires
take_across-requires g c = it.made-can c.requires c.end_with_room.ensures.same c.in_ok-gone.ensures.exchange

pub returns-in_err-gone-clause-err : goal.returns-in_err-gone-clause-err
returns-in_err-gone-clause-err g c = λ can. on-err _ (fit-seen can.map can.fits c.in_err-gone.ensures.err)

pub returns-clause-fits : goal.returns-clause-fits
returns-clause-fits g c = λ can.
    let made = c.in_ok-gone.ensures in
    let gone = c.end_with_room.new in
    let out = c.take_across in
    rows_of.made-fits can.map c.args.keeper.now c.args.ended (c.args.first.now ∷ c.args.rest.now) can.is.tried can.is.shared can.fits can.strings_are gone.rows out.new.table.rows out.new.kept gone.stars
    (it.made-table can c.end_with_room.ensures.same made.exchange out.new.table.rows out.new.kept out.ensures.chain) made.rows made.stars

pub returns-clause-back : goal.returns-clause-back
returns-clause-back g c = λ can.
    let made = c.in_ok-gone.ensures in
    goes-back (found-number (λ (r : ParcelRow). r.number) c.args.ended (map_in c.args.rows.now).parcels _ made.gone.found) can
    (record {
      fits = returns-clause-fits g c can;
      halves = c.take_across.ensures.halves;
      loose = c.take_across.ensures.loose;
      went = made.gone;
      room = made.back;
      kept_room = rows_of.room-left made.exchange c.take_across.ensures.kept;
    })
