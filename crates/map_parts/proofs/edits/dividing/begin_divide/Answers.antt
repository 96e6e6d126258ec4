use Rattle.std.proofs.Common.{List, length, refl, sym, ap, subst, ◌∙◌, nat_eq, arith}
use Rattle.std.specs.List.{IsDistinct}
use Rattle.cad_rows.specs.declared.names.Face.TheVariants.{Parcel}
use Rattle.cad_rows.specs.declared.rows.StringRow.{StringRow}
use Rattle.half_table.specs.Count.{ticked}
use Rattle.half_paths.specs.Loose.{AreNew, numbers_of}
use Rattle.map_parts.specs.Dividing.{divided, rings_beside}
use Rattle.map_parts.specs.FaceTicks.{ticks_to_bring_across}
use Rattle.map_parts.specs.TableGrown.{CameAndWent}
use Rattle.map_parts.proofs.AddedMap as added_map
use Rattle.map_parts.proofs.Dividing as it
use Rattle.map_parts.proofs.IslandFits.{of-same}
use Rattle.map_parts.proofs.RoomMade.{on-err, fit-kept, grown-has, grown-origins}
use Rattle.map_parts.proofs.edits.dividing.begin_divide.Goals.{In_ok-add_with_room}
use Rattle.map_parts.proofs.edits.dividing.begin_divide.Goals as goal

pub add_with_room-requires : goal.add_with_room-requires
add_with_room-requires g c =
    let is = sym c.as_slice.ensures.value in
    record {
      linked = c.requires.fits.fits.local.linked;
      new = subst (AreNew c.args.table.now.rows) is c.requires.new;
      different = subst (λ (l : List StringRow). IsDistinct nat_eq (numbers_of l)) is (added_map.numbers-differ (it.made-come c.requires));
    }

pub bring_across-requires : goal.bring_across-requires
bring_across-requires g c = it.made-can c.requires (rw c.as_slice.ensures.value at c.in_ok-add_with_room.ensures.added)

pub put_added-requires : goal.put_added-requires
put_added-requires g c =
    let grown = rw c.as_slice.ensures.value at c.in_ok-add_with_room.ensures.added in
    let come = it.made-come c.requires in
    let ready = it.made-ready c.requires grown in
    record {
      strings = added_map.made-put come ready;
      slot = ready.parcel_slot;
      absent = added_map.made-parcel come ready;
    }

pub returns-in_err-add_with_room-clause-err : goal.returns-in_err-add_with_room-clause-err
returns-in_err-add_with_room-clause-err g c = λ can. on-err _ (fit-kept can.map can.fits c.add_with_room.ensures.seen c.in_err-add_with_room.ensures.err)

pub returns-in_err-add_with_room-clause-err_work : goal.returns-in_err-add_with_room-clause-err_work
returns-in_err-add_with_room-clause-err_work g c =
    let it = c.in_err-add_with_room.ensures.err_work in
    let few = it.1 in
    let same = ap length c.as_slice.ensures.value in
    let all : CameAndWent (length c.args.strings.items) c.args.table.now.work c.add_with_room.new.table.work = (it.0, omega (arith, few, same), it.2) in
    on-err _ all

pub returns-clause-fits : goal.returns-clause-fits
returns-clause-fits g c = λ can.
    let grown = rw c.as_slice.ensures.value at c.in_ok-add_with_room.ensures.added in
    added_map.made-fits (it.made-come can) (it.made-ready can grown)
    (it.made-table can grown c.bring_across.new.table.rows c.bring_across.new.kept c.bring_across.ensures.chain)
    c.put_added.ensures.rows c.put_added.ensures.stars

pub returns-clause-moved : goal.returns-clause-moved
returns-clause-moved g c = λ can.
    let grown = rw c.as_slice.ensures.value at c.in_ok-add_with_room.ensures.added in
    of-same c.add_with_room.new.table.rows c.bring_across.new.table.rows c.bring_across.ensures.halves.origin (divided can.is) c.args.moved.now (Parcel c.args.parcel.number) (rings_beside can.is)
    (it.made-moved can grown)

pub returns-clause-inner_room : goal.returns-clause-inner_room
returns-clause-inner_room g c =
    (added_map.made-rooms (it.made-come c.requires) (it.made-ready c.requires (rw c.as_slice.ensures.value at c.in_ok-add_with_room.ensures.added)) c.bring_across.new.kept 1 1 refl c.bring_across.ensures.capacity c.bring_across.ensures.count).0

pub returns-clause-outer_room : goal.returns-clause-outer_room
returns-clause-outer_room g c =
    (added_map.made-rooms (it.made-come c.requires) (it.made-ready c.requires (rw c.as_slice.ensures.value at c.in_ok-add_with_room.ensures.added)) c.bring_across.new.kept 1 1 refl c.bring_across.ensures.capacity c.bring_across.ensures.count).1

pub returns-clause-has : goal.returns-clause-has
returns-clause-has g c = grown-has (rw c.as_slice.ensures.value at c.in_ok-add_with_room.ensures.added) c.bring_across.ensures.halves

pub returns-clause-origin : goal.returns-clause-origin
returns-clause-origin g c = grown-origins (rw c.as_slice.ensures.value at c.in_ok-add_with_room.ensures.added) c.bring_across.ensures.halves c.requires.new

pub returns-clause-work : goal.returns-clause-work
returns-clause-work g c =
    let n = ticks_to_bring_across c.bring_across.new.table.rows c.args.first.now c.args.rest.now c.args.moved.now in
    c.bring_across.ensures.work ∙ ap (ticked n) (c.in_ok-add_with_room.ensures.work ∙ ap (λ (l : List StringRow). ticked (length l) c.args.table.now.work) c.as_slice.ensures.value)
