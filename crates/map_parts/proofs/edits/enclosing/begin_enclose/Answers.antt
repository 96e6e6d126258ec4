use Rattle.std.proofs.Common.{◌≡◌, ◌+◌, ◌*◌, ◌≤◌, ℕ, List, length, refl, sym, ap, subst, ◌∙◌, nat_eq, arith}
use Rattle.std.specs.List.{IsDistinct}
use Rattle.cad_rows.specs.declared.names.Face.TheVariants.{Parcel}
use Rattle.cad_rows.specs.declared.rows.StringRow.{StringRow}
use Rattle.half_table.specs.Count.{ticked}
use Rattle.half_paths.proofs.Along.{ticked-add}
use Rattle.half_paths.specs.Loose.{AreNew, numbers_of}
use Rattle.map_parts.specs.Enclosing.{enclosed, rings_placed}
use Rattle.map_parts.specs.FaceTicks.{ticks_to_bring_in}
use Rattle.map_parts.proofs.AddedMap as added_map
use Rattle.map_parts.proofs.Enclosing as it
use Rattle.map_parts.proofs.IslandFits.{of-same, side-same}
use Rattle.map_parts.proofs.RoomMade.{on-err, fit-kept, grown-has}
use Rattle.map_parts.proofs.edits.enclosing.begin_enclose.Goals.{In_ok-add_with_room}
use Rattle.map_parts.proofs.edits.enclosing.begin_enclose.Goals as goal

pub add_with_room-requires : goal.add_with_room-requires
add_with_room-requires g c =
    let is = sym c.as_slice.ensures.value in
    record {
      linked = c.requires.fits.fits.local.linked;
      new = subst (AreNew c.args.table.now.rows) is c.requires.new;
      different = subst (λ (l : List StringRow). IsDistinct nat_eq (numbers_of l)) is (added_map.numbers-differ (it.made-come c.requires));
    }

pub bring_in-requires : goal.bring_in-requires
bring_in-requires g c = it.made-can c.requires (rw c.as_slice.ensures.value at c.in_ok-add_with_room.ensures.added)

pub put_added-requires : goal.put_added-requires
put_added-requires g c =
    let grown = rw c.as_slice.ensures.value at c.in_ok-add_with_room.ensures.added in
    let come = it.made-come c.requires in
    let ready = it.made-ready c.requires grown in
    record {
      strings = added_map.made-put come ready;
      slot = ready.parcel_slot;
      absent = added_map.made-parcel come ready;
    }

pub returns-in_err-add_with_room-clause-err : goal.returns-in_err-add_with_room-clause-err
returns-in_err-add_with_room-clause-err g c = λ can. on-err _ (fit-kept can.map can.fits c.add_with_room.ensures.seen c.in_err-add_with_room.ensures.err)

pub returns-in_err-add_with_room-clause-err_work : goal.returns-in_err-add_with_room-clause-err_work
returns-in_err-add_with_room-clause-err_work g c =
    let it = c.in_err-add_with_room.ensures.err_work in
    let count = it.0 in
    let few = it.1 in
    let long = ap length c.as_slice.ensures.value in
    let told : (n : ℕ) × (n ≤ 2 * length c.args.strings.items) × (c.add_with_room.new.table.work ≡ ticked n c.args.table.now.work) =
    (count + count, omega (arith, few, long), it.2 ∙ sym (ticked-add count count c.args.table.now.work)) in
    on-err _ told

pub returns-clause-fits : goal.returns-clause-fits
returns-clause-fits g c = λ can.
    let grown = rw c.as_slice.ensures.value at c.in_ok-add_with_room.ensures.added in
    added_map.made-fits (it.made-come can) (it.made-ready can grown)
    (it.made-table can grown c.bring_in.new.table.rows c.bring_in.new.kept c.bring_in.ensures.island)
    c.put_added.ensures.rows c.put_added.ensures.stars

pub returns-clause-moved : goal.returns-clause-moved
returns-clause-moved g c = λ can.
    let grown = rw c.as_slice.ensures.value at c.in_ok-add_with_room.ensures.added in
    of-same c.add_with_room.new.table.rows c.bring_in.new.table.rows c.bring_in.ensures.halves.origin (enclosed can.is) c.args.moved.now (Parcel c.args.parcel.number) (rings_placed can.is)
    (it.made-moved can grown)

pub returns-clause-inner_room : goal.returns-clause-inner_room
returns-clause-inner_room g c =
    (added_map.made-rooms (it.made-come c.requires) (it.made-ready c.requires (rw c.as_slice.ensures.value at c.in_ok-add_with_room.ensures.added)) c.bring_in.new.kept 2 0 refl c.bring_in.ensures.capacity c.bring_in.ensures.count).0

pub returns-clause-outer_room : goal.returns-clause-outer_room
returns-clause-outer_room g c =
    let room = (added_map.made-rooms (it.made-come c.requires) (it.made-ready c.requires (rw c.as_slice.ensures.value at c.in_ok-add_with_room.ensures.added)) c.bring_in.new.kept 2 0 refl c.bring_in.ensures.capacity c.bring_in.ensures.count).1 in omega (arith, room)

pub returns-clause-has : goal.returns-clause-has
returns-clause-has g c = grown-has (rw c.as_slice.ensures.value at c.in_ok-add_with_room.ensures.added) c.bring_in.ensures.halves

pub returns-clause-origin : goal.returns-clause-origin
returns-clause-origin g c = λ can h shown.
    let grown = rw c.as_slice.ensures.value at c.in_ok-add_with_room.ensures.added in
    side-same c.add_with_room.new.table.rows c.bring_in.new.table.rows c.bring_in.ensures.halves.origin h
    ∙ it.made-side can grown h shown

pub returns-clause-work : goal.returns-clause-work
returns-clause-work g c =
    let more = ticks_to_bring_in c.bring_in.new.table.rows c.args.first.now c.args.rest.now c.args.moved.now in
    c.bring_in.ensures.work ∙ ap (ticked more) c.in_ok-add_with_room.ensures.work
    ∙ sym (ticked-add (length c.as_slice.result.now) more c.args.table.now.work)
    ∙ ap (λ (l : List StringRow). ticked (length l + more) c.args.table.now.work) c.as_slice.ensures.value
