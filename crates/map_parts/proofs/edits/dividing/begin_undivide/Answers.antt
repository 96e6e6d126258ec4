use Rattle.std.proofs.Common.{refl}
use Rattle.map_parts.proofs.Dividing as it
use Rattle.map_parts.proofs.RoomMade.{on-err, fit-grown}
use Rattle.map_parts.proofs.edits.dividing.begin_undivide.Goals as goal

pub make_handing_room-requires : goal.make_handing_room-requires
make_handing_room-requires g c = it.undo-differ c.requires

pub undivide-requires : goal.undivide-requires
undivide-requires g c = it.undo-can c.requires c.make_handing_room.ensures.same c.in_ok-make_handing_room.ensures.room

pub returns-in_err-make_handing_room-clause-err : goal.returns-in_err-make_handing_room-clause-err
returns-in_err-make_handing_room-clause-err g c = λ can. on-err _ (fit-grown _ can.fits refl c.make_handing_room.ensures.same)

pub returns-clause-fits : goal.returns-clause-fits
returns-clause-fits g c = λ can.
    c.undivide.ensures.fits (it.undo-can can c.make_handing_room.ensures.same c.in_ok-make_handing_room.ensures.room)
