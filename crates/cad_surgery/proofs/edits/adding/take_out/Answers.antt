use Rattle.cad_surgery.proofs.ParcelsTried.{undo-as, out-along, out-round}
use Rattle.cad_surgery.proofs.edits.adding.take_out.Goals as goal

pub first_and_rest-requires : goal.first_and_rest-requires
first_and_rest-requires g c = c.requires.2.some

pub undivide-requires : goal.undivide-requires
undivide-requires g c = (undo-as c.requires.2 c.first_and_rest.ensures c.in-Along.is).0

pub open-requires : goal.open-requires
open-requires g c = (undo-as c.requires.2 c.first_and_rest.ensures c.in-Round.is).0

pub returns-in-Along : goal.returns-in-Along
returns-in-Along g c = λ m before can.
    let e = c.undivide.ensures in
    out-along can c.first_and_rest.ensures c.in-Along.is e.fits e.loose e.has e.work

pub returns-in-Round : goal.returns-in-Round
returns-in-Round g c = λ m before can.
    let e = c.open.ensures in
    out-round can c.first_and_rest.ensures c.in-Round.is e.fits e.loose e.has e.work
