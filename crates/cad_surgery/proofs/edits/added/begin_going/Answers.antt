use Rattle.cad_surgery.proofs.AddedBack as back
use Rattle.cad_surgery.proofs.edits.added.begin_going.Goals as goal

pub first_and_rest-requires : goal.first_and_rest-requires
first_and_rest-requires g c = c.requires.1.some

pub begin_undivide-requires : goal.begin_undivide-requires
begin_undivide-requires g c = (back.out-along c.first_and_rest.ensures c.requires.1 c.in-Along.is).0

pub begin_open-requires : goal.begin_open-requires
begin_open-requires g c = (back.out-round c.first_and_rest.ensures c.requires.1 c.in-Round.is).0

pub returns-in-Along : goal.returns-in-Along
returns-in-Along g c = λ m can.
    let e = c.begin_undivide.ensures in
    back.goes-along c.first_and_rest.ensures can e.err_table e.loose e.has c.in-Along.is e.fits e.err e.work

pub returns-in-Round : goal.returns-in-Round
returns-in-Round g c = λ m can.
    let e = c.begin_open.ensures in
    back.goes-round c.first_and_rest.ensures can e.err_table e.loose e.has c.in-Round.is e.fits e.err e.work
