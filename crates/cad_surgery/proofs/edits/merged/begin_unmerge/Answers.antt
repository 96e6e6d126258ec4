use Rattle.cad_surgery.proofs.UnmergedDraft as back
use Rattle.cad_surgery.proofs.edits.merged.begin_unmerge.Goals as goal

pub first_and_rest-requires : goal.first_and_rest-requires
first_and_rest-requires g c = c.requires.1.some

pub begin_unmerge_along-requires : goal.begin_unmerge_along-requires
begin_unmerge_along-requires g c = (back.back-along c.first_and_rest.ensures c.requires.1 c.in-Along.is).0

pub begin_unmerge_island-requires : goal.begin_unmerge_island-requires
begin_unmerge_island-requires g c = (back.back-round c.first_and_rest.ensures c.requires.1 c.in-Round.is).0

pub returns-in-Along : goal.returns-in-Along
returns-in-Along g c = λ m can.
    let e = c.begin_unmerge_along.ensures in
    back.goes-along c.first_and_rest.ensures can e.err_table e.has e.err_work c.in-Along.is e.fits e.err e.work

pub returns-in-Round : goal.returns-in-Round
returns-in-Round g c = λ m can.
    let e = c.begin_unmerge_island.ensures in
    back.goes-round c.first_and_rest.ensures can e.err_table e.has e.err_work c.in-Round.is e.fits e.err e.work
