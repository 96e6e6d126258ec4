use Rattle.cad_surgery.proofs.MergedDraft as along
use Rattle.cad_surgery.proofs.MergedIslandDraft as round
use Rattle.cad_surgery.proofs.MergersTried.{path-some}
use Rattle.cad_surgery.proofs.edits.merging.begin_merge.Goals as goal

pub first_and_rest-requires : goal.first_and_rest-requires
first_and_rest-requires g c =
    let merger = c.args.merger.now in
    path-some c.requires.0 c.args.table.now.rows merger.kept merger.ended merger.path.now merger.moved.now merger.way c.requires.1.shared

pub begin_merge_along-requires : goal.begin_merge_along-requires
begin_merge_along-requires g c = along.begins c.requires.0 c.args.merger.now c.in-Along.is c.first_and_rest.ensures c.requires.1

pub begin_merge_island-requires : goal.begin_merge_island-requires
begin_merge_island-requires g c = round.begins c.requires.0 c.args.merger.now c.in-Round.is c.first_and_rest.ensures c.requires.1

pub returns-in-Along-clause-begun : goal.returns-in-Along-clause-begun
returns-in-Along-clause-begun g c = λ m on.
    let e = c.begin_merge_along.ensures in
    along.begun m c.args.merger.now c.in-Along.is c.first_and_rest.ensures on c.is_work_in_range.ensures e.fits e.err e.err_table e.back e.loose e.halves e.work

pub returns-in-Round-clause-begun : goal.returns-in-Round-clause-begun
returns-in-Round-clause-begun g c = λ m on.
    let e = c.begin_merge_island.ensures in
    round.begun m c.args.merger.now c.in-Round.is c.first_and_rest.ensures on c.is_work_in_range.ensures e.fits e.err e.err_table e.back e.loose e.halves e.work
