use Rattle.cad_surgery.proofs.MergedDraft as along
use Rattle.cad_surgery.proofs.MergedIslandDraft as round
use Rattle.cad_surgery.proofs.MergersTried.{path-some}
use Rattle.cad_surgery.proofs.edits.merging.unmerge.Goals as goal

pub first_and_rest-requires : goal.first_and_rest-requires
first_and_rest-requires g c =
    let merger = c.args.merger.now in
    path-some c.requires.0 c.requires.1.rows merger.kept merger.ended merger.path.now merger.moved.now merger.way c.requires.2.shared

pub unmerge_along-requires : goal.unmerge_along-requires
unmerge_along-requires g c = (along.undoing c.requires.0 c.args.merger.now c.in-Along.is c.first_and_rest.ensures c.requires.2).0

pub unmerge_island-requires : goal.unmerge_island-requires
unmerge_island-requires g c = (round.undoing c.requires.0 c.args.merger.now c.in-Round.is c.first_and_rest.ensures c.requires.2).0

pub returns-in-Along : goal.returns-in-Along
returns-in-Along g c = λ m before can.
    let e = c.unmerge_along.ensures in
    along.gone-back m c.args.merger.now c.in-Along.is c.first_and_rest.ensures can e.fits e.halves e.work

pub returns : goal.returns
returns g c = λ m before can.
    let e = c.unmerge_island.ensures in
    round.gone-back m c.args.merger.now c.in-Round.is c.first_and_rest.ensures can e.fits e.halves e.work
