use Rattle.cad_valid.proofs.CallerLemmas.{iff-trans}
use Rattle.cad_near.specs.Near.{touched_of}
use Rattle.cad_near.proofs.NearFaces.{near-outlines, near-holes}
use Rattle.cad_near.proofs.rules_near.Goals as goal

pub returns-clause-outlines : goal.returns-clause-outlines
returns-clause-outlines g c =
    let m = g.M.MapView.map c.args.map.now in
    let from = c.requires.touched in
    iff-trans (rw c.as_slice.ensures.value at c.rules_of_faces.ensures.outlines) (near-outlines from.before m (touched_of c.args.touched.now) from.valid c.requires.whole.v1 from.touched)

pub returns-clause-holes : goal.returns-clause-holes
returns-clause-holes g c =
    let m = g.M.MapView.map c.args.map.now in
    let from = c.requires.touched in
    iff-trans (rw c.as_slice.ensures.value at c.rules_of_faces.ensures.holes) (near-holes from.before m (touched_of c.args.touched.now) from.valid c.requires.whole.v1 from.touched)
