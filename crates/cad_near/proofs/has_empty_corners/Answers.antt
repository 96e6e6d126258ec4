use Rattle.cad_near.specs.Near.{touched_of}
use Rattle.cad_near.proofs.NearCorners.{near-corners}
use Rattle.cad_near.proofs.Candidates.{first-decides}
use Rattle.cad_near.proofs.has_empty_corners.Goals as goal

pub returns-else-are_empty_at : goal.returns-else-are_empty_at
returns-else-are_empty_at g c =
    let from = c.requires.touched in
    let halves = near-corners from.before (g.M.MapView.map c.args.map.now) (touched_of c.args.touched.now) from.valid c.requires.whole from.touched in
    first-decides halves _ (rw c.as_slice.ensures.value at c.are_empty_at.ensures) c.if-are_empty_at.false
