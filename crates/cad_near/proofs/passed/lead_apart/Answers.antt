use Rattle.std.proofs.Common.{refl}
use Rattle.std.proofs.lemmas.Option.{slice_get_read}
use Rattle.cad_near.specs.Triangles.{LeadApart}
use Rattle.cad_near.proofs.TrianglesSeen.{one_more_pair}
use Rattle.cad_near.proofs.passed.lead_apart.Goals as goal

pub loop-place-preserved : goal.loop-place-preserved
loop-place-preserved c =
    let rays = c.args.rays.now in
    let k = c.loop-place.place in
    let ray = c.index-rays-place.result in
    one_more_pair LeadApart rays k ray (slice_get_read rays _ k ray refl c.loop-place-test.true c.index-rays-place.is) c.loop-place.invariant (c.leads_elsewhere.ensures.0 c.if-not-leads_elsewhere.false)
