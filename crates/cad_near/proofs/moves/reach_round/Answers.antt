use Rattle.std.proofs.Common.{refl, take}
use Rattle.std.proofs.lemmas.Option.{slice_get_read}
use Rattle.cad_map.proofs.CallerLemmas.{All-follows}
use Rattle.cad_near.specs.Seen.{IsInReach}
use Rattle.cad_near.proofs.SeenNear.{one_more}
use Rattle.cad_near.proofs.moves.reach_round.Goals as goal

pub loop-ray-preserved : goal.loop-ray-preserved
loop-ray-preserved c =
    let rays = c.args.rays.now in
    let k = c.loop-ray.ray-index in
    let ray = c.ray-item.result in
    let wide = c.grown-reach-in-loop-ray.result in
    let kept = c.grown-reach-in-loop-ray.ensures.kept in
    record {
      at = kept c.args.at c.loop-ray.invariant.at;
      from = kept c.args.from c.loop-ray.invariant.from;
      rays = one_more (λ r. IsInReach wide r.position) rays k ray
          (slice_get_read rays _ k ray refl c.loop-ray-test.true c.ray-item.is)
          (All-follows (λ r. IsInReach c.loop-ray.reach r.position) (λ r. IsInReach wide r.position)
          (λ r h. kept r.position h) (take k rays) c.loop-ray.invariant.rays)
          c.grown-reach-in-loop-ray.ensures.within;
    }
