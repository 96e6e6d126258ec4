use Rattle.std.proofs.Common.{subst}
use Rattle.std.specs.List.{AllByRecursion}
use Rattle.cad_near.specs.Near.{OfPoint, OfString}
use Rattle.cad_near.specs.Seen.{HasInReach, lying_string, lying_point}
use Rattle.cad_near.proofs.ManyStrings.{strings-wider}
use Rattle.cad_near.proofs.many.reach_of.Goals as goal

pub returns : goal.returns
returns g c =
    let m = g.M.MapView.map c.args.map.now in
    let r = c.grown_by_strings-reach.result in
    let q = c.grown_by_points.result in
    record {
      strings = strings-wider m r q c.grown_by_points.ensures.kept c.args.touched.now.strings.items
          (subst (AllByRecursion (OfString m (λ s. HasInReach r (lying_string m s)))) c.as_slice-2.ensures.value c.grown_by_strings-reach.ensures.all);
      points = subst (AllByRecursion (OfPoint m (λ p. HasInReach q (lying_point p)))) c.as_slice-3.ensures.value c.grown_by_points.ensures.all;
    }
