use Rattle.std.proofs.Common.{subst}
use Rattle.std.specs.List.{AllByRecursion, Contains}
use Rattle.cad_near.specs.Near.{OfPoint, OfString}
use Rattle.cad_near.specs.Seen.{HasInReach, lying_string, lying_point}
use Rattle.cad_near.proofs.SeenNear.{in_wider}
use Rattle.cad_near.proofs.seen.gather.Goals as goal

pub returns : goal.returns
returns g c _ =
    let m = g.M.MapView.map c.args.map.now in
    let strings = c.gather_strings.new.seen.items in
    let points = c.gather_points.new.seen.items in
    let around = c.grown_by-with_strings.result in
    let reach = c.grown_by-seen.result in
    record {
      strings = subst (AllByRecursion (OfString m (λ s. Contains strings (lying_string m s))))
          c.as_slice.ensures.value (c.gather_strings.ensures.all c.if-not-gather_strings.false);
      points = subst (AllByRecursion (OfPoint m (λ p. Contains points (lying_point p))))
          c.as_slice-2.ensures.value (c.gather_points.ensures.all c.if-not-gather_points.false);
      strings_in = in_wider around reach c.grown_by-seen.ensures.kept strings
          (subst (AllByRecursion (HasInReach around)) c.as_slice-4.ensures.value
          c.grown_by-with_strings.ensures.all);
      points_in = subst (AllByRecursion (HasInReach reach)) c.as_slice-5.ensures.value
          c.grown_by-seen.ensures.all;
    }
