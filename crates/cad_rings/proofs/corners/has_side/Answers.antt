use Rattle.std.proofs.Common.{sym, ap, ◌∙◌, List, arith}
use Rattle.cad_rings.specs.Cycle.{Side, sides_of, has_side as has_side_of}
use Rattle.cad_rings.proofs.SideLemmas.{length-sides_of}
use Rattle.cad_rings.proofs.CanonicalSteps.{nothing_left}
use Rattle.cad_rings.proofs.corners.has_side.Goals as goal

pub returns : goal.returns
returns c =
    let points = c.args.points.now in
    let n = length-sides_of points in
    sym (c.loop-place.invariant ∙ ap (λ (sides : List Side). has_side_of (c.args.from, c.args.to) sides) (nothing_left (sides_of points) c.loop-place.place (omega (arith, n, c.loop-place-test.false))))
