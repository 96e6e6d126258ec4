use Rattle.std.proofs.Common.{◌≤◌, ap, ◌∙◌, arith, slice_set, slice_index_or, length}
use Rattle.cad_map.specs.declared.boundary.Boundary.{Boundary}
use Rattle.cad_map.specs.Boundaries.{canonical_form}
use Rattle.cad_map.proofs.Boundaries.CanonicalForms.{changed-next, All-next}
use Rattle.cad_map.proofs.canonical.make_each_canonical.Goals as goal

pub loop-boundary-preserved : goal.loop-boundary-preserved
loop-boundary-preserved c =
    let items = c.loop-boundary.boundary-items in
    let i = c.loop-boundary.boundary-index in
    let here : Boundary = record { face = (slice_index_or items i c.boundary-item.result).face; ring = c.make_canonical.new.self } in (
      ap (λ ring. slice_set items i (record { face = (slice_index_or items i c.boundary-item.result).face; ring = ring })) c.make_canonical.ensures.canonical_form
          ∙ changed-next canonical_form c.args.boundaries.now items i c.boundary-item.result c.loop-boundary-test.true c.loop-boundary.invariant.0,
      All-next (λ b. 2 ≤ length b.ring) items i here (omega (arith, c.loop-boundary.auto.boundary-items, c.loop-boundary-test.true)) c.loop-boundary.invariant.1 c.make_canonical.ensures.at_least_two,
    )
