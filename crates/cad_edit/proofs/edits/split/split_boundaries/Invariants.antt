use Rattle.std.proofs.Common.{◌≡◌, take, map}
use Rattle.cad_rings.specs.Surgery.{put_on}
use Rattle.cad_map.specs.Boundaries.{bounding}
use Rattle.cad_edit.proofs.edits.split.split_boundaries.Given as goal

abbrev pub invariant-loop-boundary : goal.invariant-loop-boundary
invariant-loop-boundary l = l.made.items ≡ map (λ b. bounding b.face (put_on (l.row.to, l.row.from) l.point (put_on (l.row.from, l.row.to) l.point b.ring))) (take l.boundary-index l.fn.map.boundaries)
