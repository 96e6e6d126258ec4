use Rattle.std.proofs.Common.{◌≡◌, drop}
use Rattle.std.specs.List.{list_all}
use Rattle.geo_exact.specs.Inside.{is_inside}
use Rattle.cad_valid.specs.Shapes.{Shape}
use Rattle.cad_valid.proofs.face_shapes.are_inside.Given as goal

-- the outlines that are left decide
abbrev pub invariant-loop-outline : goal.invariant-loop-outline
invariant-loop-outline l =
    let inside = λ (outline : Shape). list_all (λ (hole : Shape). is_inside outline.sides hole.anchor) l.holes in
    list_all inside l.fn.outlines ≡ list_all inside (drop l.outline-index l.fn.outlines)
