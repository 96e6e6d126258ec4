-- An entry is near a segment's bounds just where its box overlaps the segment's.
use Rattle.std.proofs.Common.{◌≡◌, ℤ, arith}
use Rattle.std.proofs.lemmas.Int.{ints, clamps}
use Rattle.std.specs.Prelude.{◌&&◌}
use Rattle.std.specs.Int.{int_min, int_max}
use Rattle.geo_exact.specs.Position.{Position}
use Rattle.geo_exact.specs.SignTest.{overlaps, boxes_overlap}
use Rattle.cell_grid.specs.declared.entry.Entry.{Entry}
use Rattle.cell_grid.specs.Bounds.{bounds_of, reaches, is_near}

reaches-is : (a b c d : ℤ) → reaches (int_min a b) (int_max a b) c d ≡ overlaps a b c d
reaches-is a b c d = grind (arith, ints, clamps)

pub is_near-is : (a b : Position) (e : Entry)
    → is_near (bounds_of a b) e ≡ boxes_overlap a b e.from e.to
is_near-is a b e i =
    reaches-is a.x b.x e.from.x e.to.x i && reaches-is a.y b.y e.from.y e.to.y i
