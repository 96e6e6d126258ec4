-- Positions, as the anchors of holes, and the sides of an outline that are counted there.
use Rattle.std.specs.Prelude.{ℕ, not, List, if◌then◌else◌}
use Rattle.geo_exact.specs.Position.{Position}
use Rattle.geo_exact.specs.Inside.{is_counted, is_inside}
use Rattle.cad_valid.specs.Boxes.{from_least}
use Rattle.cad_valid.specs.declared.anchors.Anchor.{Anchor}

-- how high it lies, counted from the least coordinate that there can be
abbrev pub height_of : Anchor → ℕ
height_of a = from_least a.at.y

-- the anchor at a position with its place before it, with these sides counted
abbrev pub counted_at : List (Position × Position) → ℕ × Position → Anchor
counted_at sides placed = record { at = placed.1; place = placed.0; inside = is_inside sides placed.1 }

-- the anchor with one more side counted
abbrev pub with_one_more : Position × Position → Anchor → Anchor
with_one_more side a = record {
  at = a.at;
  place = a.place;
  inside = if is_counted side.0 side.1 a.at then not a.inside else a.inside;
}
