-- What becomes of corners, sides and boundaries where two strings are joined at a point. Read
-- backwards it is a split.
use Rattle.std.specs.Prelude.{◌≡◌, ◌≢◌, ℕ, ⊤, [], ◌∷◌, map, ◌⊎◌, IsPermutation}
use Rattle.std.specs.List.{Contains}
use Rattle.cad_rows.specs.declared.edits.Edit.{Edit}
use Rattle.cad_rows.specs.declared.edits.Edit.TheVariants.{Join}
use Rattle.cad_rows.specs.declared.names.Face.{Face}
use Rattle.cad_rows.specs.declared.rows.StringRow.{StringRow}
use Rattle.cad_rings.specs.Cycle.{Side, Corner}
use Rattle.cad_rings.specs.Surgery.{corner, without}
use Rattle.cad_map.specs.Boundaries.{bounding, canonical_form}
use Rattle.cad_map.specs.Changes.{by_number}
use Rattle.cad_map.specs.Map.{Map, far_end, strings_at, all_sides}
use Rattle.cad_map.specs.Views.{HasSide}
use Rattle.cad_laws.specs.Parting.{HasCorner}

-- no side leads from one of the points to the other
pub record AreNotJoined (m : Map) (a b : ℕ) : Type 0 where
  pub forth : ¬ Contains (all_sides m) (a, b)
  pub back : ¬ Contains (all_sides m) (b, a)

-- What a corner of the map without the point p, between a and b, was in the map with it.
pub data WasCorner (m : Map) (p a b : ℕ) : Corner → Type 0 where
  -- itself
  stood : (c : Corner) → HasCorner m c → WasCorner m p a b c
  -- a corner at a or at b, with the point after it or before it
  before_first : (u : ℕ) → HasCorner m (corner u a p) → WasCorner m p a b (corner u a b)
  before_second : (u : ℕ) → HasCorner m (corner u b p) → WasCorner m p a b (corner u b a)
  behind_first : (u : ℕ) → HasCorner m (corner p a u) → WasCorner m p a b (corner b a u)
  behind_second : (u : ℕ) → HasCorner m (corner p b u) → WasCorner m p a b (corner a b u)

-- The point p, between a and b, goes: each of the two sees the other in its place.
pub record IsJoinedAt (m after : Map) (p a b : ℕ) : Type 0 where
  pub apart : a ≢ b
  -- the two corners at the point, which go with it
  pub first_there : HasCorner m (corner a p b)
  pub second_there : HasCorner m (corner b p a)
  pub at_point : (c : Corner) → HasCorner m c → c.at ≡ p → (c ≡ corner a p b) ⊎ (c ≡ corner b p a)
  pub gone : (c : Corner) → HasCorner after c → (c.before ≢ p) × (c.at ≢ p) × (c.after ≢ p)
  -- a corner without the point stays
  pub stays : (c : Corner) → HasCorner m c → c.before ≢ p → c.at ≢ p → c.after ≢ p
      → HasCorner after c
  -- a corner at a or at b with the point before it or after it has the other of the two there
  pub to_first : (u : ℕ) → HasCorner m (corner u a p) → HasCorner after (corner u a b)
  pub to_second : (u : ℕ) → HasCorner m (corner u b p) → HasCorner after (corner u b a)
  pub from_first : (u : ℕ) → HasCorner m (corner p a u) → HasCorner after (corner b a u)
  pub from_second : (u : ℕ) → HasCorner m (corner p b u) → HasCorner after (corner a b u)
  -- and the other way: no corner comes but these
  pub comes : (c : Corner) → HasCorner after c → WasCorner m p a b c
  -- a side without the point keeps its face, and those to the point hand theirs to the new ones
  pub side_stays : (f : Face) (s : Side) → HasSide m f s → s.0 ≢ p → s.1 ≢ p → HasSide after f s
  pub side_forth : (f : Face) → HasSide m f (a, p) → HasSide after f (a, b)
  pub side_back : (f : Face) → HasSide m f (b, p) → HasSide after f (b, a)
  -- each ring is as it was, without the point
  pub boundaries : IsPermutation
      (map (λ r. canonical_form (bounding r.face (without p r.ring))) m.boundaries) after.boundaries

-- Of a join it has been looked that no side leads from one of the far ends to the other.
abbrev pub FarEndsAreApart : Map → Edit → Type 0
FarEndsAreApart m (Join p new) = (s t : StringRow) → by_number (strings_at m p) ≡ s ∷ t ∷ []
    → AreNotJoined m (far_end s p) (far_end t p)
FarEndsAreApart m _ = ⊤
