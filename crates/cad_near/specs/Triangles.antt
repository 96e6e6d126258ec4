-- The triangles that a moved point's strings swept, between their far ends, where it lay and where it lies.
use Rattle.std.specs.Prelude.{◌≡◌, ◌≢◌, ℕ, ℤ, pos, Bool, false, true, not, ◌&&◌, ◌||◌, ◌==◌, List, int_lt, IsTrue}
use Rattle.std.specs.Ordering.{int_eq}
use Rattle.std.specs.List.{AllByRecursion, Contains, list_all}
use Rattle.geo_exact.specs.Orientation.{orientation}
use Rattle.geo_exact.specs.Position.{Position}
use Rattle.geo_exact.specs.SignTest.{boxes_overlap}
use Rattle.geo_exact.specs.Triangle.{is_outside}
use Rattle.cad_rows.specs.declared.rows.PointRow.{PointRow}
use Rattle.cad_rows.specs.declared.rows.StringRow.{StringRow}
use Rattle.cell_grid.specs.Grid.{Grid, HoldsPoint}
use Rattle.cell_grid.specs.declared.entry.HeldPoint.{HeldPoint}
use Rattle.cad_map.specs.Map.{Map, position_of, is_end, far_end, strings_at}
use Rattle.cad_map.specs.Touched.{Touched, Moved}
use Rattle.cad_map.specs.Valid.{EachPair}
use Rattle.cad_near.specs.declared.rays.Ray.{Ray}
use Rattle.cad_near.specs.Near.{OfString}

-- ---- What is seen of a ray

-- a coordinate is greater than all of three others, or less than all
unfoldable pub is_past_three : ℤ → ℤ → ℤ → ℤ → Bool
is_past_three q a b r = (int_lt q r && int_lt a r && int_lt b r) || (int_lt r q && int_lt r a && int_lt r b)

-- r lies beyond all of q, a and b to the east, to the west, to the north or to the south
unfoldable pub is_beyond : Position → Position → Position → Position → Bool
is_beyond q a b r = is_past_three q.x a.x b.x r.x || is_past_three q.y a.y b.y r.y

-- r is seen to lie outside of the triangle qab
abbrev pub is_seen_outside : Position → Position → Position → Position → Bool
is_seen_outside q a b r = is_beyond q a b r || is_outside q a b r

-- a held point is the far end of a ray, or is seen outside of its triangle
abbrev pub is_past_ray : Position → Position → HeldPoint → Ray → Bool
is_past_ray from at h r = (r.far == h.point) || is_seen_outside r.position from at h.position

-- a held point is the moved one, or is past all rays
abbrev pub is_past_rays : Moved → Position → List Ray → HeldPoint → Bool
is_past_rays v at rays h = (h.point == v.point) || list_all (is_past_ray v.from at h) rays

-- the triangle of a ray has area
abbrev pub has_area : Position → Position → Ray → Bool
has_area from at r = not (int_eq (orientation r.position from at) (pos 0))

-- two rays lead to different points
abbrev pub LeadApart : Ray → Ray → Type 0
LeadApart a b = a.far ≢ b.far

-- The rays lead to different points, their triangles have area, and each other point that the grid holds is past them.
pub record AreSeenClear (g : Grid) (v : Moved) (at : Position) (rays : List Ray) : Type 0 where
  pub apart : EachPair LeadApart rays
  pub area : list_all (has_area v.from at) rays ≡ true
  pub points : (n : ℕ) (q : Position) → HoldsPoint g n q → n ≢ v.point
      → list_all (is_past_ray v.from at (record { point = n; position = q })) rays ≡ true

-- ---- What is so of the move

-- the triangle of a string has area, and each other point lies outside of it
pub record SweepsClear (m : Map) (v : Moved) (s : StringRow) : Type 0 where
  pub area : orientation (position_of m (far_end s v.point)) v.from (position_of m v.point) ≢ pos 0
  pub points : (p : PointRow) → Contains m.points p → p.number ≢ v.point → p.number ≢ far_end s v.point
      → is_outside (position_of m (far_end s v.point)) v.from (position_of m v.point) p.position ≡ true

-- The point has strings, to as many points, all sweep clear, and no other string comes near its way.
pub record MovesClear (m : Map) (v : Moved) : Type 0 where
  pub some : (s : StringRow) × Contains (strings_at m v.point) s
  pub apart : (s t : StringRow) → Contains (strings_at m v.point) s → Contains (strings_at m v.point) t
      → far_end s v.point ≡ far_end t v.point → s ≡ t
  pub strings : (s : StringRow) → Contains (strings_at m v.point) s → SweepsClear m v s
  pub way : (s : StringRow) → Contains m.strings s → is_end s v.point ≡ false
      → boxes_overlap v.from (position_of m v.point) (position_of m s.from) (position_of m s.to) ≡ false

-- no point was touched but this one, and no string but its own
pub record TouchesAlone (m : Map) (t : Touched) (p : ℕ) : Type 0 where
  pub points : AllByRecursion (λ q. q ≡ p) t.points
  pub strings : AllByRecursion (OfString m (λ s. IsTrue (is_end s p))) t.strings
