-- A move of a point, and what it leaves of rings as it was.
use Rattle.std.specs.Prelude.{◌≡◌, ◌≢◌, ◌⊎◌, ℕ, Bool, true, false, not, ◌||◌, ◌==◌, List, int_lt, pos, if◌then◌else◌}
use Rattle.std.specs.List.{Contains, list_all, list_any}
use Rattle.geo_exact.specs.Position.{Position}
use Rattle.geo_exact.specs.Inside.{is_counted}
use Rattle.geo_exact.specs.Measure.{doubled_area}
use Rattle.geo_exact.specs.SignTest.{boxes_overlap}
use Rattle.cad_rows.specs.declared.names.Face.{Face}
use Rattle.cad_rows.specs.declared.rows.PointRow.{PointRow}
use Rattle.cad_rows.specs.declared.rows.StringRow.{StringRow}
use Rattle.cell_grid.specs.declared.entry.HeldPoint.{HeldPoint}
use Rattle.cad_rings.specs.Cycle.{Ring, Side, ring_sum, anchor_of, sides_of}
use Rattle.cad_map.specs.declared.boundary.Boundary.{Boundary}
use Rattle.cad_map.specs.Map.{Map, position_of, far_end, is_end, strings_at, is_positive, is_negative}
use Rattle.cad_map.specs.Touched.{Moved, ComesByMove, ComesBySplit}
use Rattle.cad_map.specs.Valid.{IsValid, is_same_position}
use Rattle.cad_near.specs.declared.rays.Ray.{Ray}
use Rattle.cad_near.specs.declared.rounds.Round.{Round}

-- a valid map led here by this move, or by a split that counts as one
pub record MovesValid (m : Map) (v : Moved) : Type 0 where
  pub before : Map
  pub valid : IsValid before
  pub comes : ComesByMove before m v ⊎ ComesBySplit before m v

-- where a point that is at a position lay before the move
abbrev pub lay : Moved → ℕ → Position → Position
lay v p at = if p == v.point then v.from else at

-- where each point lay
abbrev pub position_before : (ℕ → Position) → Moved → ℕ → Position
position_before position v p = lay v p (position p)

-- ---- Which sides are counted at a position

-- Of the sides from x to where the point is and to where it lay, one is counted at q.
abbrev pub is_counted_anew : Position → Position → Position → Position → Bool
is_counted_anew at from q x = if is_counted x at q then not (is_counted x from q) else is_counted x from q

-- Past q the point went with all its sides, or with none.
abbrev pub goes_past_alike : Position → Position → List Ray → Position → Bool
goes_past_alike at from rays q =
    list_all (λ r. is_counted_anew at from q r.position) rays
    || list_all (λ r. not (is_counted_anew at from q r.position)) rays

-- a held point is the moved one, or the move went past it alike
abbrev pub is_past_alike : Position → Moved → List Ray → HeldPoint → Bool
is_past_alike at v rays h = (h.point == v.point) || goes_past_alike at v.from rays h.position

-- past a held point it went with all its sides but the one to that, or with none of them
abbrev pub goes_past_but : Position → Position → List Ray → HeldPoint → Bool
goes_past_but at from rays h =
    list_all (λ r. (r.far == h.point) || is_counted_anew at from h.position r.position) rays
    || list_all (λ r. (r.far == h.point) || not (is_counted_anew at from h.position r.position)) rays

-- a held point is the moved one, or lies elsewhere than that lay
abbrev pub lies_elsewhere : Moved → HeldPoint → Bool
lies_elsewhere v h = (h.point == v.point) || not (is_same_position h.position v.from)

-- ---- What a move leaves as it was

-- the ring passes the point
abbrev pub passes : ℕ → Ring → Bool
passes p ring = list_any (λ q. q == p) ring

-- what a walk round a ring tells: its doubled area, the one before the move, and its anchor
pub record IsRound (m : Map) (v : Moved) (ring : Ring) (r : Round) : Type 0 where
  pub area : r.area ≡ ring_sum doubled_area (position_of m) ring
  pub before : r.area_before ≡ ring_sum doubled_area (position_before (position_of m) v) ring
  pub least : r.least ≡ anchor_of ring

-- a ring that passes the point is positive or negative as it was, and has its anchor elsewhere where that is asked
pub record TurnsAsBefore (m : Map) (v : Moved) (clear : Bool) (ring : Ring) : Type 0 where
  pub positive : is_positive m ring
      ≡ int_lt (pos 0) (ring_sum doubled_area (position_before (position_of m) v) ring)
  pub negative : is_negative m ring
      ≡ int_lt (ring_sum doubled_area (position_before (position_of m) v) ring) (pos 0)
  pub anchor : (clear ≡ true) ⊎ (anchor_of ring ≢ v.point)

-- each ring of the face that leaves the point along one side does
abbrev pub TurnAlong : Map → Face → Moved → Bool → ℕ → Type 0
TurnAlong m f v clear to = (b : Boundary) → Contains m.boundaries b → f ≡ b.face
    → Contains {X = Side} (sides_of b.ring) (v.point, to) → TurnsAsBefore m v clear b.ring

-- one ring of the face alone passes the point
abbrev pub PassesAlone : Map → Face → ℕ → Type 0
PassesAlone m f p = (b c : Boundary) → Contains m.boundaries b → Contains m.boundaries c
    → f ≡ b.face → f ≡ c.face → passes p b.ring ≡ true → passes p c.ring ≡ true → b ≡ c

-- The point left its place, no string but its own comes near its way, and one ring of the face alone passes it.
pub record GoesClear (m : Map) (f : Face) (v : Moved) : Type 0 where
  pub left : (p : PointRow) → Contains m.points p → p.number ≢ v.point → p.position ≢ v.from
  pub way : (s : StringRow) → Contains m.strings s → is_end s v.point ≡ false
      → boxes_overlap v.from (position_of m v.point) (position_of m s.from) (position_of m s.to) ≡ false
  pub alone : PassesAlone m f v.point

-- past q the point went with all its sides, or with none
abbrev pub GoesPast : Map → Moved → Position → Type 0
GoesPast m v q = (anew : Bool) × ((s : StringRow) → Contains (strings_at m v.point) s
    → is_counted_anew (position_of m v.point) v.from q (position_of m (far_end s v.point)) ≡ anew)

-- past a point at q it went with all its sides but the one to that, or with none of them
abbrev pub GoesPastBut : Map → Moved → ℕ → Position → Type 0
GoesPastBut m v n q = (anew : Bool) × ((s : StringRow) → Contains (strings_at m v.point) s → far_end s v.point ≢ n
    → is_counted_anew (position_of m v.point) v.from q (position_of m (far_end s v.point)) ≡ anew)

-- it went so past another point, or past one that a ring of the face alone passes, but for the side to that
abbrev pub GoesPastPoint : Map → Face → Moved → ℕ → Type 0
GoesPastPoint m f v n = GoesPast m v (position_of m n) ⊎ (GoesPastBut m v n (position_of m n) × PassesAlone m f n)

-- what is seen of a held point: it is the moved one, or was passed in one of these ways
abbrev pub IsPast : Map → Face → Moved → Position → List Ray → HeldPoint → Type 0
IsPast m f v at rays h = (is_past_alike at v rays h ≡ true) ⊎ ((goes_past_but at v.from rays h ≡ true) × PassesAlone m f h.point)

-- All rings of the face that pass the point turn as before, past each other point of rings it went with all its sides or
-- none, and where it is an anchor it went clear of other rings.
pub record LeavesRings (m : Map) (f : Face) (v : Moved) : Type 0 where
  pub clear : Bool
  pub goes_clear : clear ≡ true → GoesClear m f v
  pub rings : (s : StringRow) → Contains (strings_at m v.point) s
      → TurnAlong m f v clear (far_end s v.point)
  pub points : (b : Boundary) → Contains m.boundaries b → (p : ℕ) → Contains b.ring p
      → p ≢ v.point → GoesPastPoint m f v p
