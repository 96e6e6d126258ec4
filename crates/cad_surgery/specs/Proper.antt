-- That a table of half-edges is the doubly connected edge list of a map (M. de Berg, O. Cheong,
-- M. van Kreveld, M. Overmars, Computational Geometry, chapter 2), with one half kept of each cycle.
use Rattle.std.specs.Prelude.{◌≡◌, true, List, map, count_by, IsPermutation}
use Rattle.std.specs.List.{Contains}
use Rattle.cad_rows.specs.declared.names.Face.{Face}
use Rattle.cad_rows.specs.declared.rows.StringRow.{StringRow}
use Rattle.cad_rings.specs.Cycle.{Ring}
use Rattle.cad_rings.specs.Canonical.{least_rotation}
use Rattle.cad_map.specs.Map.{Map, has_string, rings_of}
use Rattle.half_table.specs.declared.half.Half.{Half}
use Rattle.half_table.specs.Half.{twin}
use Rattle.half_table.specs.Cycle.{holds}
use Rattle.half_table.specs.Rows.{HalfRows, has, next, prev, origin_of, face, cycle}
use Rattle.cad_laws.specs.Local.{HasEnds}

-- the origins along the cycle of a half, written as a map writes a ring
abbrev pub cycle_ring : HalfRows → Half → Ring
cycle_ring rows h = least_rotation (map (origin_of rows) (cycle rows h))

pub record IsProper (m : Map) (rows : HalfRows) (kept : Face → List Half) : Type 0 where
  -- both halves of each of the map's strings are there, and no others
  pub halves : (h : Half) → has rows h ≡ has_string m h.string
  -- prev undoes next, and next undoes prev
  pub prev_next : (h : Half) → prev rows (next rows h) ≡ h
  pub next_prev : (h : Half) → next rows (prev rows h) ≡ h
  -- the forward half begins at the string's first point, the other one at its second
  pub ends : (s : StringRow) → Contains m.strings s → HasEnds rows s
  -- a half ends, where its twin begins, at the origin of its next
  pub meets : (h : Half) → has rows h ≡ true → origin_of rows (next rows h) ≡ origin_of rows (twin h)
  -- along a cycle the face is the same
  pub one_face : (h : Half) → has rows h ≡ true → face rows (next rows h) ≡ face rows h
  -- a half that is kept for a face has it
  pub in_face : (f : Face) (h : Half) → Contains (kept f) h → (has rows h ≡ true) × (face rows h ≡ f)
  -- each half of the face is on the cycle of just one of those kept for it
  pub one_kept : (f : Face) (h : Half) → has rows h ≡ true → face rows h ≡ f
      → count_by (λ k. holds (cycle rows k) h) (kept f) ≡ 1
  -- and the origins along these cycles are the rings of the face, each once
  pub rings : (f : Face) → IsPermutation (map (cycle_ring rows) (kept f)) (rings_of m f)
