use Rattle.std.proofs.Common.{◌≡◌, ◌<◌, ℕ, Some}
use Rattle.cad_rings.specs.Cycle.{Side, turned}
use Rattle.cad_map.specs.Walk.{first_side}
use Rattle.map_parts.specs.Building.{HoldsStrings, IsLinkedAt, KeepsLinks}
use Rattle.map_parts.specs.Labels.{IsHalfAlong, IsHalfBefore, side_at}
use Rattle.map_parts.proofs.building.link_ring.Given as goal

abbrev pub invariant-loop-place : goal.invariant-loop-place
invariant-loop-place g l = record {
  strings : HoldsStrings l.map l.table.rows l.stars;
  before : IsHalfBefore l.map l.stars (side_at l.place l.boundary.ring) l.before;
  here : IsHalfAlong l.map l.stars (side_at l.place l.boundary.ring) l.here;
  linked : (i : ℕ) → i < l.place → (s : Side) → first_side (turned i l.boundary.ring) ≡ Some s → IsLinkedAt l.map l.table.rows l.boundary s;
  keeps : KeepsLinks l.map l.fn.table.rows l.table.rows;
}
