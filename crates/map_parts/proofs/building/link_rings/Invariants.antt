use Rattle.std.proofs.Common.{◌≡◌, ◌<◌, ℕ, Some, slice_get, take}
use Rattle.cad_map.specs.declared.boundary.Boundary.{Boundary}
use Rattle.half_table.specs.Rows.{HalfRows}
use Rattle.map_parts.specs.Labels.{HoldsRings}
use Rattle.map_parts.specs.Building.{HoldsStrings, IsLinkedAlong}
use Rattle.map_parts.proofs.building.link_rings.Given as goal

abbrev pub invariant-loop-boundary : goal.invariant-loop-boundary
invariant-loop-boundary g l = record {
  strings : HoldsStrings l.map l.table.rows l.stars;
  linked : (i : ℕ) (b : Boundary) → i < l.boundary-index → slice_get l.map.boundaries i ≡ Some b → IsLinkedAlong l.map l.table.rows b;
  kept : (rows : HalfRows) → HoldsStrings l.map rows l.stars → HoldsRings l.map rows l.kept (take l.boundary-index l.map.boundaries);
}
