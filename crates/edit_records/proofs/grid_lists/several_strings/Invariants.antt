use Rattle.std.proofs.Common.{◌≡◌, [], map, take}
use Rattle.cad_map.specs.declared.span.Span.{Span}
use Rattle.cad_map.specs.Map.{position_of}
use Rattle.cell_grid.specs.Grid.{entry_of}
use Rattle.edit_records.proofs.grid_lists.several_strings.Given as goal

abbrev pub invariant-loop-span : goal.invariant-loop-span
invariant-loop-span g l = record {
  strings : l.entries.strings ≡ map (λ (s : Span). entry_of s.string (position_of (g.M.MapView.map l.map) s.from) (position_of (g.M.MapView.map l.map) s.to)) (take l.span-index l.spans);
  points : l.entries.points ≡ [];
}
