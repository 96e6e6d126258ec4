use Rattle.std.proofs.Common.{◌≡◌, [], ◌∷◌, ◌++◌, map, take}
use Rattle.cad_map.specs.Chain.{start_of, strings_along}
use Rattle.edit_records.specs.Gridded.{string_entry}
use Rattle.edit_records.proofs.grid_lists.strings_of_chain.Given as goal

abbrev pub invariant-loop-place : goal.invariant-loop-place
invariant-loop-place g l = record {
  strings : l.entries.strings
      ≡ map (string_entry (g.M.MapView.map l.map)) (strings_along [] (take l.place l.strings) (l.chain ++ start_of l.chain ∷ []));
  points : l.entries.points ≡ [];
}
