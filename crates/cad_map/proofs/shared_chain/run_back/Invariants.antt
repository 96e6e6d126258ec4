use Rattle.std.proofs.Common.{◌≡◌, ◌-◌}
use Rattle.std.specs.List.{Contains}
use Rattle.cad_map.specs.Map.{all_sides}
use Rattle.cad_map.specs.Steps.{next_side, steps, runs_back}
use Rattle.cad_map.proofs.shared_chain.run_back.Given as goal

-- it is at a side of the map, and the steps from there on decide and lead to the same side
abbrev pub invariant-loop : goal.invariant-loop
invariant-loop g l =
    let m = g.M.MapView.map l.map in
    record {
      there : Contains (all_sides m) l.side;
      left : runs_back (next_side m) l.fn.first l.fn.count ≡ runs_back (next_side m) l.side (l.fn.count - l.counter);
      at : steps (next_side m) l.fn.count l.fn.first ≡ steps (next_side m) (l.fn.count - l.counter) l.side;
    }
