use Rattle.std.proofs.Common.{◌≡◌, ◌++◌, take, map, filter, not}
use Rattle.cad_map.specs.Merger.{is_taken_out, handed_over}
use Rattle.cad_edit.proofs.edits.merge.append_others.Given as goal

-- those of the rings so far stand last
abbrev pub invariant-loop-boundary : goal.invariant-loop-boundary
invariant-loop-boundary l =
    l.made.items ≡ l.initial.made.items ++ map (handed_over l.kept l.ended) (filter (λ b. not (is_taken_out l.kept l.ended l.first l.second b)) (take l.boundary-index l.boundaries))
