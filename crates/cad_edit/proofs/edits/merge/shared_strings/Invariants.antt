use Rattle.std.proofs.Common.{◌≡◌, take, map, filter}
use Rattle.cad_map.specs.Merger.{is_shared}
use Rattle.cad_edit.proofs.edits.merge.shared_strings.Given as goal

abbrev pub invariant-loop-place : goal.invariant-loop-place
invariant-loop-place l = l.shared.items ≡ map (λ row. row.number) (filter (is_shared l.fn.map l.kept l.ended) (take l.place l.fn.map.strings))
