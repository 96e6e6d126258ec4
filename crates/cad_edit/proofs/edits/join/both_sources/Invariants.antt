use Rattle.std.proofs.Common.{◌≡◌, ◌==◌, ◌++◌, not, take, filter}
use Rattle.std.specs.List.{list_any}
use Rattle.cad_edit.proofs.edits.join.both_sources.Given as goal

abbrev pub invariant-loop-other : goal.invariant-loop-other
invariant-loop-other l = l.made ≡ l.fn.sources ++ filter (λ y. not (list_any (λ x. x == y) l.fn.sources)) (take l.other-index l.fn.others)
