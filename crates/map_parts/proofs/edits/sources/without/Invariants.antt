use Rattle.std.proofs.Common.{◌≡◌, ◌==◌, not, take, filter}
use Rattle.map_parts.proofs.edits.sources.without.Given as goal

abbrev pub invariant-loop-other : goal.invariant-loop-other
invariant-loop-other l = l.made ≡ filter (λ s. not (s == l.source)) (take l.other-index l.fn.sources)
