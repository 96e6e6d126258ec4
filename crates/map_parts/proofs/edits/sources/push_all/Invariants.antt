use Rattle.std.proofs.Common.{◌≡◌, ◌++◌, take}
use Rattle.map_parts.proofs.edits.sources.push_all.Given as goal

abbrev pub invariant-loop-source : goal.invariant-loop-source
invariant-loop-source l = l.sources ≡ l.fn.sources ++ take l.source-index l.fn.more
