use Rattle.std.proofs.Common.{◌≡◌, ◌==◌, drop, true}
use Rattle.std.specs.List.{list_any}
use Rattle.map_parts.proofs.edits.sources.place_of.Given as goal

-- it is among those that are left
abbrev pub invariant-loop-place : goal.invariant-loop-place
invariant-loop-place l = list_any (λ s. s == l.source) (drop l.place l.sources) ≡ true
