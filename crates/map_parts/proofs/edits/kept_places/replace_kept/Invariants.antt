use Rattle.std.proofs.Common.{◌≡◌, ℕ, ◌++◌, map, take, drop}
use Rattle.key_lists.specs.Held.{items_at}
use Rattle.map_parts.specs.Passing.{in_place_of}
use Rattle.map_parts.proofs.edits.kept_places.replace_kept.Given as goal

-- the first ones have the half in the other's place
abbrev pub invariant-loop-place : goal.invariant-loop-place
invariant-loop-place l = (items_at l.kept l.key
    ≡ map (in_place_of l.from l.to) (take l.place (items_at l.initial.kept l.key)) ++ drop l.place (items_at l.initial.kept l.key))
    × ((n : ℕ) → (l.key ≡ n → ⊥) → items_at l.kept n ≡ items_at l.initial.kept n)
