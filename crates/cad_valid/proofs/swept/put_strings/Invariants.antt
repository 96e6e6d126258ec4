use Rattle.std.proofs.Common.{◌≡◌, ◌++◌, map, take}
use Rattle.cad_valid.specs.Placed.{placed_string}
use Rattle.cad_valid.proofs.swept.put_strings.Given as goal

-- the strings before this one are put
abbrev pub invariant-loop-place : goal.invariant-loop-place
invariant-loop-place l = l.items.items ≡ l.fn.items.items ++ map (placed_string l.map) (take l.place l.map.strings)
