use Rattle.cad_near.specs.Many.{AreNamed}
use Rattle.std.proofs.Common.{take}
use Rattle.cad_near.proofs.many.placed_strings.Given as goal

-- the strings so far
abbrev pub invariant-loop-place : goal.invariant-loop-place
invariant-loop-place g l = AreNamed (g.M.MapView.map l.map) (take l.place l.numbers) l.items.items
