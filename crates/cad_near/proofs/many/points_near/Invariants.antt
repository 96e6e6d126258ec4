use Rattle.std.proofs.Common.{◌≡◌, map}
use Rattle.cell_grid.specs.declared.entry.HeldPoint.{HeldPoint}
use Rattle.cad_near.proofs.many.points_near.Given as goal

-- those so far
abbrev pub invariant-loop-held : goal.invariant-loop-held
invariant-loop-held l = l.numbers.items ≡ map (λ (h : HeldPoint). h.point) l.yielded
