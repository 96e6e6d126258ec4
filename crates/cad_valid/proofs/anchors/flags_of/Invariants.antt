use Rattle.std.proofs.Common.{◌≡◌, map, take}
use Rattle.cad_valid.specs.declared.anchors.Anchor.{Anchor}
use Rattle.cad_valid.proofs.anchors.flags_of.Given as goal

-- which of the anchors before this one have been found inside
abbrev pub invariant-loop-anchor : goal.invariant-loop-anchor
invariant-loop-anchor l = l.flags.items ≡ map (λ (a : Anchor). a.inside) (take l.anchor-index l.fn.anchors)
