use Rattle.std.proofs.Common.{◌≡◌, map, take}
use Rattle.sweep.specs.Extents.{HasExtents}
use Rattle.cad_valid.specs.Boxes.{box_of}
use Rattle.cad_valid.proofs.boxes.boxes_of.Given as goal

-- the boxes of those before this one
abbrev pub invariant-loop-item : goal.invariant-loop-item
invariant-loop-item l =
    (l.boxes.items ≡ map box_of (take l.item-index l.items)) × HasExtents l.boxes.items
