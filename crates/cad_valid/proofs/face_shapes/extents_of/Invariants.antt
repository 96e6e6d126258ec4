use Rattle.std.proofs.Common.{take}
use Rattle.sweep.specs.Extents.{HasExtents}
use Rattle.cad_valid.specs.Shapes.{AreEnclosed}
use Rattle.cad_valid.proofs.face_shapes.extents_of.Given as goal

-- the boxes of the rings so far
abbrev pub invariant-loop-ring : goal.invariant-loop-ring
invariant-loop-ring l = record { boxes : HasExtents l.extents.items; around : AreEnclosed l.extents.items (take l.ring-index l.fn.rings) }
