use Rattle.std.proofs.Common.{take}
use Rattle.cad_rows.specs.declared.names.Face.{Face}
use Rattle.edit_records.proofs.AreasLeft.{IsLeft, KeepsNone}
use Rattle.edit_records.proofs.areas.forget_all.Given as goal

-- none is kept of the faces so far, and all else is left
abbrev pub invariant-loop-face : goal.invariant-loop-face
invariant-loop-face l = record {
  gone : KeepsNone l.areas (take l.face-index l.faces);
  others : (f : Face) → IsLeft l.fn.areas l.areas f;
}
