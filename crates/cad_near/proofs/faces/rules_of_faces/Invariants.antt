use Rattle.std.proofs.Common.{take}
use Rattle.std.specs.Prelude.{◌↔◌, IsTrue}
use Rattle.std.specs.List.{AllByRecursion}
use Rattle.cad_near.specs.Near.{OfFace, HasOutlines, HasSoundHoles}
use Rattle.cad_near.proofs.faces.rules_of_faces.Given as goal

-- the faces so far
abbrev pub invariant-loop-face : goal.invariant-loop-face
invariant-loop-face g l =
    let m = g.M.MapView.map l.map in
    record {
      outlines : IsTrue l.outlines ↔ AllByRecursion (OfFace m (HasOutlines m)) (take l.face-index l.fn.faces);
      holes : IsTrue l.holes ↔ AllByRecursion (OfFace m (HasSoundHoles m)) (take l.face-index l.fn.faces);
    }
