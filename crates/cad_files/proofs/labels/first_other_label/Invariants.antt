use Rattle.std.proofs.Common.{◌≡◌, drop, find, not}
use Rattle.cad_files.specs.Corners.{keeps_face_among}
use Rattle.cad_files.proofs.labels.first_other_label.Given as goal

abbrev pub invariant-loop-i : goal.invariant-loop-i
invariant-loop-i l = find (λ s. not (keeps_face_among l.sides s)) l.sides ≡ find (λ s. not (keeps_face_among l.sides s)) (drop l.i l.sides)
