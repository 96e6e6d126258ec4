use Rattle.std.proofs.Common.{◌∙◌, sym, ap, subst, List, map, arith}
use Rattle.std.proofs.lemmas.Result.{IfOk-weaker}
use Rattle.std.specs.List.{AllByRecursion}
use Rattle.cad_rings.specs.Cycle.{Ring}
use Rattle.cad_map.specs.Map.{rings_of, position_of}
use Rattle.cad_valid.specs.Shapes.{shape_of, told_apart}
use Rattle.cad_valid.specs.Rings.{IsRingOf}
use Rattle.cad_valid.proofs.RingsInMap.{rings-of_map, run-length}
use Rattle.cad_valid.proofs.Sweeping.{sound-alone}
use Rattle.cad_valid.proofs.ShapesOfFace.{holes-shapes, sound-told}
use Rattle.cad_valid.proofs.holes_swept.has_sound_holes.Goals as goal

pub returns-then-run-lt2 : goal.returns-then-run-lt2
returns-then-run-lt2 c =
    let rings = rings_of c.args.map.now c.args.face in
    let long = run-length c.run_of-run.result.now rings c.run_of-run.ensures in
    sym (sound-alone c.args.map.now rings (omega arith))

pub shapes_of-requires : goal.shapes_of-requires
shapes_of-requires c =
    subst (λ (l : List Ring). AllByRecursion (IsRingOf c.args.map.now) l) (sym c.run_of-run.ensures) (rings-of_map c.args.map.now c.requires c.args.face)

pub has_sound_holes-requires : goal.has_sound_holes-requires
has_sound_holes-requires c =
    let m = c.args.map.now in
    holes-shapes m (rings_of m c.args.face) c.in_ok-shapes.shapes (c.in_ok-shapes.ensures ∙ ap (λ (l : List Ring). told_apart (map (shape_of (position_of m)) l)) c.run_of-run.ensures)

pub returns : goal.returns
returns c =
    let m = c.args.map.now in
    let told = c.in_ok-shapes.ensures ∙ ap (λ (l : List Ring). told_apart (map (shape_of (position_of m)) l)) c.run_of-run.ensures in
    IfOk-weaker c.has_sound_holes.result _ _ (λ b is. is ∙ sound-told m (rings_of m c.args.face) c.in_ok-shapes.shapes told) c.has_sound_holes.ensures
