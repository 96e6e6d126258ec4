use Rattle.std.proofs.Common.{◌≡◌, ◌∙◌, ap, List, Bool, map}
use Rattle.std.specs.List.{list_all}
use Rattle.std.proofs.lemmas.List.Folds.{list_all-map}
use Rattle.geo_exact.specs.Position.{Position}
use Rattle.geo_exact.specs.Inside.{is_inside}
use Rattle.cad_valid.specs.Shapes.{Shape}
use Rattle.cad_valid.proofs.anchors.are_each_inside.Goals as goal

-- flags told of the positions of anchors are told of the holes
told : (sides : List (Position × Position)) (holes : List Shape) (positions : List Position) (flags : List Bool)
    → flags ≡ map (is_inside sides) positions → positions ≡ map (λ (hole : Shape). hole.anchor) holes
    → list_all (λ (flag : Bool). flag) flags ≡ list_all (λ (hole : Shape). is_inside sides hole.anchor) holes
told sides holes positions flags inside there =
    ap (list_all (λ (flag : Bool). flag)) (inside ∙ ap (map (is_inside sides)) there)
    ∙ list_all-map (λ (flag : Bool). flag) (is_inside sides) (map (λ (hole : Shape). hole.anchor) holes)
    ∙ list_all-map (is_inside sides) (λ (hole : Shape). hole.anchor) holes

pub returns : goal.returns
returns c =
    c.are_all.ensures
    ∙ told c.args.outline.now.sides c.args.holes.now c.as_slice.result.now c.as_slice-2.result.now
    (c.as_slice-2.ensures.value ∙ c.in_ok-insides.ensures ∙ ap (λ (l : List (Position × Position)). map (is_inside l) c.as_slice.result.now) c.sides.ensures)
    (c.as_slice.ensures.value ∙ c.in_ok-positions.ensures)
