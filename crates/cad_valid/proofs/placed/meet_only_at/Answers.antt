use Rattle.std.proofs.Common.{◌≡◌, sym, ap, ◌∙◌, not}
use Rattle.std.specs.Prelude.{◌&&◌}
use Rattle.geo_exact.specs.Position.{Position}
use Rattle.cad_valid.specs.Placed.{have_common}
use Rattle.cad_valid.proofs.PlacedStrings.{meets-same}
use Rattle.cad_valid.proofs.placed.meet_only_at.Goals as goal

-- where two positions lie as seen from a third one
seen-from : {s t p q a b : Position} → s ≡ t → p ≡ a → q ≡ b → (not (have_common s p q q) && not (have_common s q p p)) ≡ (not (have_common t a b b) && not (have_common t b a a))
seen-from start first second = λ i. not (have_common (start i) (first i) (second i) (second i)) && not (have_common (start i) (second i) (first i) (first i))

pub returns-then-not-on_segment : goal.returns-then-not-on_segment
returns-then-not-on_segment c =
    let first = sym c.if-not-on_segment.true ∙ meets-same c.on_segment.result c.near_position-start.result c.far_position-a.result c.far_position-b.result c.far_position-b.result c.on_segment.ensures in
    let second = meets-same c.on_segment-then-not-on_segment.result c.near_position-start.result c.far_position-b.result c.far_position-a.result c.far_position-a.result c.on_segment-then-not-on_segment.ensures in
    (λ i. not (first i) && not (second i)) ∙ seen-from c.near_position-start.ensures c.far_position-a.ensures c.far_position-b.ensures

pub returns-else-not-on_segment : goal.returns-else-not-on_segment
returns-else-not-on_segment c =
    let first = sym c.if-not-on_segment.false ∙ meets-same c.on_segment.result c.near_position-start.result c.far_position-a.result c.far_position-b.result c.far_position-b.result c.on_segment.ensures in
    ap not c.if-not-on_segment.false
    ∙ (λ i. not (first i) && not (have_common c.near_position-start.result c.far_position-b.result c.far_position-a.result c.far_position-a.result))
    ∙ seen-from c.near_position-start.ensures c.far_position-a.ensures c.far_position-b.ensures
