use Rattle.std.proofs.Common.{◌≡◌, ◌∙◌, ℤ, pos, sym, ap, to_z, of_z, to_z-of_z, FitsSigned, nat_eq}
use Rattle.std.proofs.lemmas.Bool.{eq-eqb, eqb-true}
use Rattle.std.specs.Prelude.{◌↔◌, IsTrue}
use mir.Syntax.{w128}
use Rattle.geo_exact.proofs.Wide.{orientation_fits}
use Rattle.geo_exact.proofs.SignTestLemmas.{on_segment-is}
use Rattle.geo_exact.proofs.segment.on_segment.Goals as goal

-- the bits of a number are all zero just where it is zero
zero_bits : (z : ℤ) → FitsSigned w128 z → IsTrue (nat_eq (of_z w128 z) 0) ↔ (z ≡ pos 0)
zero_bits z fits = (
  (λ h. sym (to_z-of_z fits) ∙ ap (to_z w128) (eqb-true (of_z w128 z) 0 h)),
  (λ h. eq-eqb (of_z w128 z) 0 (ap (of_z w128) h)),
)

pub returns-then-have_boxes_in_common : goal.returns-then-have_boxes_in_common
returns-then-have_boxes_in_common c =
    let is = on_segment-is c.args.a c.args.b c.args.q in
    let bits = zero_bits c.orient.result (orientation_fits c.orient.result c.orient.ensures.small) in (
      (λ h. is.0 (sym c.have_boxes_in_common.ensures ∙ c.if-have_boxes_in_common.true, sym c.orient.ensures.value ∙ bits.0 h)),
      (λ on. bits.1 (c.orient.ensures.value ∙ (is.1 on).1)),
    )

-- a position on the segment would be in its box
pub returns-else-have_boxes_in_common : goal.returns-else-have_boxes_in_common
returns-else-have_boxes_in_common c =
    let is = on_segment-is c.args.a c.args.b c.args.q in (
      (λ inside. let apart = c.if-have_boxes_in_common.false in cc),
      (λ on. c.have_boxes_in_common.ensures ∙ (is.1 on).0),
    )
