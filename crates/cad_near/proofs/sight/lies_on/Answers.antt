use Rattle.std.proofs.Common.{◌∙◌}
use Rattle.geo_exact.proofs.CallerLemmas.{boxes_overlap-HaveCommonLocation}
use Rattle.cad_valid.proofs.CallerLemmas.{meets-same}
use Rattle.cad_near.proofs.sight.lies_on.Goals as goal

pub returns-then-have_boxes_in_common : goal.returns-then-have_boxes_in_common
returns-then-have_boxes_in_common c =
    meets-same c.on_segment.result c.args.a c.args.b c.args.q c.args.q c.on_segment.ensures

-- a position on the segment would be in its box
pub returns-else-have_boxes_in_common : goal.returns-else-have_boxes_in_common
returns-else-have_boxes_in_common c =
    let a = c.args.a in let b = c.args.b in let q = c.args.q in
    meets-same c.have_boxes_in_common.result a b q q (
      (λ inside. let apart = c.if-have_boxes_in_common.false in cc),
      (λ on. c.have_boxes_in_common.ensures ∙ boxes_overlap-HaveCommonLocation a b q q on),
    )
