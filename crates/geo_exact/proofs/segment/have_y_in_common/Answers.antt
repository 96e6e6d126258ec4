use Rattle.std.proofs.Common.{◌∙◌}
use Rattle.geo_exact.specs.SignTest.{overlaps}
use Rattle.geo_exact.proofs.Wide.{position_read}
use Rattle.geo_exact.proofs.segment.have_y_in_common.Goals as goal

pub returns : goal.returns
returns c =
    let a = position_read c.a.invariant c.a.view_is in let b = position_read c.b.invariant c.b.view_is in
    let d = position_read c.c.invariant c.c.view_is in let e = position_read c.d.invariant c.d.view_is in
    c.have_stretch_in_common.ensures ∙ (λ i. overlaps (a i).y (b i).y (d i).y (e i).y)
