use Rattle.std.proofs.Common.{◌∙◌, sym}
use Rattle.std.proofs.lemmas.Bool.{eqb-true}
use Rattle.cad_near.proofs.StringsTold.{of-string_told}
use Rattle.cad_near.proofs.passed.is_string_at.Goals as goal

pub returns-in-Some : goal.returns-in-Some
returns-in-Some g c = λ t.
    let p = c.args.point in
    let same = sym c.get.ensures.value ∙ eqb-true c.get.result c.get-in-Some.result t ∙ c.get-in-Some.ensures.value in
    of-string_told (g.M.MapView.map c.args.map.now) c.requires p (g.M.MapView.view_strings c.args.map.now p) c.span_with.ensures.each c.args.place
    c.span_with.result c.in-Some.span c.span_with.ensures.span c.in-Some.is c.args.string same
