use Rattle.std.proofs.Common.{◌∙◌, arith}
use Rattle.std.proofs.lemmas.Bool.Decides.{nat_tests}
use Rattle.cad_map.proofs.CallerLemmas.{two-told}
use Rattle.edit_records.proofs.GridEdits.{lower-first, lower-second}
use Rattle.edit_records.proofs.grid_edits.far_ends.Goals as goal

pub returns-then-get : goal.returns-then-get
returns-then-get g c = λ s t are.
    let told = two-told (g.M.MapView.map c.args.map.now) c.requires.valid c.args.point (g.M.MapView.view_strings c.args.map.now c.args.point) c.string_at-first.ensures.each c.requires.two _ _ c.string_at-first.ensures.told c.string_at-second.ensures.told in
    (λ i. (c.far_end.ensures i, c.far_end-then-get.ensures i))
    ∙ lower-second c.args.point _ _ s t (told ∙ are) (grind (arith, nat_tests, c.get.ensures.value, c.get-2.ensures.value, c.if-get.true))

pub returns-else-get : goal.returns-else-get
returns-else-get g c = λ s t are.
    let told = two-told (g.M.MapView.map c.args.map.now) c.requires.valid c.args.point (g.M.MapView.view_strings c.args.map.now c.args.point) c.string_at-first.ensures.each c.requires.two _ _ c.string_at-first.ensures.told c.string_at-second.ensures.told in
    (λ i. (c.far_end-else-get.ensures i, c.far_end-else-get-2.ensures i))
    ∙ lower-first c.args.point _ _ s t (told ∙ are) (grind (arith, nat_tests, c.get.ensures.value, c.get-2.ensures.value, c.if-get.false))
