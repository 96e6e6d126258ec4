use Rattle.std.proofs.Common.{◌∙◌, sym, ap}
use Rattle.std.proofs.lemmas.Option.{get_or_from_slice_get}
use Rattle.cad_files.specs.declared.rows.PlanString.{PlanString}
use Rattle.cad_files.proofs.StringSides.{along-first, along-second}
use Rattle.cad_files.proofs.corners.place_along.Goals as goal

pub returns-then-get : goal.returns-then-get
returns-then-get c =
    let strings = c.args.strings.now in
    let spoke = c.args.spoke.now in
    let is = ap (λ (s : PlanString). s.row.from) (get_or_from_slice_get strings spoke.place c.requires.string c.index-strings-spoke.result c.requires.there) in
    along-first strings spoke c.requires (sym is ∙ sym c.get.ensures.value ∙ c.if-get.true ∙ c.get-2.ensures.value)

pub returns-else-get : goal.returns-else-get
returns-else-get c =
    let strings = c.args.strings.now in
    let spoke = c.args.spoke.now in
    let is = ap (λ (s : PlanString). s.row.from) (get_or_from_slice_get strings spoke.place c.requires.string c.index-strings-spoke.result c.requires.there) in
    along-second strings spoke c.requires (λ from. c.if-get.false (c.get.ensures.value ∙ is ∙ from ∙ sym c.get-2.ensures.value))
