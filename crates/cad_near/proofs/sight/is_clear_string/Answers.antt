use Rattle.std.proofs.Common.{◌∙◌, sym, ap}
use Rattle.std.specs.List.{list_all}
use Rattle.cad_near.proofs.SeenEnds.{clear-by_ends, met}
use Rattle.cad_near.proofs.sight.is_clear_string.Goals as goal

-- no point has to be looked at
pub returns-then-are_met_by_sight : goal.returns-then-are_met_by_sight
returns-then-are_met_by_sight c =
    let f = c.args.f.now in
    let all = ap (list_all (met f)) (sym c.as_slice.ensures.value) ∙ sym c.are_met_by_sight.ensures ∙ c.if-are_met_by_sight.true in
    sym (clear-by_ends f c.args.seen.now (sym c.requires ∙ c.if-ends.true) all)
