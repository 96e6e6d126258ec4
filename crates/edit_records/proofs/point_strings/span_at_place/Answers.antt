use Rattle.std.proofs.Common.{sym, ◌∙◌, arith}
use Rattle.std.proofs.lemmas.List.Sorted.{length_permutation}
use Rattle.cad_map.specs.Map.{strings_at}
use Rattle.cad_map.specs.Spans.{span_of}
use Rattle.cad_map.proofs.CallerLemmas.{told-some}
use Rattle.edit_records.proofs.point_strings.span_at_place.Goals as goal

pub unwrap-requires : goal.unwrap-requires
unwrap-requires g c =
    let told = c.span_with.ensures in
    let strings = g.M.MapView.view_strings c.args.map.now c.args.point in
    let same = length_permutation (strings_at (g.M.MapView.map c.args.map.now) c.args.point) strings told.each in
    told-some span_of c.span_with.result strings c.args.place told.span (omega (arith, same, c.requires))

pub returns-clause-told : goal.returns-clause-told
returns-clause-told g c = sym c.span_with.ensures.span ∙ c.unwrap.ensures
