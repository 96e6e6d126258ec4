use Rattle.std.proofs.Common.{arith}
use Rattle.std.proofs.lemmas.List.Sorted.{length_permutation}
use Rattle.cad_map.specs.Map.{strings_at}
use Rattle.cad_map.proofs.CallerLemmas.{lent-some, lent-is}
use Rattle.edit_records.proofs.point_strings.string_at.Goals as goal

pub unwrap-requires : goal.unwrap-requires
unwrap-requires g c =
    let told = c.string_with.ensures in
    let strings = g.M.MapView.view_strings c.args.map.now c.args.point in
    let same = length_permutation (strings_at (g.M.MapView.map c.args.map.now) c.args.point) strings told.each in
    lent-some c.string_with.result strings c.args.place told.string (omega (arith, same, c.requires))

pub returns-clause-told : goal.returns-clause-told
returns-clause-told g c =
    lent-is c.string_with.result c.unwrap.result (g.M.MapView.view_strings c.args.map.now c.args.point) c.args.place c.string_with.ensures.string c.unwrap.ensures
