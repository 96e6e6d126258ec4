use Rattle.std.proofs.Common.{sym, ◌∙◌, arith}
use Rattle.std.proofs.lemmas.List.Sorted.{length_permutation}
use Rattle.cad_map.specs.Map.{strings_at}
use Rattle.cad_map.proofs.CallerLemmas.{lent-some, lent-is, two-told}
use Rattle.cad_edit.proofs.strings_at.two_at.Goals as goal

pub unwrap-first-requires : goal.unwrap-first-requires
unwrap-first-requires g c =
    let told = c.string_with.ensures in
    let strings = g.M.MapView.view_strings c.args.map.now c.args.point in
    let same = length_permutation (strings_at (g.M.MapView.map c.args.map.now) c.args.point) strings told.each in
    lent-some c.string_with.result strings 0 told.string (omega (arith, same, c.requires.two))

pub unwrap-second-requires : goal.unwrap-second-requires
unwrap-second-requires g c =
    let told = c.string_with-2.ensures in
    let strings = g.M.MapView.view_strings c.args.map.now c.args.point in
    let same = length_permutation (strings_at (g.M.MapView.map c.args.map.now) c.args.point) strings told.each in
    lent-some c.string_with-2.result strings 1 told.string (omega (arith, same, c.requires.two))

pub returns : goal.returns
returns g c =
    let m = g.M.MapView.map c.args.map.now in
    let strings = g.M.MapView.view_strings c.args.map.now c.args.point in
    let first = lent-is c.string_with.result c.unwrap-first.result strings 0 c.string_with.ensures.string c.unwrap-first.ensures in
    let second = lent-is c.string_with-2.result c.unwrap-second.result strings 1 c.string_with-2.ensures.string c.unwrap-second.ensures in
    sym (two-told m c.requires.valid c.args.point strings c.string_with.ensures.each c.requires.two c.unwrap-first.result.now c.unwrap-second.result.now first second) ∙ c.in_order.ensures
