use Rattle.std.proofs.Common.{arith}
use Rattle.cad_map.proofs.CallerLemmas.{few-sources}
use Rattle.cad_edit.proofs.strings_at.joined_source_count.Goals as goal

pub overflow_add-result : goal.overflow_add-result
overflow_add-result g c =
    let few = few-sources (g.M.MapView.map c.args.map.now) c.requires.valid c.args.point c.two_found.result.0.now c.two_found.result.1.now c.two_found.ensures in
    let a = c.len.ensures in
    let b = c.count_others.ensures.few in
    omega (arith, few.0, few.1, a, b)
