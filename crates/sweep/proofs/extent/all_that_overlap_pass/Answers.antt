use Rattle.std.proofs.Common.{List, length, sym, subst, arith, get_or}
use Rattle.std.proofs.lemmas.Bool.{OnTrue_at, OnTrue_from, OnFalse_at, OnFalse_from}
use Rattle.std.proofs.lemmas.List.Elements.{Contains-get_or}
use Rattle.sweep.specs.declared.extent.Extent.{Extent}
use Rattle.sweep.specs.declared.span.Span.{Span}
use Rattle.sweep.specs.Spans.{HavePlacesBelow}
use Rattle.sweep.specs.Extents.{span_in}
use Rattle.sweep.proofs.Rows.{one_row}
use Rattle.sweep.proofs.extent.all_that_overlap_pass.Goals as goal

pub returns-clause-passed : goal.returns-clause-passed
returns-clause-passed g c =
    OnTrue_from c.all_that_meet_pass.result _ (λ is i j d in_i in_j apart o.
    let a : Extent = get_or c.args.extents.now i d in
    let b : Extent = get_or c.args.extents.now j d in
    let whole_a = c.requires.extents.each a (Contains-get_or c.args.extents.now i d in_i) in
    let whole_b = c.requires.extents.each b (Contains-get_or c.args.extents.now j d in_j) in
    let one = one_row c.args.height a b (omega (arith, c.requires.height)) whole_a.up whole_b.up o in
    let a_left = o.a_left in
    let b_left = o.b_left in
    let has_a = c.in_ok-spans.ensures.each i d one.row in_i one.of_first in
    let has_b = c.in_ok-spans.ensures.each j d one.row in_j one.of_second in
    let same = c.as_mut_slice.ensures.value in
    OnTrue_at is c.all_that_meet_pass.ensures.passed (span_in a i one.row) (span_in b j one.row)
    (rw (sym same) at has_a) (rw (sym same) at has_b)
    apart (omega (arith, a_left)) (omega (arith, b_left)))

pub returns-clause-failed : goal.returns-clause-failed
returns-clause-failed g c =
    let n = length c.args.extents.now in
    let same = c.as_mut_slice.ensures.value in
    let below = subst (λ (spans : List Span). HavePlacesBelow spans n) (sym same) c.in_ok-spans.ensures.places in
    OnFalse_from c.all_that_meet_pass.result _ (λ is.
    let f = OnFalse_at is c.all_that_meet_pass.ensures.failed in
    (f.first.place, f.second.place, f.apart, f.fails, below f.first f.first_in, below f.second f.second_in))
