use Rattle.std.proofs.Common.{◌≢◌, ◌∙◌, ap, subst, List, length, not, arith}
use Rattle.std.specs.Prelude.{option_map}
use Rattle.std.specs.Bool.{OnTrue}
use Rattle.std.proofs.lemmas.Bool.{OnTrue_at}
use Rattle.std.proofs.lemmas.Option.{slice_get_within}
use Rattle.cad_rings.specs.Cycle.{Side}
use Rattle.cad_map.specs.Valid.{EachPair}
use Rattle.cad_files.specs.Corners.{NoneMet}
use Rattle.cad_files.specs.declared.sides.PlanSide.{PlanSide}
use Rattle.cad_files.specs.declared.faults.PlanFault.TheVariants as faults
use Rattle.cad_files.proofs.RepeatFacts.{none-told}
use Rattle.cad_files.proofs.CornerFacts.{met-corner, stop-corner, no-corner, are-linked, sides-of_map}
use Rattle.cad_files.proofs.corners.follow_sides.Goals as goal

pub returns-in-Some-clause-err : goal.returns-in-Some-clause-err
returns-in-Some-clause-err c = λ nm.
    let first = rw (c.in-Some.is, c.as_slice-2.ensures.value) at c.in_ok-place.ensures.some in
    ap (option_map (λ n. faults.Corner n))
    (met-corner c.args.plain.now c.args.strings.now c.follow_each.new.passed.items c.in_ok-stop.ensures.each c.in_ok-stop.stop c.in_ok-stop.ensures.all c.in_ok-stop.ensures.stop c.in-Some.place c.index.result.now c.index.ensures first)

pub returns-in-Some-stop-clause-err : goal.returns-in-Some-stop-clause-err
returns-in-Some-stop-clause-err c = λ nm.
    let passed = c.follow_each.new.passed.items in
    let none : NoneMet passed (length passed) = rw (c.in_default.is, c.as_slice-2.ensures.value) at c.in_ok-place.ensures.none in
    let stop = rw c.in-Some-stop.is at c.in_ok-stop.ensures.stop in
    ap (option_map (λ n. faults.Corner n)) (stop-corner c.args.plain.now c.args.strings.now passed c.in_ok-stop.ensures.each c.in-Some-stop.end stop none)

pub returns-in-None-clause-linked : goal.returns-in-None-clause-linked
returns-in-None-clause-linked c =
    let all = rw c.in-None.is at c.in_ok-stop.ensures.all in
    are-linked c.args.strings.now c.follow_each.new.passed.items all c.in_ok-stop.ensures.linked

pub returns-in-None-clause-free : goal.returns-in-None-clause-free
returns-in-None-clause-free c =
    let passed = c.follow_each.new.passed.items in
    let none : NoneMet passed (length passed) = rw (c.in_default.is, c.as_slice-2.ensures.value) at c.in_ok-place.ensures.none in
    let all = rw c.in-None.is at c.in_ok-stop.ensures.all in
    no-corner c.args.plain.now c.args.strings.now passed c.in_ok-stop.ensures.each all none

pub are_met_once-requires : goal.are_met_once-requires
are_met_once-requires c =
    let strings = c.args.strings.now in
    let passed = c.follow_each.new.passed.items in
    let all = none-told c.in_ok-stop.stop _ (c.is_none.ensures ∙ ap not c.if-is_none.true) c.in_ok-stop.ensures.all in
    let apart = c.lead_alone.ensures c.args.plain.now c.requires.stars c.requires.rows in
    let sides = sides-of_map strings passed all c.args.plain.now c.requires.rows in
    rw c.as_slice.ensures.value (record {
      apart = subst (λ (l : List Side). OnTrue c.lead_alone.result (EachPair (λ a b. a ≢ b) l)) sides apart;
      linked = are-linked strings passed all c.in_ok-stop.ensures.linked;
    })

pub returns-then-branch-clause-linked : goal.returns-then-branch-clause-linked
returns-then-branch-clause-linked c =
    let passed = c.follow_each.new.passed.items in
    let all = none-told c.in_ok-stop.stop _ (c.is_none.ensures ∙ ap not c.if-is_none.true) c.in_ok-stop.ensures.all in
    are-linked c.args.strings.now passed all c.in_ok-stop.ensures.linked

pub returns-then-branch-clause-free : goal.returns-then-branch-clause-free
returns-then-branch-clause-free c =
    let passed = c.follow_each.new.passed.items in
    let all = none-told c.in_ok-stop.stop _ (c.is_none.ensures ∙ ap not c.if-is_none.true) c.in_ok-stop.ensures.all in
    let none = subst (λ (l : List PlanSide). NoneMet l (length l)) c.as_slice.ensures.value (OnTrue_at c.if-branch.true c.in_ok-are_met_once.ensures) in
    no-corner c.args.plain.now c.args.strings.now passed c.in_ok-stop.ensures.each all none

pub index-requires : goal.index-requires
index-requires c =
    let first = rw (c.in-Some.is, c.as_slice-2.ensures.value) at c.in_ok-place.ensures.some in
    let within = slice_get_within c.follow_each.new.passed.items c.in-Some.place first.side first.there in
    let count = c.as_slice-2.ensures.len in
    let same = ap length c.as_slice-2.ensures.value in
    omega (arith, within, count, same)
