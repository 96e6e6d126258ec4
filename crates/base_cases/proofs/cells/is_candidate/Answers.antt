use Rattle.std.proofs.Common.{◌≡◌, arith}
use Rattle.std.proofs.lemmas.Iterator.Consumers.{YieldsList-end, YieldsList-from_first}
use Rattle.geo_exact.proofs.CallerLemmas.{boxes_overlap-HaveCommonLocation}
use Rattle.cell_grid.specs.declared.entry.HeldString.{HeldString}
use Rattle.base_cases.proofs.Passed.{none-more, none-at_end, meets_itself}
use Rattle.base_cases.proofs.cells.is_candidate.Goals as goal

pub loop-other-preserved : goal.loop-other-preserved
loop-other-preserved c =
    none-more (λ (k : HeldString). k.string) c.loop-other.yielded c.in-Some.other c.args.no
    c.loop-other.invariant (λ (same : c.in-Some.other.string ≡ c.args.no).
    absurd (omega (arith, c.get.ensures.value, c.get-in-loop-other.ensures.value)))

pub returns : goal.returns
returns c =
    let end =
    YieldsList-end (YieldsList-from_first (λ x. x) (λ w. w) c.candidates-other-items.result
    c.into_iter-other-iterator.ensures.into_iter_gives) c.loop-other.yielded _
    c.loop-other.yielded_by _ _ c.in-None.is c.next.ensures.steps in
    λ _ held.
    none-at_end (λ (k : HeldString). k.string) c.loop-other.yielded c.candidates-other-items.result
    (record { string = c.args.no; from = c.args.a; to = c.args.b }) end.0 c.loop-other.invariant
    (c.candidates-other-items.ensures.all c.args.no c.args.a c.args.b held
    (boxes_overlap-HaveCommonLocation c.args.a c.args.b c.args.a c.args.b
    (meets_itself c.args.a c.args.b)))
