use Rattle.std.proofs.Common.{◌≡◌, refl, subst, Some}
use Rattle.std.proofs.lemmas.List.{take_all}
use Rattle.std.proofs.lemmas.Option.{slice_get_read}
use Rattle.std.specs.Prelude.{slice_get}
use Rattle.std.specs.List.{AllByRecursion}
use Rattle.geo_exact.specs.Position.{Position}
use Rattle.cad_near.specs.Seen.{HasInReach, IsInReach}
use Rattle.cad_near.proofs.SeenNear.{in_wider, one_more}
use Rattle.cad_near.proofs.seen.grown_by.Goals as goal

pub loop-item-init : goal.loop-item-init
loop-item-init c = record { all = tt; kept = λ q h. h }

pub loop-item-preserved : goal.loop-item-preserved
loop-item-preserved c =
    let items = c.args.items.now in
    let k = c.loop-item.item-index in
    let item = c.item-item.result in
    let at : slice_get items k ≡ Some item = slice_get_read items _ k item refl c.loop-item-test.true c.item-item.is in
    let wider : (q : Position) → IsInReach c.loop-item.grown_so_far q → IsInReach c.grown-grown_so_far.result q =
    λ q h. c.grown-grown_so_far.ensures.kept q (c.grown.ensures.kept q h) in
    record {
      all = one_more (HasInReach c.grown-grown_so_far.result) items k item at
          (in_wider c.loop-item.grown_so_far c.grown-grown_so_far.result wider _ c.loop-item.invariant.all)
          (record { a = c.grown-grown_so_far.ensures.kept item.a c.grown.ensures.within; b = c.grown-grown_so_far.ensures.within });
      kept = λ q h. wider q (c.loop-item.invariant.kept q h);
    }

pub returns-clause-all : goal.returns-clause-all
returns-clause-all c =
    subst (AllByRecursion (HasInReach c.loop-item.grown_so_far)) (take_all c.loop-item.item-index c.args.items.now c.loop-item-test.false) c.loop-item.invariant.all

pub returns-clause-kept : goal.returns-clause-kept
returns-clause-kept c = c.loop-item.invariant.kept
