use Rattle.std.proofs.Common.{refl, sym, subst, take, true≢false}
use Rattle.std.proofs.lemmas.List.{take_all}
use Rattle.std.proofs.lemmas.Option.{slice_get_read}
use Rattle.std.proofs.lemmas.Bool.{iff_false}
use Rattle.std.specs.Prelude.{IsTrue}
use Rattle.std.specs.List.{AllByRecursion}
use Rattle.cad_map.specs.Map.{is_end}
use Rattle.cad_map.proofs.CallerLemmas.{All-at_each, All-push, Contains-at, take-more}
use Rattle.cad_near.specs.Near.{OfString}
use Rattle.cad_near.proofs.passed.end_there.Goals as goal

pub loop-place-preserved : goal.loop-place-preserved
loop-place-preserved g c =
    let P = OfString (g.M.MapView.map c.args.map.now) (λ s. IsTrue (is_end s c.args.point)) in
    let strings = c.args.strings.now in
    let k = c.loop-place.place in
    let string = c.index-strings-place.result in
    let at = slice_get_read strings _ k string refl c.loop-place-test.true c.index-strings-place.is in
    subst (AllByRecursion P) (take-more strings k string at) (All-push P (take k strings) string c.loop-place.invariant (c.ends_at.ensures.0 c.if-not-ends_at.false))

pub returns-then-not-ends_at : goal.returns-then-not-ends_at
returns-then-not-ends_at g c =
    let P = OfString (g.M.MapView.map c.args.map.now) (λ s. IsTrue (is_end s c.args.point)) in
    let strings = c.args.strings.now in
    let k = c.loop-place.place in
    let string = c.index-strings-place.result in
    let at = slice_get_read strings _ k string refl c.loop-place-test.true c.index-strings-place.is in
    ((λ t. absurd (true≢false (sym t))), (λ all. absurd (iff_false c.ends_at.ensures c.if-not-ends_at.true (All-at_each P strings string all (Contains-at strings k string at)))))

pub returns : goal.returns
returns g c =
    let P = OfString (g.M.MapView.map c.args.map.now) (λ s. IsTrue (is_end s c.args.point)) in
    ((λ t. subst (AllByRecursion P) (take_all c.loop-place.place c.args.strings.now c.loop-place-test.false) c.loop-place.invariant), (λ all. refl))
