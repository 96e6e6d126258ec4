use Rattle.std.proofs.Common.{◌≡◌, ◌∙◌, sym, refl, subst, take, Some, true≢false}
use Rattle.std.proofs.lemmas.List.{take_all}
use Rattle.std.proofs.lemmas.Option.{slice_get_read}
use Rattle.std.specs.Prelude.{slice_get, IfSome}
use Rattle.std.specs.List.{AllByRecursion}
use Rattle.cad_map.proofs.CallerLemmas.{All-at_each, All-push, Contains-at, take-more}
use Rattle.cad_near.specs.Near.{OfString, HasEmptyEnds}
use Rattle.cad_near.proofs.RowsByNumber.{of_string, of_no_string}
use Rattle.cad_near.proofs.corners.are_empty_at_ends.Goals as goal
use Rattle.cad_near.proofs.corners.are_empty_at_ends.Goals.{in-Some+else-not-has_empty_ends, in_default}

pub loop-place-init : goal.loop-place-init
loop-place-init g c = record {
  each = tt;
  before = tt;
}

pub has_empty_ends-requires-clause-before : goal.has_empty_ends-requires-clause-before
has_empty_ends-requires-clause-before g c = c.loop-place.invariant.before

pub returns-then-not-has_empty_ends : goal.returns-then-not-has_empty_ends
returns-then-not-has_empty_ends g c =
    let m = g.M.MapView.map c.args.map.now in
    let n = c.index-strings-place.result in
    let at : slice_get c.args.strings.now c.loop-place.place ≡ Some n = slice_get_read c.args.strings.now _ c.loop-place.place n refl c.loop-place-test.true c.index-strings-place.is in
    let told = of_string m c.requires.whole.v1 (HasEmptyEnds m) n c.in-Some.string.now (sym c.in-Some.ensures) c.has_empty_ends.result c.has_empty_ends.ensures in (
      (λ no. absurd (true≢false (sym no))),
      (λ all. absurd (true≢false (sym (told.1 (All-at_each (OfString m (HasEmptyEnds m)) c.args.strings.now n all (Contains-at c.args.strings.now c.loop-place.place n at))) ∙ c.if-not-has_empty_ends.true))),
    )

pub loop-place-preserved : goal.loop-place-preserved
loop-place-preserved g c =
    let m = g.M.MapView.map c.args.map.now in
    let n = c.index-strings-place.result in
    let strings = c.args.strings.now in
    let place = c.loop-place.place in
    let P = OfString m (HasEmptyEnds m) in
    let at : slice_get strings place ≡ Some n = slice_get_read strings _ place n refl c.loop-place-test.true c.index-strings-place.is in
    let more = λ (here : P n). subst (AllByRecursion P) (take-more strings place n at) (All-push P (take place strings) n c.loop-place.invariant.each here) in
    elim c.match-string.branch [
      | in-Some+else-not-has_empty_ends w ↦
          let empty = w.has_empty_ends.ensures.0 w.if-not-has_empty_ends.false in
          record {
            each = more ((of_string m c.requires.whole.v1 (HasEmptyEnds m) n w.in-Some.string.now (sym w.in-Some.ensures) w.has_empty_ends.result w.has_empty_ends.ensures).0 w.if-not-has_empty_ends.false);
            before = subst (λ o. IfSome o (λ s. HasEmptyEnds m s.now)) (sym w.before-is) empty;
          }
      | in_default w ↦ record {
        each = more ((of_no_string m c.requires.whole.v1 (HasEmptyEnds m) n (sym w.in_default.ensures)).0 refl);
        before = subst (λ o. IfSome o (λ s. HasEmptyEnds m s.now)) (sym w.before-is) c.loop-place.invariant.before;
      }
    ]

pub returns : goal.returns
returns g c =
    let m = g.M.MapView.map c.args.map.now in
    let P = OfString m (HasEmptyEnds m) in
    ((λ _. subst (AllByRecursion P) (take_all c.loop-place.place c.args.strings.now c.loop-place-test.false) c.loop-place.invariant.each), (λ _. refl))
