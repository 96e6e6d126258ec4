use Rattle.std.proofs.Common.{◌≡◌, ◌≤◌, ◌≢◌, ℕ, sym, ap, subst, ◌∙◌, take, length, Some, true≢false}
use Rattle.std.specs.List.{AllByRecursion}
use Rattle.std.proofs.lemmas.List.Sorted.{Contains-permutation, IsPermutation-sym}
use Rattle.std.proofs.lemmas.Bool.{eqb-true, eq-eqb}
use Rattle.cad_map.specs.Map.{far_end, is_end, strings_at}
use Rattle.cad_map.specs.Spans.{span_of}
use Rattle.cad_map.proofs.CallerLemmas.{All-at_each, All-push, Contains-at, Contains-filter, Joins, filter-Contains, joins-end, joins-far, joins-far_end, take-more, all-told}
use Rattle.edit_records.proofs.SharedStrings.{joined-apart, leads-joins, one-between}
use Rattle.edit_records.proofs.shared_strings.span_joining.Goals as goal

pub returns-then-eq : goal.returns-then-eq
returns-then-eq g c s there leads =
    let m = g.M.MapView.map c.args.map.now in
    let from = c.args.from in
    let strings = g.M.MapView.view_strings c.args.map.now from in
    let row = c.string_at-row.result.now in
    let among = Contains-permutation strings (strings_at m from) row (IsPermutation-sym (strings_at m from) strings c.string_at-row.ensures.each) (Contains-at strings c.loop-place.place row c.string_at-row.ensures.told) in
    let of_map = filter-Contains (λ r. is_end r from) m.strings row among in
    let far : far_end row from ≡ c.args.to = sym c.far_end.ensures ∙ eqb-true c.far_end.result c.args.to (sym c.eq.ensures ∙ c.if-eq.true) in
    let joins = subst (Joins row from) far (joins-far row from of_map.1) in
    let same = one-between m c.requires from c.args.to row s of_map.0 there joins (leads-joins s from c.args.to leads) in
    ap Some (c.span_of.ensures ∙ ap span_of same)

pub loop-place-preserved : goal.loop-place-preserved
loop-place-preserved g c =
    let strings = g.M.MapView.view_strings c.args.map.now c.args.from in
    let row = c.string_at-row.result.now in
    let other : far_end row c.args.from ≢ c.args.to = λ same. true≢false (sym (eq-eqb c.far_end.result c.args.to (c.far_end.ensures ∙ same)) ∙ sym c.eq.ensures ∙ c.if-eq.false) in
    record {
      none = subst (AllByRecursion (λ s. far_end s c.args.from ≢ c.args.to)) (take-more strings c.loop-place.place row c.string_at-row.ensures.told)
          (All-push (λ s. far_end s c.args.from ≢ c.args.to) (take c.loop-place.place strings) row c.loop-place.invariant.none other);
      each = λ _. c.string_at-row.ensures.each;
    }

pub returns : goal.returns
returns g c s there leads =
    let m = g.M.MapView.map c.args.map.now in
    let from = c.args.from in
    let strings = g.M.MapView.view_strings c.args.map.now from in
    let joins = leads-joins s from c.args.to leads in
    let among = Contains-filter (λ r. is_end r from) m.strings s there (joins-end s from c.args.to joins) in
    let past : length (strings_at m from) ≤ c.loop-place.place = subst (λ (n : ℕ). n ≤ c.loop-place.place) c.degree-place-end.ensures c.loop-place-test.false in
    let found = Contains-permutation (strings_at m from) (take c.loop-place.place strings) s (all-told m from strings c.loop-place.place past c.loop-place.invariant.each) among in
    absurd (All-at_each (λ r. far_end r from ≢ c.args.to) (take c.loop-place.place strings) s c.loop-place.invariant.none found (joins-far_end s from c.args.to (joined-apart m c.requires s from c.args.to there joins) joins))
