use Rattle.std.proofs.Common.{◌<◌, ◌≤◌, sym, subst, ap, ◌∙◌, ℕ, [], length}
use Rattle.std.proofs.lemmas.Option.{slice_get-get_or}
use Rattle.std.specs.List.{list_any}
use Rattle.cad_map.specs.Map.{rings_at}
use Rattle.cad_map.specs.Rings.{ring_at}
use Rattle.cad_map.specs.Steps.{has_chain_along, IsFoundAlong}
use Rattle.cad_map.proofs.Lists.EachElement.{any-goes, any-done}
use Rattle.cad_map.proofs.SharedChains.ChainsOfMap.{chain-shared, shared_chain-none}
use Rattle.cad_map.proofs.Lists.Elements.{Contains-at}
use Rattle.cad_map.proofs.shared_chain.find_chain_of_sides.Goals as goal

pub returns-in-Some-clause-some : goal.returns-in-Some-clause-some
returns-in-Some-clause-some g c =
    let m = g.M.MapView.map c.args.map.now in
    let bs = g.M.MapView.rings c.args.map.now in
    let rings = rings_at c.args.kept.now bs in
    let within : c.loop-place.place < length rings = subst (λ (n : ℕ). c.loop-place.place < n) c.ring_count-place-end.ensures.count c.loop-place-test.true in
    let ring = ring_at bs c.args.kept.now c.loop-place.place in
    let there = Contains-at rings c.loop-place.place ring (slice_get-get_or rings c.loop-place.place [] within) in
    let found = subst (λ (n : ℕ). IsFoundAlong m c.args.ended.now n ring c.in-Some.chain) c.requires.counted c.in-Some.ensures.some in
    chain-shared m c.requires.valid c.args.kept.now c.args.ended.now bs c.ring_count-place-end.ensures.canonical_order ring there c.in-Some.chain found

pub loop-place-preserved : goal.loop-place-preserved
loop-place-preserved g c =
    let m = g.M.MapView.map c.args.map.now in
    let rings = rings_at c.args.kept.now (g.M.MapView.rings c.args.map.now) in
    let test = has_chain_along m c.args.ended.now c.args.sides in
    let within : c.loop-place.place < length rings = subst (λ (n : ℕ). c.loop-place.place < n) c.ring_count-place-end.ensures.count c.loop-place-test.true in
    let at = slice_get-get_or rings c.loop-place.place [] within in
    c.loop-place.invariant ∙ any-goes test rings c.loop-place.place _ at c.in_default.ensures.none

pub returns-clause-none : goal.returns-clause-none
returns-clause-none g c =
    let m = g.M.MapView.map c.args.map.now in
    let bs = g.M.MapView.rings c.args.map.now in
    let rings = rings_at c.args.kept.now bs in
    let past : length rings ≤ c.loop-place.place = subst (λ (n : ℕ). n ≤ c.loop-place.place) c.ring_count-place-end.ensures.count c.loop-place-test.false in
    let none = c.loop-place.invariant ∙ any-done (has_chain_along m c.args.ended.now c.args.sides) rings c.loop-place.place past in
    shared_chain-none m c.requires.valid c.args.kept.now c.args.ended.now bs c.ring_count-place-end.ensures.canonical_order (ap (λ (n : ℕ). list_any (has_chain_along m c.args.ended.now n) rings) (sym c.requires.counted) ∙ none)
