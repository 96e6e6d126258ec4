use Rattle.std.proofs.Common.{◌≡◌, ◌<◌, ◌+◌, ℕ, suc, add-one, ap, sym, refl, subst, ◌∙◌, ◌++◌, ◌∷◌, [], List, map, take, length, slice_get, Some, arith}
use Rattle.std.proofs.lemmas.List.{take_all}
use Rattle.std.proofs.lemmas.Option.{slice_get_read}
use Rattle.cad_map.specs.Chain.{start_of}
use Rattle.cad_map.specs.Spans.{span_of}
use Rattle.edit_records.specs.declared.record.ChainString.{ChainString}
use Rattle.edit_records.specs.HeldChains.{closed, row_between, rows_along}
use Rattle.edit_records.proofs.ChainSpans.{rows-push}
use Rattle.edit_records.proofs.GridLists.{closed-at}
use Rattle.edit_records.proofs.GridRows.{map-last}
use Rattle.edit_records.proofs.grid_lists.spans_along.Goals as goal

pub loop-place-preserved : goal.loop-place-preserved
loop-place-preserved c =
    let chain = c.args.chain.now in
    let strings = c.args.strings.now in
    let i = c.loop-place.place in
    let string = c.index-strings-place.result in
    let first = c.index-chain-place.result in
    let second = c.point_after-to.result in
    let low : i < length chain = omega (arith, c.loop-place-test.true, c.requires) in
    let at = slice_get_read strings _ i string refl c.loop-place-test.true c.index-strings-place.is in
    let at_first = closed-at chain (start_of chain ∷ []) i first (slice_get_read chain _ i first refl low c.index-chain-place.is) in
    let at_second : slice_get (closed chain) (suc i) ≡ Some second = subst (λ (n : ℕ). slice_get (closed chain) n ≡ Some second) (add-one i) c.point_after-to.ensures in
    let more : rows_along (take (i + 1) strings) (closed chain) ≡ rows_along (take i strings) (closed chain) ++ row_between string first second ∷ [] =
    ap (λ (n : ℕ). rows_along (take n strings) (closed chain)) (add-one i) ∙ rows-push strings (closed chain) i string first second at at_first at_second in
    let span = c.span_between-span.ensures ∙ ap (λ (s : ChainString). span_of (row_between s first second)) (sym c.index-strings-place.is) in
    c.in_ok-push.ensures.items ∙ (λ k. c.loop-place.invariant k ++ span k ∷ [])
    ∙ sym (map-last span_of (rows_along (take i strings) (closed chain)) (row_between string first second)) ∙ ap (map span_of) (sym more)

pub returns : goal.returns
returns c =
    c.loop-place.invariant ∙ ap (λ (l : List ChainString). map span_of (rows_along l (closed c.args.chain.now))) (take_all c.loop-place.place c.args.strings.now c.loop-place-test.false)
