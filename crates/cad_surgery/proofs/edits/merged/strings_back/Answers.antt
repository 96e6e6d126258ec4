use Rattle.std.proofs.Common.{◌≡◌, ◌<◌, ◌+◌, ℕ, suc, add-one, ap, sym, refl, subst, ◌∙◌, ◌++◌, ◌∷◌, [], map, take, length, slice_get, Some, arith}
use Rattle.std.proofs.lemmas.List.{take_more}
use Rattle.std.proofs.lemmas.Option.{get_or_from_slice_get, slice_get_read}
use Rattle.edit_records.specs.declared.record.ChainString.{ChainString}
use Rattle.edit_records.specs.HeldChains.{row_between, rows_along}
use Rattle.edit_records.proofs.ChainSpans.{rows-push}
use Rattle.edit_records.proofs.GridRows.{map-last}
use Rattle.map_parts.specs.declared.edits.placed_strings.PlacedString.{PlacedString}
use Rattle.map_parts.specs.Merging.{rows_gone}
use Rattle.cad_surgery.proofs.edits.merged.strings_back.Goals as goal

pub loop-place-preserved : goal.loop-place-preserved
loop-place-preserved c =
    let chain = c.args.chain.now in
    let strings = c.args.strings.now in
    let i = c.loop-place.place in
    let s : ChainString = c.index-strings-place.result in
    let first = c.index-chain-place.result in
    let second = c.index-chain-place-in-loop-place.result in
    let went : PlacedString = c.in_ok-string.string in
    let was = c.loop-place.invariant in
    let low : i < length chain = omega (arith, c.loop-place-test.true, c.requires) in
    let next : i + 1 < length chain = omega (arith, c.loop-place-test.true, c.requires) in
    let at = slice_get_read strings _ i s refl c.loop-place-test.true c.index-strings-place.is in
    let at_first = slice_get_read chain _ i first refl low c.index-chain-place.is in
    let at_next = slice_get_read chain _ (i + 1) second refl next c.index-chain-place-in-loop-place.is in
    let at_second : slice_get chain (suc i) ≡ Some second = subst (λ (n : ℕ). slice_get chain n ≡ Some second) (add-one i) at_next in
    let more : rows_along (take (i + 1) strings) chain ≡ rows_along (take i strings) chain ++ row_between s first second ∷ [] =
    ap (λ (n : ℕ). rows_along (take n strings) chain) (add-one i) ∙ rows-push strings chain i s first second at at_first at_second in
    let taken : take (i + 1) strings ≡ take i strings ++ s ∷ [] =
    take_more strings i s c.loop-place-test.true ∙ ap (λ (t : ChainString). take i strings ++ t ∷ []) (get_or_from_slice_get strings i s s at) in
    let row : went.row ≡ row_between s first second = c.in_ok-string.ensures.row in
    let place : went.place ≡ s.place = c.in_ok-string.ensures.place in
    record {
      rows =
          ap rows_gone c.in_ok-push.ensures.items ∙ map-last (λ (g : PlacedString). g.row) c.loop-place.gone.items went
          ∙ (λ k. was.rows k ++ row k ∷ []) ∙ sym more;
      places =
          ap (map (λ (g : PlacedString). g.place)) c.in_ok-push.ensures.items ∙ map-last (λ (g : PlacedString). g.place) c.loop-place.gone.items went
          ∙ (λ k. was.places k ++ place k ∷ []) ∙ sym (map-last (λ (t : ChainString). t.place) (take i strings) s)
          ∙ ap (map (λ (t : ChainString). t.place)) (sym taken);
    }
