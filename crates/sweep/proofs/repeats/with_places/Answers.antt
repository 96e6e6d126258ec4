use Rattle.std.proofs.Common.{◌∙◌, ap, sym, ◌++◌, ◌∷◌, [], List, get_or, arith}
use Rattle.std.proofs.lemmas.List.FromFn.{map-range_with_len_more}
use Rattle.sweep.specs.declared.repeats.Keyed.{Keyed}
use Rattle.sweep.proofs.repeats.with_places.Goals as goal

pub loop-place-preserved : goal.loop-place-preserved
loop-place-preserved c =
    let place = c.loop-place.place in
    let last : Keyed = record { key = get_or c.args.keys.now place 0; place = place } in
    c.in_ok-push.ensures.items ∙ ap (λ (l : List Keyed). l ++ last ∷ []) c.loop-place.invariant ∙ sym (map-range_with_len_more _ 0 place place (omega arith))
