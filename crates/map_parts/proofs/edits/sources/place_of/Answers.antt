use Rattle.std.proofs.Common.{◌∙◌, ◌==◌, ap, sym, nat_eq}
use Rattle.std.proofs.lemmas.Bool.{eqb-true, false_from_ne_true}
use Rattle.std.specs.List.{list_any}
use Rattle.cad_map.proofs.CallerLemmas.{drop-at}
use Rattle.map_parts.proofs.edits.sources.place_of.Goals as goal

pub loop-place-preserved : goal.loop-place-preserved
loop-place-preserved c =
    let at = sym c.get.ensures ∙ c.unwrap-other.ensures in
    let differs = false_from_ne_true (nat_eq c.unwrap-other.result c.args.source) (λ same. c.if-get.false (c.get-in-loop-place.ensures.value ∙ eqb-true c.unwrap-other.result c.args.source same ∙ sym c.get-in-loop-place-2.ensures.value)) in
    rw differs at (sym (ap (list_any (λ s. s == c.args.source)) (drop-at c.args.sources.now c.loop-place.place c.unwrap-other.result at)) ∙ c.loop-place.invariant)
