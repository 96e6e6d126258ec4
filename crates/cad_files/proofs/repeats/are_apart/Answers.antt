use Rattle.std.proofs.Common.{◌≢◌, ◌∙◌, subst, ap, map, not}
use Rattle.std.proofs.lemmas.Bool.{OnTrue_from}
use Rattle.sweep.specs.Repeats.{AreDistinct}
use Rattle.cad_map.specs.Valid.{EachPair}
use Rattle.cad_map.proofs.CallerLemmas.{EachPair-from_AllPairs}
use Rattle.cad_files.specs.Corners.{key_of}
use Rattle.cad_files.specs.Cycles.{plan_side_of}
use Rattle.cad_files.proofs.RepeatFacts.{none-told, keys-apart}
use Rattle.cad_files.proofs.repeats.are_apart.Goals as goal

pub returns : goal.returns
returns c =
    let sides = c.args.sides.now in
    OnTrue_from c.is_none.result (EachPair (λ a b. a ≢ b) (map plan_side_of sides)) (λ is.
    let told = none-told c.in_ok-first_repeated.field-0 _ (c.is_none.ensures ∙ ap not is) c.in_ok-first_repeated.ensures.none in
    let apart = subst AreDistinct (c.as_slice.ensures.value ∙ c.in_ok-keys.ensures.keys) told in
    keys-apart plan_side_of key_of sides (EachPair-from_AllPairs (λ a b. a ≢ b) _ apart))
