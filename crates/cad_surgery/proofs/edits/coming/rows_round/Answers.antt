use Rattle.std.proofs.Common.{◌∙◌, ap, [], ◌∷◌, length, arith}
use Rattle.std.proofs.lemmas.List.{length-append}
use Rattle.std.proofs.lemmas.Result.{IfOk-weaker}
use Rattle.cad_map.specs.Chain.{start_of, strings_along}
use Rattle.cad_surgery.proofs.edits.coming.rows_round.Goals as goal

pub rows_along-requires : goal.rows_along-requires
rows_along-requires c =
    let points = c.args.new.now.points.now in
    let more = length-append points (start_of points ∷ []) in
    let same = c.requires.as_many in
    let is = ap length (c.as_slice.ensures.value ∙ c.in_ok-closed.ensures) in
    omega (arith, more, same, is)

pub returns : goal.returns
returns c =
    let e = c.args.new.now in
    IfOk-weaker c.rows_along.result _ _ (λ rows is.
    is ∙ ap (strings_along (e.source ∷ []) e.strings.now) (c.as_slice.ensures.value ∙ c.in_ok-closed.ensures)) c.rows_along.ensures
