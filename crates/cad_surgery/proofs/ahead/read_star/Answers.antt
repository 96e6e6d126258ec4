use Rattle.std.proofs.Common.{◌<◌, ◌∙◌, ap, length, sym, arith}
use Rattle.half_table.specs.Rows.{has}
use Rattle.map_parts.specs.Parts.{Parts}
use Rattle.cad_surgery.proofs.ahead.read_star.Goals as goal

-- the twin of a half that the star has is in the table, as the half is
pub face-face-requires : goal.face-face-requires
face-face-requires g c =
    let x = c.index-star-place.result in
    let low : c.loop-place.place < length c.args.star.now = omega (arith, c.min-place-end.ensures, c.loop-place-test.true) in
    c.twin.ensures.inside ∙ ap (λ (q : Parts). has q.table.rows x.half) c.draft.view_is ∙ c.requires x (c.loop-place.place, low, sym c.index-star-place.is)
