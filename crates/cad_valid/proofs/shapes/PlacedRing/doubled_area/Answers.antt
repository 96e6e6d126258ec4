use Rattle.std.proofs.Common.{◌≡◌, ◌+◌, ◌++◌, ◌∙◌, sym, ap, List, [], ◌∷◌, take, ◌+ℤ◌, arith}
use Rattle.std.proofs.lemmas.Int.{ints}
use Rattle.std.proofs.lemmas.List.{take_more}
use Rattle.geo_exact.specs.Position.{Position}
use Rattle.geo_exact.specs.Measure.{doubled_area, sum_over}
use Rattle.geo_exact.proofs.CallerLemmas.{sum_over-append}
use Rattle.cad_valid.proofs.shapes.PlacedRing.doubled_area.Goals as goal

pub loop-from-preserved : goal.loop-from-preserved
loop-from-preserved c =
    let sides : List (Position × Position) = c.deref-from-items.result.now in
    let place = c.loop-from.from-index in
    let side : Position × Position = c.loop-from-item.result in
    let so_far = take place sides in
    let more : take (place + 1) sides ≡ so_far ++ side ∷ [] =
    take_more sides place side c.loop-from-test.true ∙ ap (λ (s : Position × Position). so_far ++ s ∷ []) (sym c.loop-from-item.is) in
    let sum : sum_over doubled_area (take (place + 1) sides) ≡ sum_over doubled_area so_far +ℤ sum_over doubled_area (side ∷ []) =
    ap (sum_over doubled_area) more ∙ sum_over-append doubled_area so_far (side ∷ []) in
    let of = c.of-sum.ensures.value in
    let small = c.of-sum.ensures.small in
    let before = c.loop-from.invariant in
    record {
      value = omega (arith, ints, sum, of);
      small = omega (arith, ints);
    }
