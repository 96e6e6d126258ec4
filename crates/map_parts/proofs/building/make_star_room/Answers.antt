use Rattle.std.proofs.Common.{◌∙◌, refl}
use Rattle.map_parts.proofs.building.make_star_room.Goals as goal

pub loop-place-init : goal.loop-place-init
loop-place-init c = λ key. refl

pub loop-place-preserved : goal.loop-place-preserved
loop-place-preserved c = λ key. c.in_ok-reserve.ensures.same key ∙ c.loop-place.invariant key
