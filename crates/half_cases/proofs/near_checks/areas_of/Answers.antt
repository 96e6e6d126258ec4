use Rattle.cad_map.proofs.CallerLemmas.{whole_valid}
use Rattle.cad_surgery.proofs.KeptAreas.{none-holds}
use Rattle.half_cases.proofs.near_checks.areas_of.Goals as goal

pub loop-face-init : goal.loop-face-init
loop-face-init c = none-holds c.none-areas.result c.args.map.now c.none-areas.ensures.none

pub keep_of-requires : goal.keep_of-requires
keep_of-requires c = whole_valid c.args.map.now c.requires
