use Rattle.std.proofs.Common.{subst, sym}
use Rattle.cad_near.specs.KeptAreas.{HoldsAreas}
use Rattle.edit_records.proofs.GridRows.{holds-map}
use Rattle.half_cases.proofs.near_checks.told_after.Goals as goal

pub told_near-requires-clause-held : goal.told_near-requires-clause-held
told_near-requires-clause-held c = holds-map c.in_ok-grid.grid c.args.made.now c.in_ok-grid.ensures

pub told_near-requires-clause-areas : goal.told_near-requires-clause-areas
told_near-requires-clause-areas c = subst (HoldsAreas c.turn_areas.new.areas) (sym c.requires.made) c.turn_areas.ensures
