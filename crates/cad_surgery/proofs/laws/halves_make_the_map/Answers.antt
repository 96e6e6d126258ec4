use Rattle.map_parts.proofs.FromHalves.{fit-together, map-is}
use Rattle.cad_surgery.proofs.laws.halves_make_the_map.Goals as goal

pub returns-clause-fit : goal.returns-clause-fit
returns-clause-fit c d bs whole fits = fit-together d bs whole fits

pub returns-clause-map : goal.returns-clause-map
returns-clause-map c d bs whole fits = map-is d bs whole fits
