use Rattle.map_parts.proofs.ToHalves.{fits}
use Rattle.cad_surgery.proofs.laws.the_map_makes_halves.Goals as goal

pub returns : goal.returns
returns c d fit once = fits d fit once
