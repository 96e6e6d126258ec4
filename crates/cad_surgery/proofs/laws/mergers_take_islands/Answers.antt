use Rattle.map_parts.proofs.MergedIsland.{merged-island}
use Rattle.cad_surgery.proofs.laws.mergers_take_islands.Goals as goal

pub returns : goal.returns
returns c = merged-island
