use Rattle.map_parts.proofs.EnclosedIsland.{tried-island, tried-faces}
use Rattle.cad_surgery.proofs.laws.enclosures_bring_islands.Goals as goal

pub returns-clause-island : goal.returns-clause-island
returns-clause-island c = tried-island

pub returns-clause-faces : goal.returns-clause-faces
returns-clause-faces c = tried-faces
