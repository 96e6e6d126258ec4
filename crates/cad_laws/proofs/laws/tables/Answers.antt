use Rattle.cad_laws.proofs.TablesParted.{goes-on_parted, goes-on_whole, goes-on_with, goes-on_without}
use Rattle.cad_laws.proofs.TablesJoined.{goes-on_joined, goes-on_split}
use Rattle.cad_laws.proofs.ApartHalves.{apart-halves}
use Rattle.cad_laws.proofs.laws.tables.Goals as goal

pub returns-clause-chain_comes : goal.returns-clause-chain_comes
returns-clause-chain_comes c whole parted rows chain first last local rings it =
    goes-on_parted whole parted rows local rings chain first last it

pub returns-clause-chain_goes : goal.returns-clause-chain_goes
returns-clause-chain_goes c whole parted rows chain first last local rings long it =
    goes-on_whole whole parted rows local rings chain long first last it

pub returns-clause-island_comes : goal.returns-clause-island_comes
returns-clause-island_comes c whole parted rows ring local it =
    goes-on_with whole parted rows ring local it

pub returns-clause-island_goes : goal.returns-clause-island_goes
returns-clause-island_goes c whole parted rows ring local rings two it =
    goes-on_without whole parted rows local rings ring two it

pub returns-clause-point_goes : goal.returns-clause-point_goes
returns-clause-point_goes c m after rows p a b local it =
    goes-on_joined m after rows local p a b it

pub returns-clause-point_comes : goal.returns-clause-point_comes
returns-clause-point_comes c m after rows p a b local it rings rings_after look =
    goes-on_split m after rows local p a b it rings rings_after look

pub returns-clause-apart : goal.returns-clause-apart
returns-clause-apart c m rows two whole begin g h shown also same =
    apart-halves m rows two whole begin g h shown also same
