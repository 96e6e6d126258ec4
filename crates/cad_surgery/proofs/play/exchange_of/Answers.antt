use Rattle.cad_surgery.proofs.play.exchange_of.Goals as goal

pub what_goes-requires : goal.what_goes-requires
what_goes-requires g c = c.requires

pub what_comes-requires : goal.what_comes-requires
what_comes-requires g c = (c.requires.0, c.requires.1)
