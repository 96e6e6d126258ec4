use Rattle.map_parts.proofs.AddedMap as added_map
use Rattle.map_parts.proofs.Enclosing as it
use Rattle.map_parts.proofs.edits.enclosing.open.Goals as goal

pub take_out-requires : goal.take_out-requires
take_out-requires g c = it.gone-can c.requires

pub take_added-requires-clause-strings : goal.take_added-requires-clause-strings
take_added-requires-clause-strings g c = added_map.gone-take (it.gone-come c.requires) c.requires.fits

pub take_added-requires-clause-parcel : goal.take_added-requires-clause-parcel
take_added-requires-clause-parcel g c = added_map.gone-parcel (it.gone-come c.requires) c.requires.fits

pub returns-clause-fits : goal.returns-clause-fits
returns-clause-fits g c = λ can.
    added_map.gone-fits (it.gone-come can) can.fits (it.gone-table can c.take_out.new.table.rows c.take_out.new.kept c.take_out.ensures.island)
    c.take_added.ensures.rows c.take_added.ensures.stars
