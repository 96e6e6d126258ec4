use Rattle.map_parts.proofs.AddedMap as added_map
use Rattle.map_parts.proofs.Dividing as it
use Rattle.map_parts.proofs.edits.dividing.undivide.Goals as goal

pub take_across-requires : goal.take_across-requires
take_across-requires g c = it.gone-can c.requires

pub take_added-requires-clause-strings : goal.take_added-requires-clause-strings
take_added-requires-clause-strings g c = added_map.gone-take (it.gone-come c.requires) c.requires.fits

pub take_added-requires-clause-parcel : goal.take_added-requires-clause-parcel
take_added-requires-clause-parcel g c = added_map.gone-parcel (it.gone-come c.requires) c.requires.fits

pub returns-clause-fits : goal.returns-clause-fits
returns-clause-fits g c = λ can.
    added_map.gone-fits (it.gone-come can) can.fits (it.gone-table can c.take_across.new.table.rows c.take_across.new.kept c.take_across.ensures.chain)
    c.take_added.ensures.rows c.take_added.ensures.stars
