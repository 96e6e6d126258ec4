use Rattle.key_lists.proofs.lists.KeyLists.at.Goals as goal

pub find-requires : goal.find-requires
find-requires g c = g.met.X.Short.fits

pub as_slice-requires : goal.as_slice-requires
as_slice-requires g c = g.met.X.Short.fits
