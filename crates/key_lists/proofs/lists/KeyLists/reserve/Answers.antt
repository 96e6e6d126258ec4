use Rattle.key_lists.proofs.lists.KeyLists.reserve.Goals as goal

pub new-list-requires : goal.new-list-requires
new-list-requires g c = g.met.X.Short.fits

pub reserve-requires : goal.reserve-requires
reserve-requires g c = g.met.X.Short.fits

pub push-requires-room-V-Destruct : goal.push-requires-room-V-Destruct
push-requires-room-V-Destruct g c κs within = g.met.X.Short.fits
