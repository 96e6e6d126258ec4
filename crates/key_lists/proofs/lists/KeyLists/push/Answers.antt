use Rattle.key_lists.proofs.lists.KeyLists.push.Goals as goal

pub new-list-requires : goal.new-list-requires
new-list-requires g c = g.met.X.Short.fits

pub push-requires : goal.push-requires
push-requires g c = g.met.X.Short.fits

pub push-requires-2-room-V-Destruct : goal.push-requires-2-room-V-Destruct
push-requires-2-room-V-Destruct g c κs within = g.met.X.Short.fits
