use Rattle.key_lists.proofs.lists.KeyLists.drop.Goals as goal

pub drop-lists-requires-room-V-Destruct : goal.drop-lists-requires-room-V-Destruct
drop-lists-requires-room-V-Destruct g c κs within = g.met.X.Short.fits
