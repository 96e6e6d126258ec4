-- Followers in a square and round its island, computed.
use Rattle.std.proofs.Common.{◌≡◌, refl, [], ◌∷◌}
use Rattle.cad_map.proofs.CallerLemmas.{square, island}
use Rattle.cad_files.specs.Follower.{followers}

-- inside the square and outside it, round the island in the parcel that it lies in and in the island's own, and at a
-- point that no string leads on from
worked : (followers square (1, 2) ≡ 3 ∷ []) × (followers square (2, 1) ≡ 4 ∷ []) × (followers island (6, 8) ≡ 7 ∷ []) × (followers island (7, 8) ≡ 6 ∷ []) × (followers square (1, 9) ≡ [])
unfolding followers
worked = (refl, refl, refl, refl, refl)
