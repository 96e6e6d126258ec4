-- What edits of a square and of its island may cost, computed.
use Rattle.std.proofs.Common.{◌≡◌, refl, [], ◌∷◌}
use Rattle.cad_rows.specs.declared.names.Face.TheVariants.{Parcel}
use Rattle.cad_map.specs.Costs.{rows_changed, rings_moved, sources_removed, sides_changed, weight_bound, work_bound}
use Rattle.cad_map.specs.Changes.{divide, merge, join}
use Rattle.cad_map.proofs.Worked.Plans.{square, island, label_c}

-- a diagonal adds a string and a parcel, and makes two triangles of a ring of four
divided-rows : rows_changed square (divide square (Parcel 1) (1 ∷ 3 ∷ []) (21 ∷ []) 2 label_c 1) ≡ 2
divided-rows = refl

divided-sides : sides_changed square (divide square (Parcel 1) (1 ∷ 3 ∷ []) (21 ∷ []) 2 label_c 1) ≡ 10
divided-sides = refl

divided-weight : weight_bound square (divide square (Parcel 1) (1 ∷ 3 ∷ []) (21 ∷ []) 2 label_c 1) ≡ 14
divided-weight = refl

divided-work : work_bound square (divide square (Parcel 1) (1 ∷ 3 ∷ []) (21 ∷ []) 2 label_c 1) ≡ 88
divided-work = refl

-- the hole of an island's parcel goes with the half where it lies
moved-hole : rings_moved island (divide island (Parcel 1) (3 ∷ 1 ∷ []) (21 ∷ []) 3 label_c 1) ≡ 1
moved-hole = refl

-- a join takes a point with its source, and two strings, and puts one
joined-sources : sources_removed square (join square 1 21) ≡ 1
joined-sources = refl

joined-rows : rows_changed square (join square 1 21) ≡ 4
joined-rows = refl

-- an island merged with the parcel round it: three strings and a parcel go
merged-rows : rows_changed island (merge island (Parcel 1) (Parcel 2)) ≡ 4
merged-rows = refl
