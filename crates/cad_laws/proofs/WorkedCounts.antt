-- The counts of some edits of a square and of its island, computed.
use Rattle.std.proofs.Common.{◌≡◌, refl, [], ◌∷◌}
use Rattle.cad_rows.specs.declared.edits.Edit.TheVariants.{Join, Divide, Merge}
use Rattle.cad_rows.specs.declared.names.Face.TheVariants.{Parcel}
use Rattle.cad_map.specs.Effects.{after}
use Rattle.cad_map.proofs.CallerLemmas.{square, island, label_c}
use Rattle.cad_laws.specs.Counts.{rows_by, sources_by, sides_by, rings_by}

-- a diagonal: a string and a parcel come, and a triangle is the new parcel's
divided-rows : rows_by square (Divide (Parcel 1) (1 ∷ 3 ∷ []) (21 ∷ []) 2 label_c 1) ≡ 2
divided-rows = refl

divided-sides : sides_by square (Divide (Parcel 1) (1 ∷ 3 ∷ []) (21 ∷ []) 2 label_c 1) ≡ 3
unfolding after
divided-sides = refl

-- with the island goes its hole
moved-hole : rings_by island (Divide (Parcel 1) (3 ∷ 1 ∷ []) (21 ∷ []) 3 label_c 1) ≡ 1
unfolding after
moved-hole = refl

moved-sides : sides_by island (Divide (Parcel 1) (3 ∷ 1 ∷ []) (21 ∷ []) 3 label_c 1) ≡ 6
unfolding after
moved-sides = refl

-- an island of three strings is merged
merged-rows : rows_by island (Merge (Parcel 1) (Parcel 2)) ≡ 4
merged-rows = refl

merged-sides : sides_by island (Merge (Parcel 1) (Parcel 2)) ≡ 3
merged-sides = refl

-- both faces at the point that goes have rings of four sides
joined-sides : sides_by square (Join 1 21) ≡ 8
joined-sides = refl

joined-sources : sources_by square (Join 1 21) ≡ 1
joined-sources = refl
