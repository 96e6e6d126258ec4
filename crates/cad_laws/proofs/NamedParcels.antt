-- Mergers, by the numbers of the two parcels that they name.
use Rattle.std.proofs.Common.{◌≡◌, ℕ, sym, ap, subst, List}
use Rattle.std.specs.List.{Contains}
use Rattle.cad_rows.specs.declared.edits.Edit.TheVariants.{Merge}
use Rattle.cad_rows.specs.declared.names.Face.{Face}
use Rattle.cad_rows.specs.declared.names.Face.TheVariants.{Parcel}
use Rattle.cad_map.specs.declared.boundary.Boundary.{Boundary}
use Rattle.cad_map.specs.Changes.{with_boundaries, merge}
use Rattle.cad_map.specs.Map.{Map}
use Rattle.cad_map.specs.Merger.{ChainInRings, boundaries_by, shared_chains}
use Rattle.cad_map.specs.Valid.{IsValid}
use Rattle.cad_map.proofs.CallerLemmas.{IsAllowed, names-parcels, CanMerge, rows, faces-differ, merged-any}

-- what holds of each merger of parcels with numbers holds of each merger
pub of-parcels : (m : Map) (P : Face → Face → Type 0)
    → ((k e : ℕ) → IsAllowed m (Merge (Parcel k) (Parcel e)) → P (Parcel k) (Parcel e))
    → (kept ended : Face) → IsAllowed m (Merge kept ended) → P kept ended
of-parcels m P each kept ended free =
    let names = names-parcels m kept ended free in
    let two = subst (λ (f : Face). IsAllowed m (Merge f (Parcel names.second))) names.kept_is
    (subst (λ (f : Face). IsAllowed m (Merge kept f)) names.ended_is free) in
    subst (λ (f : Face). P f ended) (sym names.kept_is)
    (subst (λ (f : Face). P (Parcel names.first) f) (sym names.ended_is)
    (each names.first names.second two))

-- the map after one is that by any chain that the two share
pub merged-by : (m : Map) (valid : IsValid m) (k e : ℕ) (can : CanMerge m k e) (x : ChainInRings)
    → Contains (shared_chains m (Parcel k) (Parcel e)) x
    → merge m (Parcel k) (Parcel e)
    ≡ with_boundaries (boundaries_by m (Parcel k) (Parcel e) x) (rows m k e valid can)
merged-by m valid k e can x there =
    ap (λ (bs : List Boundary). with_boundaries bs (rows m k e valid can))
    (merged-any m valid (Parcel k) (Parcel e) (faces-differ m k e valid can) x there)
