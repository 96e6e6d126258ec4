-- The corners of a map with an island more.
use Rattle.std.proofs.Common.{◌≡◌, ℕ, ap, subst, List, [], ◌∷◌, ◌++◌, reverse, None, arith}
use Rattle.std.proofs.lemmas.List.Sorted.{IsPermutation-refl}
use Rattle.std.specs.Prelude.{IsPermutation}
use Rattle.cad_rows.specs.declared.names.Face.{Face}
use Rattle.cad_rows.specs.declared.names.Face.TheVariants.{Parcel}
use Rattle.cad_rows.specs.declared.edits.Edit.TheVariants.{Enclose}
use Rattle.cad_rings.specs.Cycle.{sides_of, Corner, corners_of}
use Rattle.cad_rings.proofs.CallerLemmas.{corners_of-reversed}
use Rattle.cad_map.specs.Boundaries.{canonical_order, corners_in}
use Rattle.cad_map.specs.Map.{Map, all_corners}
use Rattle.cad_map.specs.Division.{boundaries_enclosed}
use Rattle.cad_map.specs.Changes.{enclose}
use Rattle.cad_map.specs.Effects.{after}
use Rattle.cad_map.specs.Refusals.{first_refusal}
use Rattle.cad_map.specs.Asked.{GivesInRange}
use Rattle.cad_map.specs.Valid.{IsValid}
use Rattle.cad_map.proofs.CallerLemmas.{allowed, can-enclose, CanEnclose, is_division-enclosed, corners_in-canonical_order}
use Rattle.cad_laws.specs.Parting.{HasIsland}
use Rattle.cad_laws.proofs.MapCorners.{off-sides, two-sides, corners-holes_placed}
use Rattle.cad_laws.proofs.IslandCorners.{has_island}

island-enclosed : (m : Map) (face : Face) (points strings : List ℕ) (parcel : ℕ) (label : List ℕ)
    (source : ℕ) → IsValid m → CanEnclose m face points strings parcel label source
    → HasIsland m (enclose m face points strings parcel label source) points
island-enclosed m face [] strings parcel label source valid can =
    absurd (let three = can.long in omega arith)
island-enclosed m face (a ∷ others) strings parcel label source valid can =
    let points = a ∷ others in
    let of = is_division-enclosed m valid face a others strings parcel label source can in
    let bs = boundaries_enclosed m face (Parcel parcel) points in
    let same : corners_in bs ≡ corners_of points ++
    (corners_of (reverse points) ++ all_corners m) =
    ap (λ (l : List Corner). corners_of points ++ (corners_of (reverse points) ++ l))
    (corners-holes_placed m face (Parcel parcel) points m.boundaries) in
    has_island points (let three = can.long in omega (arith, three)) (corners_of (reverse points))
    (all_corners m) (corners_of-reversed points) m
    (enclose m face points strings parcel label source)
    (IsPermutation-refl (all_corners m))
    (subst (λ (l : List Corner). IsPermutation l (corners_in (canonical_order bs))) same
    (corners_in-canonical_order bs))
    (λ c h on.
    off-sides m.boundaries (two-sides m valid) (sides_of points) of.new of.new_back c h on)

-- An enclosure that is not refused brings the corners of its ring, both ways, and no others come or
-- go.
pub enclosed-island : (m : Map) (face : Face) (points strings : List ℕ) (parcel : ℕ)
    (label : List ℕ) (source : ℕ) → IsValid m
    → GivesInRange (Enclose face points strings parcel label source)
    → first_refusal m (Enclose face points strings parcel label source) ≡ None
    → HasIsland m (after m (Enclose face points strings parcel label source)) points
unfolding after
enclosed-island m face points strings parcel label source valid given none =
    island-enclosed m face points strings parcel label source valid
    (can-enclose m face points strings parcel label source given
    (allowed m (Enclose face points strings parcel label source) none))
