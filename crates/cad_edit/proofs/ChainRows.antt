-- What the rows on chains say of the points and the corners of a division.
use Rattle.std.proofs.Common.{◌≡◌, ℕ, sym, ap, ◌∙◌, List, [], ◌∷◌, Bool, not, Some, None}
use Rattle.std.specs.Prelude.{◌&&◌}
use Rattle.std.specs.List.{Contains, list_any}
use Rattle.cad_rows.specs.declared.edits.Edit.{Edit}
use Rattle.cad_rows.specs.declared.edits.Edit.TheVariants.{Divide}
use Rattle.cad_rows.specs.declared.names.Face.{Face}
use Rattle.cad_rows.specs.declared.refusals.Refusal.TheVariants.{ChainJoinsRings}
use Rattle.cad_rings.specs.Cycle.{Corner, has_side, sides_of}
use Rattle.cad_map.specs.Chain.{start_of, next_of, end_of, last_but_one, chosen_corner, leaving}
use Rattle.cad_map.specs.Map.{Map, rings_of, face_corners}
use Rattle.cad_map.specs.Refusals.{when, have_one_ring, chain_joins_rings, not_in_parcel, corner_missing, first_of}
use Rattle.cad_map.proofs.CallerLemmas.{chosen}

module _ (m : Map) (face : Face) (chain strings : List ℕ) (parcel : ℕ) (label : List ℕ) (source : ℕ) (e : Edit) (is : e ≡ Divide face chain strings parcel label source) where
  module _ (points : List ℕ) (same : points ≡ chain) where
    -- where two corners are chosen, the chain is in the face at its ends
    pub in-chosen : (first last : Corner) → Some first ≡ chosen_corner m face (start_of points) (next_of points) → Some last ≡ chosen_corner m face (end_of points) (last_but_one points)
        → not_in_parcel m e ≡ None
    in-chosen first last at_first at_last =
        ap (not_in_parcel m) is
        ∙ ap (λ (l : List ℕ). not_in_parcel m (Divide face l strings parcel label source)) (sym same)
        ∙ (λ i. first_of (corner_missing (sym at_first i) (start_of points) ∷ corner_missing (sym at_last i) (end_of points) ∷ []))

    -- it is asked of the two corners that are chosen whether they are in one ring
    pub joins-chosen : (first last : Corner) → Some first ≡ chosen_corner m face (start_of points) (next_of points) → Some last ≡ chosen_corner m face (end_of points) (last_but_one points)
        → (in_one : Bool) → ((f : Face) → Contains (face_corners m f) first → in_one ≡ list_any (λ r. has_side (leaving first) (sides_of r) && has_side (leaving last) (sides_of r)) (rings_of m f))
        → (b : Bool) → in_one ≡ b → when (not b) ChainJoinsRings ≡ chain_joins_rings m e
    joins-chosen first last at_first at_last in_one told b is_b =
        ap (λ (b : Bool). when (not b) ChainJoinsRings) (sym is_b ∙ told face (chosen m face (start_of points) (next_of points) first (sym at_first)).there)
        ∙ (λ i. when (not (have_one_ring m face (at_first i) (at_last i))) ChainJoinsRings)
        ∙ ap (λ (l : List ℕ). chain_joins_rings m (Divide face l strings parcel label source)) same
        ∙ ap (chain_joins_rings m) (sym is)
