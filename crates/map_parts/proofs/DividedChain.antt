-- A division brings a chain.
use Rattle.std.proofs.Common.{◌≡◌, ℕ, true, false, List, [], ◌∷◌, ◌++◌, map, refl, sym, ap, ◌∙◌, subst, true≢false}
use Rattle.std.specs.Prelude.{IsPermutation, is_some}
use Rattle.std.specs.List.{AllByRecursion}
use Rattle.std.proofs.lemmas.List.Sorted.{IsPermutation-sym, IsPermutation-trans, IsPermutation-append, Contains-permutation}
use Rattle.cad_rows.specs.declared.edits.Edit.TheVariants.{Divide}
use Rattle.cad_rows.specs.declared.names.Face.{Face}
use Rattle.cad_rows.specs.declared.names.Face.TheVariants.{Parcel}
use Rattle.cad_rings.specs.Cycle.{Ring, Side, sides_of, opposite, Corner}
use Rattle.cad_rings.specs.Surgery.{both_ways, sides_of_chain}
use Rattle.cad_rings.proofs.CallerLemmas.{sides_of-least_rotation}
use Rattle.cad_map.specs.declared.boundary.Boundary.{Boundary}
use Rattle.cad_map.specs.Boundaries.{bounding, canonical_form}
use Rattle.cad_map.specs.Division.{hole_placed}
use Rattle.cad_map.specs.Effects.{after}
use Rattle.cad_map.specs.Map.{Map, has_face}
use Rattle.cad_map.proofs.CallerLemmas.{All-at_each, All-from_each, Contains-later, CanDivide, can-divide, allowed, whole_valid}
use Rattle.cad_laws.specs.Faces.{IsDividedIn, left_of_chain, right_of_chain, uncut}
use Rattle.cad_laws.specs.Parting.{IsParted}
use Rattle.cad_laws.specs.Tried.{IsTried, AreChosen}
use Rattle.cad_laws.proofs.CallerLemmas.{divided-parted}
use Rattle.map_parts.specs.Chains.{IsChainOf}
use Rattle.map_parts.specs.Handing.{HaveTwoFaces}
use Rattle.map_parts.proofs.KeptHalves.{face-known}
use Rattle.map_parts.proofs.KeptShown.{bare}
use Rattle.map_parts.proofs.EnclosedIsland.{placed-back, one-face_more}

-- the laws of a division, as a chain across the face
pub divided-chain_of : (m a : Map) (face new : Face) (chain : List ℕ) (first last : Corner) → IsParted m a chain first last → (it : IsDividedIn m a face new chain first last)
    → AllByRecursion (λ b. has_face m b.face ≡ true) m.boundaries → has_face m face ≡ true → has_face m new ≡ false
    → IsChainOf m a face new chain first last it.cut (canonical_form (bounding new (left_of_chain chain first last it.cut.ring))) (canonical_form (bounding face (right_of_chain chain first last it.cut.ring)))
    (map (hole_placed m face new (left_of_chain chain first last it.cut.ring)) (uncut m first))
divided-chain_of m a face new chain first last corners it known there none =
    let left = left_of_chain chain first last it.cut.ring in
    let right = right_of_chain chain first last it.cut.ring in
    let others = map (hole_placed m face new left) (uncut m first) in
    let known_others = All-from_each (λ b. has_face m b.face ≡ true) (uncut m first) (λ b among.
    All-at_each (λ b. has_face m b.face ≡ true) m.boundaries b known
    (Contains-permutation (it.cut ∷ uncut m first) m.boundaries b (IsPermutation-sym m.boundaries (it.cut ∷ uncut m first) it.placed.were) (Contains-later it.cut (uncut m first) b among))) in
    record {
      corners = corners;
      differ = λ same. true≢false (sym there ∙ ap (has_face m) same ∙ none);
      one_face = sym it.is;
      left_face = refl;
      right_face = refl;
      hands =
          IsPermutation-trans (shown left ++ shown right) (sides_of left ++ sides_of right) (both_ways (sides_of_chain chain) ++ sides_of it.cut.ring)
          (IsPermutation-append (shown left) (sides_of left) (shown right) (sides_of right) (IsPermutation-sym (sides_of left) (shown left) (sides_of-least_rotation left))
          (IsPermutation-sym (sides_of right) (shown right) (sides_of-least_rotation right))) it.hands;
      along = λ s on. Contains-permutation (sides_of left) (shown left) s (sides_of-least_rotation left) (it.along s on);
      back = λ s on. Contains-permutation (sides_of right) (shown right) (opposite s) (sides_of-least_rotation right) (it.back s on);
      were = IsPermutation-sym (canonical_form (bounding new left) ∷ canonical_form (bounding face right) ∷ others) a.boundaries it.placed.are;
      are =
          subst (λ (l : List Boundary). IsPermutation (it.cut ∷ l) m.boundaries) (sym (placed-back m face new left none (uncut m first) known_others))
          (IsPermutation-sym m.boundaries (it.cut ∷ uncut m first) it.placed.were);
    }
  where
    shown : Ring → List Side
    shown r = sides_of (canonical_form (bounding face r)).ring

-- ---- A division that is tried

module _ (m : Map) (face : Face) (chain strings : List ℕ) (parcel : ℕ) (label : List ℕ) (source : ℕ) (tried : IsTried m (Divide face chain strings parcel label source)) where
  can : CanDivide m face chain strings parcel label source
  can = can-divide m face chain strings parcel label source tried.given (allowed m (Divide face chain strings parcel label source) tried.allowed)

  parcel_none : has_face m (Parcel parcel) ≡ false
  parcel_none = ap is_some can.rows.parcel_new

  pub tried-chain : (first last : Corner) → AreChosen m face chain first last
      → (it : IsDividedIn m (after m (Divide face chain strings parcel label source)) face (Parcel parcel) chain first last)
      → IsChainOf m (after m (Divide face chain strings parcel label source)) face (Parcel parcel) chain first last it.cut
      (canonical_form (bounding (Parcel parcel) (left_of_chain chain first last it.cut.ring))) (canonical_form (bounding face (right_of_chain chain first last it.cut.ring)))
      (map (hole_placed m face (Parcel parcel) (left_of_chain chain first last it.cut.ring)) (uncut m first))
  tried-chain first last chosen it =
      divided-chain_of m (after m (Divide face chain strings parcel label source)) face (Parcel parcel) chain first last
      (divided-parted m face chain strings parcel label source first last tried.valid tried.given tried.allowed chosen.first_is chosen.last_is) it
      (whole_valid m tried.valid).v1.faces_of_rings can.face_there parcel_none

  pub tried-faces : HaveTwoFaces m (after m (Divide face chain strings parcel label source)) face (Parcel parcel)
  unfolding after
  tried-faces =
      one-face_more m (after m (Divide face chain strings parcel label source)) face parcel label (source ∷ []) refl parcel_none (face-known (bare m []) face can.face_there)
