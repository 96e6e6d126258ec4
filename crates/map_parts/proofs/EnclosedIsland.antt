-- An enclosure brings an island.
use Rattle.std.proofs.Common.{◌≡◌, ◌⊎◌, ℕ, Bool, true, false, not, List, [], ◌∷◌, ◌++◌, map, filter, reverse, refl, sym, ap, ◌∙◌, subst, inl, inr, true≢false, if◌then◌else◌, ◌==◌}
use Rattle.std.specs.Prelude.{IsPermutation, is_some}
use Rattle.std.specs.List.{AllByRecursion, Contains}
use Rattle.std.proofs.lemmas.List.{map-append, append-nil}
use Rattle.std.proofs.lemmas.Cmp.{nat_eq_equiv}
use Rattle.std.proofs.lemmas.List.Elements.{filter-append, Contains-append_right}
use Rattle.std.proofs.lemmas.List.Sorted.{IsPermutation-refl, IsPermutation-sym, IsPermutation-trans}
use Rattle.cad_rows.specs.declared.edits.Edit.TheVariants.{Enclose}
use Rattle.cad_rows.specs.declared.names.Face.{Face}
use Rattle.cad_rows.specs.declared.names.Face.TheVariants.{Outside, Parcel}
use Rattle.cad_rows.specs.declared.rows.ParcelRow.{ParcelRow}
use Rattle.numbered_rows.specs.Rows.{row_with}
use Rattle.cad_rings.specs.Cycle.{Ring, sides_of, opposite}
use Rattle.cad_rings.proofs.CallerLemmas.{sides_of-least_rotation, sides_of-reversed}
use Rattle.cad_map.specs.declared.boundary.Boundary.{Boundary}
use Rattle.cad_map.specs.Boundaries.{is_face, bounding, canonical_form}
use Rattle.cad_map.specs.Division.{hole_placed}
use Rattle.cad_map.specs.Effects.{after}
use Rattle.cad_map.specs.Map.{Map, faces, has_face}
use Rattle.cad_map.specs.Merger.{handed_over}
use Rattle.cad_map.proofs.CallerLemmas.{Contains-first, face-hole_placed, ring-hole_placed, is_face-same, is_face-refl, CanEnclose, can-enclose, allowed, whole_valid}
use Rattle.cad_laws.proofs.CallerLemmas.{enclosed-island, enclosed-faces}
use Rattle.map_parts.proofs.KeptHalves.{face-known}
use Rattle.map_parts.proofs.KeptShown.{bare}
use Rattle.cad_laws.specs.Tried.{IsTried}
use Rattle.cad_laws.specs.Parting.{HasIsland}
use Rattle.cad_laws.specs.Faces.{HasPlaced}
use Rattle.map_parts.specs.Islands.{IsIslandOf}
use Rattle.map_parts.specs.Handing.{HaveTwoFaces}

-- where a face gives rings to one that isn't of the map, these handed back are the map's
pub placed-back : (m : Map) (face new : Face) (ring : Ring) → has_face m new ≡ false → (bs : List Boundary) → AllByRecursion (λ b. has_face m b.face ≡ true) bs
    → map (handed_over face new) (map (hole_placed m face new ring) bs) ≡ bs
placed-back m face new ring none [] known = refl
placed-back m face new ring none (b ∷ bs) known = λ i. one i ∷ placed-back m face new ring none bs known.1 i
  where
    p : Boundary
    p = hole_placed m face new ring b

    handed : (t : Bool) → is_face new p.face ≡ t → handed_over face new p ≡ (if t then bounding face p.ring else p)
    handed t is = ap (λ (t : Bool). if t then bounding face p.ring else p) is

    same_ring : p.ring ≡ b.ring
    same_ring = ring-hole_placed m face new ring b

    by : (t : Bool) → is_face new p.face ≡ t → (p.face ≡ b.face) ⊎ ((p.face ≡ new) × (b.face ≡ face)) → handed_over face new p ≡ b
    by true is (inl stays) = absurd (true≢false (sym known.0 ∙ ap (has_face m) (sym stays ∙ sym (is_face-same new p.face is)) ∙ none))
    by true is (inr moves) = handed true is ∙ (λ i. bounding (sym moves.1 i) (same_ring i))
    by false is (inl stays) = handed false is ∙ (λ i. bounding (stays i) (same_ring i))
    by false is (inr moves) = absurd (true≢false (sym (is_face-refl new) ∙ ap (is_face new) (sym moves.0) ∙ is))

    one : handed_over face new p ≡ b
    one = by (is_face new p.face) refl (face-hole_placed m face new ring b)

-- the laws of an enclosure, as an island of the new face
pub enclosed-island_of : (m a : Map) (face new : Face) (ring : Ring) → HasIsland m a ring → HasPlaced m a face new [] ring (reverse ring) m.boundaries
    → AllByRecursion (λ b. has_face m b.face ≡ true) m.boundaries → has_face m face ≡ true → has_face m new ≡ false
    → IsIslandOf m a face new ring (canonical_form (bounding new ring)) (canonical_form (bounding face (reverse ring))) (map (hole_placed m face new ring) m.boundaries)
enclosed-island_of m a face new ring corners placed known there none =
    let others = map (hole_placed m face new ring) m.boundaries in
    record {
      corners = corners;
      differ = λ same. true≢false (sym there ∙ ap (has_face m) same ∙ none);
      left_face = refl;
      right_face = refl;
      left_sides = sides_of-least_rotation ring;
      right_sides =
          IsPermutation-trans (map opposite (sides_of ring)) (sides_of (reverse ring)) (sides_of (canonical_form (bounding face (reverse ring))).ring) (turned ring)
          (sides_of-least_rotation (reverse ring));
      were = IsPermutation-sym (canonical_form (bounding new ring) ∷ canonical_form (bounding face (reverse ring)) ∷ others) a.boundaries placed.are;
      are = subst (λ (l : List Boundary). IsPermutation l m.boundaries) (sym (placed-back m face new ring none m.boundaries known)) (IsPermutation-refl m.boundaries);
    }
  where
    turned : (r : Ring) → IsPermutation (map opposite (sides_of r)) (sides_of (reverse r))
    turned r = sides_of-reversed r

-- the parcel that comes last is the one face more
pub one-face_more : (whole parted : Map) (outer : Face) (n : ℕ) (label sources : List ℕ) → parted.parcels ≡ whole.parcels ++ record { number = n; label = label; sources = sources } ∷ []
    → has_face whole (Parcel n) ≡ false → Contains (faces whole) outer → HaveTwoFaces whole parted outer (Parcel n)
one-face_more whole parted outer n label sources are none there = record {
  rest = ap (filter (λ f. not (is_face (Parcel n) f))) faces_are ∙ filter-append (λ f. not (is_face (Parcel n) f)) (faces whole) (Parcel n ∷ [])
      ∙ (λ i. all-stay (faces whole) whole_away i ++ last i) ∙ append-nil (faces whole);
  inner_there = subst (λ (l : List Face). Contains l (Parcel n)) (sym faces_are) (Contains-append_right (faces whole) (Parcel n ∷ []) (Parcel n) (Contains-first (Parcel n) []));
  outer_there = there;
}
  where
    faces_are : faces parted ≡ faces whole ++ Parcel n ∷ []
    faces_are = ap (λ (l : List ParcelRow). Outside ∷ map (λ (p : ParcelRow). Parcel p.number) l) are ∙ ap (λ (l : List Face). Outside ∷ l) (map-append (λ (p : ParcelRow). Parcel p.number) whole.parcels (record { number = n; label = label; sources = sources } ∷ []))

    last : filter (λ f. not (is_face (Parcel n) f)) (Parcel n ∷ []) ≡ []
    last = rw (is_face-refl (Parcel n)) refl

    all-stay : (fs : List Face) → AllByRecursion (λ f. is_face (Parcel n) f ≡ false) fs → filter (λ f. not (is_face (Parcel n) f)) fs ≡ fs
    all-stay [] all = refl
    all-stay (f ∷ fs) all = rw all.0 (ap (λ (l : List Face). f ∷ l) (all-stay fs all.1))

    parcels_away : (ps : List ParcelRow) → is_some (row_with (λ (p : ParcelRow). p.number) n ps) ≡ false → AllByRecursion (λ f. is_face (Parcel n) f ≡ false) (map (λ (p : ParcelRow). Parcel p.number) ps)
    parcels_away [] nay = tt
    parcels_away (p ∷ ps) nay = by (p.number == n) refl (λ rest. parcels_away ps rest)
      where
        by : (t : Bool) → (p.number == n) ≡ t → (is_some (row_with (λ (p : ParcelRow). p.number) n ps) ≡ false → AllByRecursion (λ f. is_face (Parcel n) f ≡ false) (map (λ (p : ParcelRow). Parcel p.number) ps))
            → AllByRecursion (λ f. is_face (Parcel n) f ≡ false) (map (λ (p : ParcelRow). Parcel p.number) (p ∷ ps))
        by true is again = absurd (true≢false (rw is at nay))
        by false is again = (nat_eq_equiv.symm n p.number ∙ is, again (rw is at nay))

    whole_away : AllByRecursion (λ f. is_face (Parcel n) f ≡ false) (faces whole)
    whole_away = (refl, parcels_away whole.parcels none)

-- ---- An enclosure that is tried

module _ (m : Map) (face : Face) (points strings : List ℕ) (parcel : ℕ) (label : List ℕ) (source : ℕ) (tried : IsTried m (Enclose face points strings parcel label source)) where
  can : CanEnclose m face points strings parcel label source
  can = can-enclose m face points strings parcel label source tried.given (allowed m (Enclose face points strings parcel label source) tried.allowed)

  parcel_none : has_face m (Parcel parcel) ≡ false
  parcel_none = ap is_some can.rows.parcel_new

  pub tried-island : IsIslandOf m (after m (Enclose face points strings parcel label source)) face (Parcel parcel) points (canonical_form (bounding (Parcel parcel) points))
      (canonical_form (bounding face (reverse points))) (map (hole_placed m face (Parcel parcel) points) m.boundaries)
  tried-island =
      enclosed-island_of m (after m (Enclose face points strings parcel label source)) face (Parcel parcel) points
      (enclosed-island m face points strings parcel label source tried.valid tried.given tried.allowed) (enclosed-faces m face points strings parcel label source tried.valid)
      (whole_valid m tried.valid).v1.faces_of_rings can.face_there parcel_none

  pub tried-faces : HaveTwoFaces m (after m (Enclose face points strings parcel label source)) face (Parcel parcel)
  unfolding after
  tried-faces =
      one-face_more m (after m (Enclose face points strings parcel label source)) face parcel label (source ∷ []) refl parcel_none (face-known (bare m []) face can.face_there)
