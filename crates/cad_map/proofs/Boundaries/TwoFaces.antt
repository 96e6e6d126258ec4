-- Where each string has two faces beside it, and rings that are complete in whatever order.
use Rattle.std.proofs.Common.{◌≡◌, ◌≢◌, ℕ, ◌≤◌, inl, inr, refl, sym, ap, subst, ◌∙◌, List, length, map, Option, Some, None, true≢false}
use Rattle.std.specs.Prelude.{IsPermutation}
use Rattle.std.specs.List.{AllByRecursion, Contains}
use Rattle.std.proofs.lemmas.Option.{same_Some}
use Rattle.std.proofs.lemmas.List.Sorted.{IsPermutation-sym, IsPermutation-trans, Contains-permutation}
use Rattle.cad_rows.specs.declared.names.Face.{Face}
use Rattle.cad_rows.specs.declared.rows.StringRow.{StringRow}
use Rattle.cad_rings.specs.Cycle.{Side, opposite, sides_of}
use Rattle.cad_rings.specs.Canonical.{least_rotation}
use Rattle.cad_rings.proofs.CallerLemmas.{sides_of-least_rotation, IsSameRing-least_rotation, IsSameRing-length}
use Rattle.cad_map.specs.declared.boundary.Boundary.{Boundary}
use Rattle.cad_map.specs.Boundaries.{canonical_form, canonical_order, sides_in}
use Rattle.cad_map.specs.Map.{Map, side_of, string_sides, all_sides, face_at, left_face, right_face}
use Rattle.cad_map.specs.Valid.{IsValid, HasCompleteRings}
use Rattle.cad_map.specs.Changes.{with_boundaries}
use Rattle.cad_map.proofs.Lists.Elements.{Contains-flat_map, All-at_each, All-from_each}
use Rattle.cad_map.proofs.Lists.EachElement.{All-permuted, All-map, All-follows}
use Rattle.cad_map.proofs.Lists.ElementFacts.{map-Contains}
use Rattle.cad_map.proofs.Boundaries.CanonicalOrder.{IsPermutation-canonical_order}
use Rattle.cad_map.proofs.Boundaries.OrderedSides.{sides_in-canonical_order}
use Rattle.cad_map.proofs.Boundaries.Looks.{first_face-some, first_face-none}
use Rattle.cad_map.proofs.Boundaries.FacesBeside.{IsBeside, beside, has_side-Contains, Contains-has_side, both_sides, one_ring, of_string}

-- no side has one face on its two hands
pub record AreApart (bs : List Boundary) : Type 0 where
  pub apart : (s : Side) (f g : Face) → IsBeside f s bs → IsBeside g (opposite s) bs → f ≢ g

-- ---- A valid map

pub apart-valid : (m : Map) → IsValid m → AreApart m.boundaries
apart-valid m valid = record { apart = λ s f g here there same. by s f g here there same }
  where
    told : (s : Side) (f : Face) → IsBeside f s m.boundaries → face_at m s ≡ Some f
    told s f k = one_ring m valid s k.boundary k.there k.has ∙ ap Some (sym k.face)

    by : (s : Side) (f g : Face) → IsBeside f s m.boundaries → IsBeside g (opposite s) m.boundaries → f ≡ g → ⊥
    by s f g here there same =
        let string = of_string m valid s (Contains-flat_map (λ b. sides_of b.ring) m.boundaries here.boundary s here.there here.has) in
        let t = string.string in
        let differ = All-at_each (λ (t : StringRow). left_face m t ≢ right_face m t) m.strings t valid.sound.v5.two_faces string.there in
        let one = told s f here in
        let other = told (opposite s) g there in
        elim string.is [
          | inl is ↦ differ (ap (face_at m) (sym is) ∙ one ∙ ap Some same ∙ sym other ∙ ap (λ (u : Side). face_at m (opposite u)) is)
          | inr is ↦ differ (ap (λ (u : Side). face_at m (opposite u)) (sym is) ∙ other ∙ ap Some (sym same) ∙ sym one ∙ ap (face_at m) is)
        ]

-- ---- Rings in canonical order

-- a ring in canonical order is one of these, written from another point on
pub beside-canonical_order : (f : Face) (s : Side) (bs : List Boundary) → IsBeside f s (canonical_order bs) → IsBeside f s bs
beside-canonical_order f s bs k =
    let one = map-Contains canonical_form bs k.boundary (Contains-permutation (canonical_order bs) (map canonical_form bs) k.boundary (IsPermutation-sym (map canonical_form bs) (canonical_order bs) (IsPermutation-canonical_order bs)) k.there) in
    let b = one.0 in
    record {
      boundary = b;
      there = one.1;
      face = k.face ∙ ap (λ (c : Boundary). c.face) (sym one.2);
      has = Contains-permutation (sides_of (least_rotation b.ring)) (sides_of b.ring) s (IsPermutation-sym (sides_of b.ring) (sides_of (least_rotation b.ring)) (sides_of-least_rotation b.ring))
          (subst (λ (c : Boundary). Contains (sides_of c.ring) s) (sym one.2) k.has);
    }

-- the face that is found for a side of these rings is beside it
found-beside : (s : Side) (bs : List Boundary) → Contains (sides_in bs) s → (m : Map) → m.boundaries ≡ bs → (f : Face) × (face_at m s ≡ Some f) × IsBeside f s bs
found-beside s bs has m is = by (face_at m s) refl
  where
    here : Contains (sides_in m.boundaries) s
    here = subst (λ (cs : List Boundary). Contains (sides_in cs) s) (sym is) has

    by : (o : Option Face) → face_at m s ≡ o → (f : Face) × (face_at m s ≡ Some f) × IsBeside f s bs
    by None none = absurd (true≢false (sym (Contains-has_side s (sides_in m.boundaries) here) ∙ first_face-none s m.boundaries none))
    by (Some f) some =
        let k = beside f s m.boundaries (has_side-Contains s _ (first_face-some s m.boundaries f some)) in
        (f, some, subst (λ (cs : List Boundary). IsBeside f s cs) is k)

length-canonical_form : (b : Boundary) → length (canonical_form b).ring ≡ length b.ring
length-canonical_form b = IsSameRing-length b.ring (least_rotation b.ring) (IsSameRing-least_rotation b.ring)

-- rings with these sides, none of which has one face on its two hands, are complete in canonical order
pub complete : (m : Map) (bs : List Boundary) → AllByRecursion (λ b. 3 ≤ length b.ring) bs → IsPermutation (string_sides m) (sides_in bs) → AreApart bs → HasCompleteRings (with_boundaries bs m)
complete m bs three once apart =
    record {
      three = All-permuted (λ b. 3 ≤ length b.ring) (map canonical_form bs) (canonical_order bs) (IsPermutation-canonical_order bs)
          (All-map (λ b. 3 ≤ length b.ring) canonical_form bs (All-follows (λ b. 3 ≤ length b.ring) (λ b. 3 ≤ length (canonical_form b).ring) (λ b h. subst (λ (n : ℕ). 3 ≤ n) (sym (length-canonical_form b)) h) bs three));
      once = all;
      two_faces = All-from_each (λ t. left_face new t ≢ right_face new t) m.strings two;
    }
  where
    new : Map
    new = with_boundaries bs m

    all : IsPermutation (string_sides m) (all_sides new)
    all = IsPermutation-trans (string_sides m) (sides_in bs) (all_sides new) once (sides_in-canonical_order bs)

    two : (t : StringRow) → Contains m.strings t → left_face new t ≢ right_face new t
    two t there same =
        let sides = both_sides m t there in
        let l = found-beside (side_of t) (canonical_order bs) (Contains-permutation (string_sides m) (all_sides new) (side_of t) all sides.0) new refl in
        let r = found-beside (opposite (side_of t)) (canonical_order bs) (Contains-permutation (string_sides m) (all_sides new) (opposite (side_of t)) all sides.1) new refl in
        apart.apart (side_of t) l.0 r.0 (beside-canonical_order l.0 (side_of t) bs l.2) (beside-canonical_order r.0 (opposite (side_of t)) bs r.2) (same_Some l.0 r.0 (sym l.1 ∙ same ∙ r.1))
