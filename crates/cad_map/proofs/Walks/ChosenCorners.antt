-- The corner that is chosen at a point of a face, and what lies in its sector.
use Rattle.std.proofs.Common.{◌≡◌, ℕ, refl, sym, ap, subst, ◌∙◌, List, [], ◌∷◌, Bool, true, false, true≢false, Some, filter}
use Rattle.std.specs.Prelude.{◌==◌, ◌&&◌, not}
use Rattle.std.specs.List.{Contains, list_any}
use Rattle.std.proofs.lemmas.Bool.{eqb-true, and_parts}
use Rattle.geo_exact.specs.Sector.{in_sector}
use Rattle.cad_rows.specs.declared.names.Face.{Face}
use Rattle.cad_rows.specs.declared.rows.StringRow.{StringRow}
use Rattle.cad_rings.specs.Cycle.{Ring, Corner, corners_of}
use Rattle.cad_map.specs.declared.boundary.Boundary.{Boundary}
use Rattle.cad_map.specs.Boundaries.{is_face}
use Rattle.cad_map.specs.Map.{Map, position_of, is_end, far_end, strings_at, rings_of, face_corners, all_corners}
use Rattle.cad_map.specs.Valid.{IsValid, is_empty_corner}
use Rattle.cad_map.specs.Chain.{has_in_sector, chosen_corner}
use Rattle.cad_map.proofs.Lists.Elements.{Contains-first, Contains-later, Contains-flat_map, Contains-in_part}
use Rattle.cad_map.proofs.Lists.ElementFacts.{Contains-filter, filter-Contains, find-Contains, list_all-at, map-Contains}
use Rattle.cad_map.proofs.Boundaries.FacesBeside.{is_face-same}

-- where a test of any passes, an element passes it
pub any-found : {X : Type 0} (test : X → Bool) (xs : List X) → list_any test xs ≡ true → (x : X) × Contains xs x × (test x ≡ true)
any-found test [] h = absurd (true≢false (sym h))
any-found {X} test (x ∷ xs) h = by (test x) refl (λ rest. any-found test xs rest)
  where
    by : (b : Bool) → test x ≡ b → (list_any test xs ≡ true → (y : X) × Contains xs y × (test y ≡ true)) → (y : X) × Contains (x ∷ xs) y × (test y ≡ true)
    by true is again = (x, Contains-first x xs, is)
    by false is again = let there = again (rw is at h) in (there.0, Contains-later x xs there.0 there.1, there.2)

-- a ring of the face is one of the map's, with the face to its left
pub face-ring : (m : Map) (face : Face) (ring : Ring) → Contains (rings_of m face) ring → (b : Boundary) × Contains m.boundaries b × (face ≡ b.face) × (b.ring ≡ ring)
face-ring m face ring h =
    let one = map-Contains (λ (b : Boundary). b.ring) (filter (λ b. is_face face b.face) m.boundaries) ring h in
    let kept = filter-Contains (λ b. is_face face b.face) m.boundaries one.0 one.1 in
    (one.0, kept.0, is_face-same face one.0.face kept.1, one.2)

-- a corner of the face at the point, with w in its sector
pub record IsChosen (m : Map) (face : Face) (at w : ℕ) (c : Corner) : Type 0 where
  pub there : Contains (face_corners m face) c
  pub stands : c.at ≡ at
  pub has : has_in_sector m c w ≡ true

pub chosen : (m : Map) (face : Face) (at w : ℕ) (c : Corner) → chosen_corner m face at w ≡ Some c → IsChosen m face at w c
chosen m face at w c is =
    let test : Corner → Bool = λ c. (c.at == at) && has_in_sector m c w in
    let found = find-Contains _ (filter test (face_corners m face)) c is in
    let kept = filter-Contains test (face_corners m face) c found.0 in
    let both = and_parts (c.at == at) (has_in_sector m c w) kept.1 in
    record { there = kept.0; stands = eqb-true c.at at both.0; has = both.1 }

-- in a valid map no string at a corner's point lies in the corner's sector
pub none-in_corner : (m : Map) → IsValid m → (c : Corner) → Contains (all_corners m) c → (t : StringRow) → Contains m.strings t → is_end t c.at ≡ true
    → has_in_sector m c (far_end t c.at) ≡ true → ⊥
none-in_corner m valid c there t here end inside =
    let empty = list_all-at (is_empty_corner m) (all_corners m) c valid.keeps.v6 there in
    let test : StringRow → Bool = λ s. not (in_sector (position_of m c.at) (position_of m c.after) (position_of m c.before) (position_of m (far_end s c.at))) in
    let out = list_all-at test (strings_at m c.at) t empty (Contains-filter (λ s. is_end s c.at) m.strings t here end) in
    true≢false (sym out ∙ ap not inside)

pub none-in_sector : (m : Map) → IsValid m → (face : Face) (c : Corner) → Contains (face_corners m face) c → (t : StringRow) → Contains m.strings t → is_end t c.at ≡ true
    → has_in_sector m c (far_end t c.at) ≡ true → ⊥
none-in_sector m valid face c there t here end inside =
    let part = Contains-in_part corners_of (rings_of m face) c there in
    let b = face-ring m face part.0 part.1 in
    let in_ring : Contains (corners_of b.0.ring) c = subst (λ (r : Ring). Contains (corners_of r) c) (sym b.3) part.2 in
    none-in_corner m valid c (Contains-flat_map (λ b. corners_of b.ring) m.boundaries b.0 c b.1 in_ring) t here end inside
