-- The corners of a valid map's rings: each side has one before it and one after it.
use Rattle.std.proofs.Common.{◌≡◌, ◌≢◌, ℕ, ◌≤◌, inl, inr, refl, sym, ap, subst, ◌∙◌, List, [], ◌∷◌, length, map, cond, arith}
use Rattle.std.specs.Prelude.{count_by}
use Rattle.std.specs.List.{AllByRecursion, Contains}
use Rattle.std.proofs.lemmas.List.Sums.{sum_by-append, sum_by-cons}
use Rattle.std.proofs.lemmas.List.Elements.{Contains-push_cases}
use Rattle.cad_rings.specs.Cycle.{Ring, Side, is_side, opposite, sides_along, sides_of, Corner, corners_of}
use Rattle.cad_map.specs.declared.boundary.Boundary.{Boundary}
use Rattle.cad_map.specs.Boundaries.{sides_in, corners_in}
use Rattle.cad_map.specs.Map.{Map, all_sides, all_corners, face_at, left_face, right_face}
use Rattle.cad_map.specs.Valid.{IsValid}
use Rattle.cad_map.proofs.CallerLemmas.{Contains-first, Contains-later, Contains-map, Contains-flat_map, Contains-in_part, count-map, one-only, All-at_each, side_before, side_behind, is_side-refl, sides-before, sides-behind, sides_in-before, once-from_pairs, map-Contains, sides-once, one_ring, of_string}

-- the sides behind the corners of a ring are its sides
behind-ring : (s : Side) (ring : Ring) → 2 ≤ length ring → count_by (λ c. is_side s (side_behind c)) (corners_of ring) ≡ count_by (is_side s) (sides_of ring)
behind-ring s [] two = absurd (omega arith)
behind-ring s (a ∷ []) two = absurd (omega arith)
behind-ring s (a ∷ b ∷ points) two =
    let ring = a ∷ b ∷ points in
    let one : Side → ℕ = λ t. cond (is_side s t) 1 0 in
    let same = ap (λ (l : List Side). count_by (is_side s) l) (sides-behind ring (a, b) two refl) in
    let front = sum_by-cons one (a, b) (map side_behind (corners_of ring)) in
    let back = sum_by-append one (sides_of ring) ((a, b) ∷ []) in
    let last = sum_by-cons one (a, b) [] in
    let counted = count-map side_behind (is_side s) (corners_of ring) in
    omega (arith, same, front, back, last, counted)

behind-rings : (s : Side) (bs : List Boundary) → AllByRecursion (λ b. 2 ≤ length b.ring) bs → count_by (λ c. is_side s (side_behind c)) (corners_in bs) ≡ count_by (is_side s) (sides_in bs)
behind-rings s [] two = refl
behind-rings s (b ∷ bs) two =
    let here = behind-ring s b.ring two.0 in
    let rest = behind-rings s bs two.1 in
    let corners = sum_by-append (λ (c : Corner). cond (is_side s (side_behind c)) 1 0) (corners_of b.ring) (corners_in bs) in
    let sides = sum_by-append (λ (t : Side). cond (is_side s t) 1 0) (sides_of b.ring) (sides_in bs) in
    omega (arith, here, rest, corners, sides)

-- the side behind a corner is one of the ring
behind-in : (ring : Ring) (c : Corner) → 2 ≤ length ring → Contains (corners_of ring) c → Contains (sides_of ring) (side_behind c)
behind-in [] c two h = absurd (omega arith)
behind-in (a ∷ []) c two h = absurd (omega arith)
behind-in (a ∷ b ∷ points) c two h =
    let ring = a ∷ b ∷ points in
    let among = Contains-later (a, b) (map side_behind (corners_of ring)) (side_behind c) (Contains-map side_behind (corners_of ring) c h) in
    elim (Contains-push_cases (sides_of ring) (a, b) (side_behind c) (subst (λ (l : List Side). Contains l (side_behind c)) (sides-behind ring (a, b) two refl) among)) [
      | inl there ↦ there
      | inr same ↦ subst (Contains (sides_of ring)) same (Contains-first (a, b) (sides_along b points a))
    ]

module _ (m : Map) (valid : IsValid m) where
  two_each : (bs : List Boundary) → AllByRecursion (λ b. 3 ≤ length b.ring) bs → AllByRecursion (λ b. 2 ≤ length b.ring) bs
  two_each [] all = tt
  two_each (b ∷ bs) all = let three : 3 ≤ length b.ring = all.0 in (omega (arith, three), two_each bs all.1)

  two : AllByRecursion (λ b. 2 ≤ length b.ring) m.boundaries
  two = two_each m.boundaries valid.sound.v5.three

  few : (s : Side) → count_by (is_side s) (all_sides m) ≤ 1
  few s = once-from_pairs (all_sides m) (sides-once m valid) s

  -- the ring of a corner has the side before it, and the one behind it
  pub record IsInOneRing (c : Corner) : Type 0 where
    pub boundary : Boundary
    pub there : Contains m.boundaries boundary
    pub before : Contains (sides_of boundary.ring) (side_before c)
    pub behind : Contains (sides_of boundary.ring) (side_behind c)

  pub in_one_ring : (c : Corner) → Contains (all_corners m) c → IsInOneRing c
  in_one_ring c h =
      let part = Contains-in_part (λ b. corners_of b.ring) m.boundaries c h in
      let b = part.0 in
      let long = All-at_each (λ b. 2 ≤ length b.ring) m.boundaries b two part.1 in
      record {
        boundary = b;
        there = part.1;
        before = subst (λ (l : List Side). Contains l (side_before c)) (sides-before b.ring long) (Contains-map side_before (corners_of b.ring) c part.2);
        behind = behind-in b.ring c long part.2;
      }

  pub before-in : (c : Corner) → Contains (all_corners m) c → Contains (all_sides m) (side_before c)
  before-in c h = let k = in_one_ring c h in Contains-flat_map (λ b. sides_of b.ring) m.boundaries k.boundary (side_before c) k.there k.before

  pub behind-in_all : (c : Corner) → Contains (all_corners m) c → Contains (all_sides m) (side_behind c)
  behind-in_all c h = let k = in_one_ring c h in Contains-flat_map (λ b. sides_of b.ring) m.boundaries k.boundary (side_behind c) k.there k.behind

  -- both sides of a corner have one face
  pub same_face : (c : Corner) → Contains (all_corners m) c → face_at m (side_before c) ≡ face_at m (side_behind c)
  same_face c h =
      let k = in_one_ring c h in
      one_ring m valid (side_before c) k.boundary k.there k.before ∙ sym (one_ring m valid (side_behind c) k.boundary k.there k.behind)

  -- each side has a corner behind it
  pub corner_of : (s : Side) → Contains (all_sides m) s → (c : Corner) × Contains (all_corners m) c × (side_before c ≡ s)
  corner_of s h = map-Contains side_before (all_corners m) s (subst (λ (l : List Side). Contains l s) (sym (sides_in-before m.boundaries two)) h)

  -- and one before it
  pub one_before : (c d : Corner) → Contains (all_corners m) c → Contains (all_corners m) d → side_behind c ≡ side_behind d → c ≡ d
  one_before c d h k same =
      let s = side_behind c in
      let e = behind-rings s m.boundaries two in
      let once = few s in
      one-only (λ f. is_side s (side_behind f)) (all_corners m) c d (omega (arith, e, once)) h k (is_side-refl s) (ap (is_side s) (sym same) ∙ is_side-refl s)

  -- a string has two faces, so no ring turns back at a corner
  pub other_face : (s : Side) → Contains (all_sides m) s → face_at m s ≢ face_at m (opposite s)
  other_face s h same =
      let string = of_string m valid s h in
      let differ : left_face m string.string ≢ right_face m string.string = All-at_each (λ t. left_face m t ≢ right_face m t) m.strings string.string valid.sound.v5.two_faces string.there in
      elim string.is [
        | inl is ↦ differ (ap (face_at m) (sym is) ∙ same ∙ ap (λ (t : Side). face_at m (opposite t)) is)
        | inr is ↦ differ (ap (λ (t : Side). face_at m (opposite t)) (sym is) ∙ sym same ∙ ap (face_at m) is)
      ]

  pub turns_on : (c : Corner) → Contains (all_corners m) c → c.after ≢ c.before
  turns_on c h back = other_face (side_before c) (before-in c h) (same_face c h ∙ ap (λ (p : ℕ). face_at m (c.at, p)) back)
