-- Where a face has one side from a point alone, one of its rings passes the point.
use Rattle.std.proofs.Common.{◌≡◌, ℕ, ◌+◌, ◌≤◌, refl, sym, ap, subst, ◌∙◌, List, [], ◌∷◌, ◌++◌, cond, Bool, true, false, ◌==◌, arith}
use Rattle.std.proofs.lemmas.Bool.{eqb-true}
use Rattle.std.proofs.lemmas.List.Sorted.{Contains-permutation}
use Rattle.std.proofs.lemmas.List.Sums.{sum_by-append, sum_by-cons}
use Rattle.std.specs.Prelude.{count_by}
use Rattle.std.specs.List.{Contains}
use Rattle.cad_rows.specs.declared.names.Face.{Face}
use Rattle.cad_rings.specs.Cycle.{Ring, Side, has_side, sides_of}
use Rattle.cad_map.specs.declared.boundary.Boundary.{Boundary}
use Rattle.cad_map.specs.Boundaries.{is_face}
use Rattle.cad_map.specs.Map.{Map, all_sides, far_end, face_sides, rings_of, strings_at}
use Rattle.cad_map.specs.Rings.{HasWholeRings}
use Rattle.cad_map.specs.Views.{HasSide}
use Rattle.cad_map.proofs.CallerLemmas.{Contains-flat_map, Contains-has_side, Contains-in_part, Contains-map, face-ring, first_points, has_side-Contains, is_face-refl, list_any-found, map-Contains, once-from_pairs, one-only, one_boundary, Contains-filter}
use Rattle.cad_near.specs.declared.rays.Ray.{Ray}
use Rattle.cad_near.specs.Moves.{passes}
use Rattle.cad_near.specs.Rays.{AreRaysOf, ray_of}
use Rattle.cad_near.proofs.MovedRings.{other-face, string-out}

-- one more is counted
pub count-more : {X : Type 0} (p : X → Bool) (xs : List X) (x : X) → count_by p (xs ++ x ∷ []) ≡ count_by p xs + cond (p x) 1 0
count-more p xs x =
    let e = sum_by-append (λ (y : _). cond {A = ℕ} (p y) 1 0) xs (x ∷ []) in
    let k = sum_by-cons (λ (y : _). cond {A = ℕ} (p y) 1 0) x [] in
    omega (arith, e, k)

module _ (m : Map) (whole : HasWholeRings m) (p : ℕ) where
  -- a face that has a side is the one that is told of it
  pub told-face : (f left : Face) (to : ℕ) → HasSide m left (p, to) → HasSide m f (p, to) → is_face f left ≡ true
  told-face f left to has_left has = by (is_face f left) refl
    where
      by : (b : Bool) → is_face f left ≡ b → is_face f left ≡ true
      by true is = is
      by false is =
          let part = Contains-in_part sides_of (rings_of m f) (p, to) (has_side-Contains (p, to) (face_sides m f) has) in
          let c = face-ring m f part.0 part.1 in
          absurd (other-face m whole p f left to has_left is c.0 c.1 c.2 (subst (λ (r : Ring). Contains {X = Side} (sides_of r) (p, to)) (sym c.3) part.2))

  module _ (f : Face) (rays : List Ray) (are : AreRaysOf m p rays) (once : count_by (λ r. has_side (p, r.far) (face_sides m f)) rays ≤ 1) where
    -- the side along which a ring of the face leaves the point, with the ray along it
    record IsOut (b : Boundary) : Type 0 where
      pub ray : Ray
      pub there : Contains rays ray
      pub has : Contains {X = Side} (sides_of b.ring) (p, ray.far)
      pub of_face : has_side (p, ray.far) (face_sides m f) ≡ true

    out : (b : Boundary) → Contains m.boundaries b → f ≡ b.face → passes p b.ring ≡ true → IsOut b
    out b b_there own some =
        let found = list_any-found (λ q. q == p) b.ring some in
        let side = map-Contains (λ (t : Side). t.0) (sides_of b.ring) found.0 (subst (λ (l : List ℕ). Contains l found.0) (sym (first_points b.ring)) found.1) in
        let from : side.0.0 ≡ p = side.2 ∙ eqb-true found.0 p found.2 in
        let has : Contains {X = Side} (sides_of b.ring) (p, side.0.1) = subst (λ (q : ℕ). Contains {X = Side} (sides_of b.ring) (q, side.0.1)) from side.1 in
        let s = string-out m whole p side.0.1 (Contains-flat_map (λ (b : Boundary). sides_of b.ring) m.boundaries b (p, side.0.1) b_there has) in
        let has_far : Contains {X = Side} (sides_of b.ring) (p, far_end s.0 p) = subst (λ (q : ℕ). Contains {X = Side} (sides_of b.ring) (p, q)) (sym s.2) has in
        let in_face = Contains-map (λ (c : Boundary). c.ring) _ b (Contains-filter (λ (c : Boundary). is_face f c.face) m.boundaries b b_there (ap (is_face f) (sym own) ∙ is_face-refl f)) in
        record {
          ray = ray_of m p s.0;
          there = subst (λ (l : List Ray). Contains l (ray_of m p s.0)) (sym are.seen) (Contains-map (ray_of m p) are.strings s.0 (Contains-permutation (strings_at m p) are.strings s.0 are.each s.1));
          has = has_far;
          of_face = Contains-has_side (p, far_end s.0 p) (face_sides m f) (Contains-flat_map sides_of (rings_of m f) b.ring (p, far_end s.0 p) in_face has_far);
        }

    pub alone : (b c : Boundary) → Contains m.boundaries b → Contains m.boundaries c → f ≡ b.face → f ≡ c.face → passes p b.ring ≡ true → passes p c.ring ≡ true → b ≡ c
    alone b c b_there c_there b_own c_own b_passes c_passes =
        let first = out b b_there b_own b_passes in
        let second = out c c_there c_own c_passes in
        let same = one-only (λ (r : Ray). has_side (p, r.far) (face_sides m f)) rays first.ray second.ray once first.there second.there first.of_face second.of_face in
        one_boundary (p, first.ray.far) m.boundaries b c (once-from_pairs (all_sides m) whole.once (p, first.ray.far)) b_there c_there first.has
        (subst (λ (r : Ray). Contains {X = Side} (sides_of c.ring) (p, r.far)) (sym same) second.has)
