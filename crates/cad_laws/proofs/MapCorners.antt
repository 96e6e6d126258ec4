-- The corners of a map's rings: their sides, the one that a side leaves, and the parts of a ring
-- among others.
use Rattle.std.proofs.Common.{◌≡◌, ℕ, suc, ◌+◌, ◌≤◌, inl, inr, refl, sym, ap, subst, ◌∙◌, List, [], ◌∷◌, ◌++◌, take, drop, length, map, Bool, true, false, cond, true≢false, Some, slice_get, arith}
use Rattle.std.proofs.lemmas.Bool.Decides.{nat_tests}
use Rattle.std.proofs.lemmas.List.{append-nil}
use Rattle.std.proofs.lemmas.List.Concat.{flat_map-append}
use Rattle.std.proofs.lemmas.List.Sums.{sum_by-cons, sum_by-append}
use Rattle.std.proofs.lemmas.Option.{slice_get_within}
use Rattle.std.specs.Prelude.{IsPermutation, count_by, flat_map, nat_lt}
use Rattle.std.specs.List.{AllByRecursion, Contains, position_or_len}
use Rattle.cad_rings.specs.Cycle.{Ring, Side, is_side, has_side, opposite, sides_of, sides_along, turned, Corner, corners_of}
use Rattle.cad_rings.specs.Surgery.{both_ways}
use Rattle.cad_rings.proofs.CallerLemmas.{permuted_as, laid, shuffled, is_side-same, sides_of-turned}
use Rattle.cad_rings.proofs.CutCorners.{first_of}
use Rattle.cad_map.specs.declared.boundary.Boundary.{Boundary}
use Rattle.cad_map.specs.Boundaries.{sides_in, corners_in}
use Rattle.cad_map.specs.Division.{place_of, hole_placed}
use Rattle.cad_map.specs.Map.{Map, all_sides, all_corners}
use Rattle.cad_rows.specs.declared.names.Face.{Face}
use Rattle.cad_map.specs.Rings.{HasWholeRings}
use Rattle.cad_map.specs.Valid.{IsValid}
use Rattle.cad_map.proofs.CallerLemmas.{Contains-flat_map, Contains-in_part, All-at_each, count-map, one-only, map-Contains, corner-sides, count-part, All-follows, drop-at, of_both_ways, one_boundary, ring-hole_placed, has_first, side_before, side_behind, sides-behind, sides_in-before, corner-only, is_side-refl, once-from_pairs}
use Rattle.cad_laws.specs.Parting.{IsOn}

-- ---- The sides of corners

pub corner-in : (bs : List Boundary) → AllByRecursion (λ b. 2 ≤ length b.ring) bs → (c : Corner)
    → Contains (corners_in bs) c → Contains (sides_in bs) (side_before c)
    × Contains (sides_in bs) (side_behind c)
corner-in bs two c h =
    let part = Contains-in_part (λ (b : Boundary). corners_of b.ring) bs c h in
    let sides =
    corner-sides part.0.ring
    (All-at_each (λ b. 2 ≤ length b.ring) bs part.0 two part.1) c part.2 in (
      Contains-flat_map (λ (b : Boundary). sides_of b.ring) bs part.0
          (side_before c) part.1 sides.0,
      Contains-flat_map
          (λ (b : Boundary). sides_of b.ring) bs part.0 (side_behind c) part.1 sides.1,
    )

-- where no ring has one of these sides, in either direction, no corner has one
pub off-sides : (bs : List Boundary) → AllByRecursion (λ b. 2 ≤ length b.ring) bs
    → (sides : List Side)
    → ((s : Side) → Contains sides s → Contains (sides_in bs) s → ⊥)
    → ((s : Side) → Contains sides s → Contains (sides_in bs) (opposite s) → ⊥)
    → (c : Corner) → Contains (corners_in bs) c → IsOn sides c → ⊥
off-sides bs two sides new new_back c h on =
    let in_map = corner-in bs two c h in
    elim on [
      | inl before ↦ off (side_before c) in_map.0 before
      | inr behind ↦ off (side_behind c) in_map.1 behind
    ]
  where
    off : (s : Side) → Contains (sides_in bs) s → Contains (both_ways sides) s → ⊥
    off s there both = elim (of_both_ways sides s both) [
      | inl k ↦ new s k there
      | inr k ↦ new_back (opposite s) k there
    ]

pub two-sides : (m : Map) → IsValid m → AllByRecursion (λ b. 2 ≤ length b.ring) m.boundaries
two-sides m valid =
    All-follows (λ b. 3 ≤ length b.ring) (λ b. 2 ≤ length b.ring)
    (λ b h. omega (arith, h)) m.boundaries valid.sound.v5.three

-- ---- A side leaves one corner, and leads to one

-- of one ring
pub behind-only : (r : Ring) → 2 ≤ length r → ((s : Side) → count_by (is_side s) (sides_of r) ≤ 1)
    → (c d : Corner) → Contains (corners_of r) c → Contains (corners_of r) d
    → side_behind c ≡ side_behind d → c ≡ d
behind-only r two once c d h k same =
    let s = side_behind c in
    let first = has_first r two in
    let X = map side_behind (corners_of r) in
    let one : Side → ℕ = λ (t : Side). cond (is_side s t) 1 0 in
    let e1 = sum_by-cons one first.0 X in
    let e2 = sum_by-append one (sides_of r) (first.0 ∷ []) in
    let e3 = sum_by-cons one first.0 [] in
    let e4 = ap (λ (l : List Side). count_by (is_side s) l) (sides-behind r first.0 two first.1) in
    let e5 = count-map side_behind (is_side s) (corners_of r) in
    let few = once s in
    one-only (λ e. is_side s (side_behind e)) (corners_of r) c d
    (omega (arith, e1, e2, e3, e4, e5, few)) h k (is_side-refl s)
    (ap (is_side s) (sym same) ∙ is_side-refl s)

-- of one map
module _ (m : Map) (whole : HasWholeRings m) where
  pub two-whole : AllByRecursion (λ b. 2 ≤ length b.ring) m.boundaries
  two-whole =
      All-follows (λ b. 3 ≤ length b.ring) (λ b. 2 ≤ length b.ring)
      (λ b h. omega (arith, h)) m.boundaries whole.v5.three

  once-whole : (s : Side) → count_by (is_side s) (all_sides m) ≤ 1
  once-whole s = once-from_pairs (all_sides m) whole.once s

  pub behind-one : (c d : Corner) → Contains (all_corners m) c → Contains (all_corners m) d
      → side_behind c ≡ side_behind d → c ≡ d
  behind-one c d h k same =
      let p = Contains-in_part (λ (b : Boundary). corners_of b.ring) m.boundaries c h in
      let q = Contains-in_part (λ (b : Boundary). corners_of b.ring) m.boundaries d k in
      let long = All-at_each (λ b. 2 ≤ length b.ring) m.boundaries p.0 two-whole p.1 in
      let ps = corner-sides p.0.ring long c p.2 in
      let qs =
      corner-sides q.0.ring
      (All-at_each (λ b. 2 ≤ length b.ring) m.boundaries q.0 two-whole q.1) d q.2 in
      let one : p.0 ≡ q.0 =
      one_boundary (side_behind c) m.boundaries p.0 q.0
      (once-whole (side_behind c)) p.1 q.1 ps.1
      (subst (Contains (sides_of q.0.ring)) (sym same) qs.1) in
      let once : (s : Side) → count_by (is_side s) (sides_of p.0.ring) ≤ 1 = λ s. let few =
      once-whole s in let part =
      count-part (is_side s) (λ (b : Boundary). sides_of b.ring) m.boundaries p.0 p.1 in
      omega (arith, few, part) in
      behind-only p.0.ring long once c d p.2
      (subst (λ (b : Boundary). Contains (corners_of b.ring) d) (sym one) q.2) same

  pub before-one : (c d : Corner) → Contains (all_corners m) c → Contains (all_corners m) d
      → side_before c ≡ side_before d → c ≡ d
  before-one c d h k same =
      corner-only m.boundaries (record { two = two-whole; once = once-whole }) c d h k same

  -- and each side has one
  pub some-corner : (s : Side) → Contains (all_sides m) s
      → (c : Corner) × Contains (all_corners m) c × (side_before c ≡ s)
  some-corner s h =
      map-Contains side_before (corners_in m.boundaries) s
      (subst (λ (l : List Side). Contains l s) (sym (sides_in-before m.boundaries two-whole)) h)

-- ---- A ring written from the place of a side on

at-place : (s : Side) (sides : List Side) → has_side s sides ≡ true
    → slice_get sides (position_or_len (is_side s) sides) ≡ Some s
at-place s [] has = absurd (true≢false (sym has))
at-place s (t ∷ sides) has = by (is_side s t) refl (λ rest. at-place s sides rest)
  where
    by : (b : Bool) → is_side s t ≡ b
        → (has_side s sides ≡ true → slice_get sides (position_or_len (is_side s) sides) ≡ Some s)
        → slice_get (t ∷ sides) (position_or_len (is_side s) (t ∷ sides)) ≡ Some s
    by true is again = rw is (ap Some (sym (is_side-same s t is)))
    by false is again =
        let k = again (rw is at has) in
        let n = position_or_len (is_side s) sides in
        let next : 1 + n ≡ suc n = omega arith in
        rw is (rw next k)

side-at : (s : Side) (ring : Ring) → has_side s (sides_of ring) ≡ true
    → slice_get (sides_of ring) (place_of s ring) ≡ Some s
side-at s ring has =
    let k = at-place s (sides_of ring) has in
    let n = position_or_len (is_side s) (sides_of ring) in
    let low = slice_get_within (sides_of ring) n s k in
    let found : nat_lt n (length (sides_of ring)) ≡ true = grind (arith, nat_tests, low) in
    rw found k

begins : (a : ℕ) (xs : List ℕ) (b : ℕ) (ys : List ℕ)
    → (rest : List Side) × (sides_of (a ∷ xs ++ b ∷ ys) ≡ (a, first_of xs b) ∷ rest)
begins a [] b ys = (sides_along b ys a, refl)
begins a (x ∷ xs) b ys = (sides_along x (xs ++ b ∷ ys) a, refl)

pub place-begins : (s : Side) (ring : Ring) → has_side s (sides_of ring) ≡ true
    → (a : ℕ) (xs : List ℕ) (b : ℕ) (ys : List ℕ)
    → turned (place_of s ring) ring ≡ a ∷ xs ++ b ∷ ys → s ≡ (a, first_of xs b)
place-begins s ring has a xs b ys round =
    let i = place_of s ring in
    let sides = sides_of ring in
    let first =
    sides_of-turned i ring ∙ ap (λ (l : List Side). l ++ take i sides)
    (drop-at sides i s (side-at s ring has)) in
    let start = begins a xs b ys in
    let e : s ∷ (drop (i + 1) sides ++ take i sides) ≡ (a, first_of xs b) ∷ start.0 =
    sym first ∙ ap sides_of round ∙ start.1 in
    cc

-- ---- One ring among others

pub parts-among : {A : Type 0} (part : Boundary → List A) (front : List Boundary) (b : Boundary)
    (back : List Boundary) → IsPermutation (flat_map part (front ++ b ∷ back))
    (part b ++ flat_map part (front ++ back))
parts-among {A = A} part front b back =
    let F = flat_map part front in
    let S = part b in
    let B = flat_map part back in
    let pieces : List (List A) = F ∷ S ∷ B ∷ [] in
    permuted_as (flat_map part (front ++ b ∷ back)) (laid pieces (0 ∷ 1 ∷ 2 ∷ []))
    (S ++ flat_map part (front ++ back)) (laid pieces (1 ∷ 0 ∷ 2 ∷ []))
    (flat_map-append part front (b ∷ back)
    ∙ ap (λ (l : List A). F ++ (S ++ l)) (sym (append-nil B)))
    (ap (λ (l : List A).
    S ++ l) (flat_map-append part front back
    ∙ ap (λ (l : List A). F ++ l) (sym (append-nil B))))
    (shuffled pieces (0 ∷ 1 ∷ 2 ∷ []) (1 ∷ 0 ∷ 2 ∷ []) refl)

pub corners-holes_placed : (m : Map) (face new : Face) (ring : Ring) (bs : List Boundary)
    → corners_in (map (hole_placed m face new ring) bs) ≡ corners_in bs
corners-holes_placed m face new ring [] = refl
corners-holes_placed m face new ring (b ∷ bs) =
    λ i. corners_of (ring-hole_placed m face new ring b i)
    ++ corners-holes_placed m face new ring bs i
