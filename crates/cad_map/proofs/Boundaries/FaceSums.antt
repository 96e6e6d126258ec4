-- The sum of a face, ring by ring, as something keeps the rings of a map.
use Rattle.std.proofs.Common.{◌≡◌, ℕ, ◌+◌, ◌<◌, ◌≤◌, sym, ap, subst, ◌∙◌, List, [], ◌∷◌, ◌++◌, length, take, drop, arith, length-append, ℤ, ◌+ℤ◌, FitsSigned, unsigned_abs}
use Rattle.std.specs.Int.{w128}
use Rattle.std.specs.Prelude.{flat_map, IsPermutation}
use Rattle.std.proofs.lemmas.List.{take-append-drop, take_all, append-nil}
use Rattle.std.proofs.lemmas.List.Sorted.{length_permutation}
use Rattle.std.proofs.lemmas.Grind.{flat_map-append}
use Rattle.std.proofs.lemmas.Option.{slice_get-get_or}
use Rattle.geo_exact.specs.Measure.{Measure, IsBounded, sum_over}
use Rattle.cad_rows.specs.declared.names.Face.{Face}
use Rattle.cad_rings.specs.Cycle.{Ring, Side, sides_of, placed}
use Rattle.cad_rings.proofs.CallerLemmas.{sum-append, sum-permuted}
use Rattle.cad_map.specs.declared.boundary.Boundary.{Boundary}
use Rattle.cad_map.specs.Boundaries.{canonical_order}
use Rattle.cad_map.specs.Map.{face_sides, Map, position_of, rings_at, all_sides, string_sides, sum_of_ring, sum_of_face}
use Rattle.cad_map.specs.Rings.{HasWholeRings, ring_at}
use Rattle.cad_map.proofs.Lists.Entries.{take-more}
use Rattle.cad_map.proofs.Boundaries.OrderedParts.{face_sides-canonical_order, face_sides-few}
use Rattle.cad_map.proofs.Boundaries.RingsOfMap.{two_each}
use Rattle.cad_map.proofs.Walks.Walked.{sum-fits, sum-bounded}

module _ (m : Map) (bs : List Boundary) (whole : HasWholeRings m) (is : canonical_order bs ≡ m.boundaries) (face : Face) where
  abbrev rings : List Ring
  rings = rings_at face bs

  -- the sides of the rings up to a place
  abbrev pub sides_up_to : ℕ → List Side
  sides_up_to place = flat_map sides_of (take place rings)

  pub up_to-few : (place : ℕ) → length (sides_up_to place) ≤ 400000
  up_to-few place =
      let parts = ap (flat_map sides_of) (sym (take-append-drop place rings)) ∙ flat_map-append sides_of (take place rings) (drop place rings) in
      let split = ap length parts ∙ length-append (sides_up_to place) (flat_map sides_of (drop place rings)) in
      let kept = length_permutation (flat_map sides_of rings) (flat_map sides_of (rings_at face (canonical_order bs))) (face_sides-canonical_order face bs) in
      let told = ap (λ (cs : List Boundary). length (flat_map sides_of (rings_at face cs))) is in
      let all = face_sides-few face m.boundaries in
      let both = length_permutation (string_sides m) (all_sides m) whole.v5.once in
      let two = two_each m.strings in
      let most = whole.v1.few_strings in
      omega arith

  -- one more ring, and all of them
  pub up_to-next : (place : ℕ) → place < length rings → sides_up_to (place + 1) ≡ sides_up_to place ++ sides_of (ring_at bs face place)
  up_to-next place within =
      let ring = ring_at bs face place in
      ap (flat_map sides_of) (sym (take-more rings place ring (slice_get-get_or rings place [] within)))
      ∙ flat_map-append sides_of (take place rings) (ring ∷ []) ∙ ap (λ (l : List Side). sides_up_to place ++ l) (append-nil (sides_of ring))

  pub up_to-all : (place : ℕ) → length rings ≤ place → IsPermutation (sides_up_to place) (face_sides m face)
  up_to-all place past =
      subst (λ (rs : List Ring). IsPermutation (flat_map sides_of rs) (face_sides m face)) (sym (take_all place rings past))
      (subst (λ (cs : List Boundary). IsPermutation (flat_map sides_of rings) (flat_map sides_of (rings_at face cs))) is (face_sides-canonical_order face bs))

  module _ (f : Measure) where
    abbrev sum_up_to : ℕ → ℤ
    sum_up_to place = sum_over f (placed (position_of m) (sides_up_to place))

    pub sum_up_to-fits : IsBounded f → (place : ℕ) → FitsSigned w128 (sum_up_to place)
    sum_up_to-fits bounded place = sum-fits m whole.v1 f bounded (sides_up_to place) (up_to-few place)

    -- one more ring
    pub sum_up_to-next : (place : ℕ) → place < length rings → sum_up_to (place + 1) ≡ sum_up_to place +ℤ sum_of_ring f m (ring_at bs face place)
    sum_up_to-next place within =
        ap (λ (l : List Side). sum_over f (placed (position_of m) l)) (up_to-next place within) ∙ sum-append f (position_of m) (sides_up_to place) (sides_of (ring_at bs face place))

    -- and all of them
    pub sum_up_to-all : (place : ℕ) → length rings ≤ place → sum_up_to place ≡ sum_of_face f m face
    sum_up_to-all place past = sum-permuted f (position_of m) (sides_up_to place) (face_sides m face) (up_to-all place past)

    -- within the bound of as many sides as the strings have
    pub sum_up_to-small : IsBounded f → (place : ℕ) → unsigned_abs (sum_up_to place) ≤ 80000000000000000000000000
    sum_up_to-small bounded place = sum-bounded m whole.v1 f bounded (sides_up_to place) (up_to-few place)
