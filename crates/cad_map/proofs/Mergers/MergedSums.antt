-- After a merger the kept parcel has what both had before.
use Rattle.std.proofs.Common.{◌≡◌, ◌≢◌, ℕ, refl, sym, ap, subst, ◌∙◌, List, [], ◌∷◌, ◌++◌, map, Bool, true, false, ◌+ℤ◌, ℤ, arith}
use Rattle.std.proofs.lemmas.Bool.{false_from_ne_true}
use Rattle.std.proofs.lemmas.Grind.{flat_map-append}
use Rattle.std.proofs.lemmas.Int.{ints}
use Rattle.std.proofs.lemmas.List.{append-nil}
use Rattle.std.proofs.lemmas.List.Folds.{flat_map-map}
use Rattle.std.proofs.lemmas.List.Sorted.{IsPermutation-refl}
use Rattle.std.specs.Prelude.{flat_map, if◌then◌else◌, IsPermutation}
use Rattle.geo_exact.specs.Position.{Position}
use Rattle.geo_exact.specs.Measure.{Measure, IsOdd, sum_over}
use Rattle.cad_rows.specs.declared.names.Face.{Face}
use Rattle.cad_rows.specs.declared.names.Face.TheVariants.{Parcel}
use Rattle.cad_rings.specs.Cycle.{Ring, Side, sides_of, placed}
use Rattle.cad_rings.specs.Surgery.{both_ways}
use Rattle.cad_rings.proofs.CallerLemmas.{sides_of-least_rotation, sum-append, sum-permuted, sum-both_ways}
use Rattle.cad_map.specs.declared.boundary.Boundary.{Boundary}
use Rattle.cad_map.specs.Boundaries.{is_face, bounding, canonical_form, canonical_order}
use Rattle.cad_map.specs.Changes.{with_boundaries, merge}
use Rattle.cad_map.specs.Map.{Map, rings_at, position_of, sum_of_face}
use Rattle.cad_map.specs.Merger.{handed_over}
use Rattle.cad_map.specs.Sums.{IsTakenIn}
use Rattle.cad_map.specs.Valid.{IsValid}
use Rattle.cad_map.proofs.Boundaries.FacesBeside.{is_face-same}
use Rattle.cad_map.proofs.Boundaries.OrderedSides.{parts-canonical_order}
use Rattle.cad_map.proofs.Boundaries.Looks.{is_face-refl}
use Rattle.cad_map.proofs.Mergers.Merged.{two_out, stays}
use Rattle.cad_map.proofs.Mergers.MergedRows.{CanMerge, faces-differ, shared_chain-there, rows, boundaries, merge-is}

-- ---- The sides of a face, ring by ring

-- the ring's sides, where it is one of the face
abbrev part : Face → Boundary → List Side
part f b = if is_face f b.face then sides_of b.ring else []

face_sides-parts : (f : Face) (bs : List Boundary) → flat_map sides_of (rings_at f bs) ≡ flat_map (part f) bs
face_sides-parts f [] = refl
face_sides-parts f (b ∷ bs) = by (is_face f b.face) refl (face_sides-parts f bs)
  where
    by : (t : Bool) → is_face f b.face ≡ t → flat_map sides_of (rings_at f bs) ≡ flat_map (part f) bs → flat_map sides_of (rings_at f (b ∷ bs)) ≡ flat_map (part f) (b ∷ bs)
    by true is rest = simp is (ap (λ (l : List Side). sides_of b.ring ++ l) rest)
    by false is rest = simp is rest

-- in whatever order boundaries stand, a face has the same sides
pub face_sides-canonical_order : (f : Face) (bs : List Boundary) → IsPermutation (flat_map sides_of (rings_at f bs)) (flat_map sides_of (rings_at f (canonical_order bs)))
face_sides-canonical_order f bs =
    subst (λ (l : List Side). IsPermutation l (flat_map sides_of (rings_at f (canonical_order bs)))) (sym (face_sides-parts f bs))
    (subst (λ (l : List Side). IsPermutation (flat_map (part f) bs) l) (sym (face_sides-parts f (canonical_order bs))) (parts-canonical_order (part f) written bs))
  where
    written : (b : Boundary) → IsPermutation (part f b) (part f (canonical_form b))
    written b = by (is_face f b.face)
      where
        by : (t : Bool) → IsPermutation (if t then sides_of b.ring else []) (if t then sides_of (canonical_form b).ring else [])
        by true = sides_of-least_rotation b.ring
        by false = IsPermutation-refl []

-- a ring of the face, and one of another
part-own : (f : Face) (ring : Ring) → part f (bounding f ring) ≡ sides_of ring
part-own f ring = let same = is_face-refl f in simp same

part-other : (f g : Face) (ring : Ring) → f ≢ g → part f (bounding g ring) ≡ []
part-other f g ring other = let no = false_from_ne_true (is_face f g) (λ h. other (is_face-same f g h)) in simp no

-- what the kept face has of a ring that is handed over: what both had
part-handed : (kept ended : Face) → kept ≢ ended → (b : Boundary) → part kept (handed_over kept ended b) ≡ part kept b ++ part ended b
part-handed kept ended two b = by (is_face ended b.face) refl
  where
    by : (t : Bool) → is_face ended b.face ≡ t → part kept (handed_over kept ended b) ≡ part kept b ++ part ended b
    by true is =
        let none : part kept b ≡ [] = ap (λ (f : Face). part kept (bounding f b.ring)) (sym (is_face-same ended b.face is)) ∙ part-other kept ended b.ring two in
        let own = part-own kept b.ring in
        simp is (own ∙ ap (λ (l : List Side). l ++ sides_of b.ring) (sym none))
    by false is = simp is (sym (append-nil (part kept b)))

-- ---- Their sums

module _ (f : Measure) (position : ℕ → Position) where
  abbrev sum : List Side → ℤ
  sum sides = sum_over f (placed position sides)

  sum-handed : (kept ended : Face) → kept ≢ ended → (bs : List Boundary) → sum (flat_map (part kept) (map (handed_over kept ended) bs)) ≡ sum (flat_map (part kept) bs) +ℤ sum (flat_map (part ended) bs)
  sum-handed kept ended two [] = refl
  sum-handed kept ended two (b ∷ bs) =
      let rest = sum-handed kept ended two bs in
      let one = ap sum (part-handed kept ended two b) ∙ sum-append f position (part kept b) (part ended b) in
      let new = sum-append f position (part kept (handed_over kept ended b)) (flat_map (part kept) (map (handed_over kept ended) bs)) in
      let first = sum-append f position (part kept b) (flat_map (part kept) bs) in
      let second = sum-append f position (part ended b) (flat_map (part ended) bs) in
      omega (arith, ints, rest, one, new, first, second)

module _ (f : Measure) (odd : IsOdd f) (m : Map) (kept ended : ℕ) (valid : IsValid m) (can : CanMerge m kept ended) where
  abbrev K : Face
  K = Parcel kept

  abbrev E : Face
  E = Parcel ended

  abbrev total_of : List Side → ℤ
  total_of sides = sum_over f (placed (position_of m) sides)

  abbrev left : List Boundary
  left = stays m K E (shared_chain-there m kept ended valid can).k (shared_chain-there m kept ended valid can).e

  -- what a face had: its part of the two rings, and of the others
  before : (g : Face) → let it = shared_chain-there m kept ended valid can in sum_of_face f m g ≡ total_of (part g (bounding K it.k)) +ℤ (total_of (part g (bounding E it.e)) +ℤ total_of (flat_map (part g) left))
  before g =
      let it = shared_chain-there m kept ended valid can in
      let one = part g (bounding K it.k) in
      let other = part g (bounding E it.e) in
      let rest = flat_map (part g) left in
      ap total_of (face_sides-parts g m.boundaries)
      ∙ sum-permuted f (position_of m) (flat_map (part g) m.boundaries) (one ++ (other ++ rest)) (two_out m K E valid (faces-differ m kept ended valid can) (part g) it.k it.e it.k_there it.e_there)
      ∙ sum-append f (position_of m) one (other ++ rest)
      ∙ ap (λ (z : ℤ). total_of one +ℤ z) (sum-append f (position_of m) other rest)

  -- what the kept face has: the rings that come, and what both had of the others
  behind : let it = shared_chain-there m kept ended valid can in
      sum_of_face f (with_boundaries (boundaries m kept ended valid can) (rows m kept ended valid can)) K ≡ total_of (flat_map sides_of it.more) +ℤ (total_of (flat_map (part K) left) +ℤ total_of (flat_map (part E) left))
  behind =
      let it = shared_chain-there m kept ended valid can in
      let new = boundaries m kept ended valid can in
      let more = map (bounding K) it.more in
      let others = map (handed_over K E) left in
      let same : flat_map (part K) more ≡ flat_map sides_of it.more = flat_map-map (part K) (bounding K) it.more ∙ ap (λ (t : Bool). flat_map (λ (r : Ring). if t then sides_of r else []) it.more) (is_face-refl K) in
      sym (sum-permuted f (position_of m) (flat_map sides_of (rings_at K new)) (flat_map sides_of (rings_at K (canonical_order new))) (face_sides-canonical_order K new))
      ∙ ap total_of (face_sides-parts K new ∙ flat_map-append (part K) more others ∙ ap (λ (l : List Side). l ++ flat_map (part K) others) same)
      ∙ sum-append f (position_of m) (flat_map sides_of it.more) (flat_map (part K) others)
      ∙ ap (λ (z : ℤ). total_of (flat_map sides_of it.more) +ℤ z) (sum-handed f (position_of m) K E (faces-differ m kept ended valid can) left)

  -- the rings that come have what the two had
  shared_chain-sum : let it = shared_chain-there m kept ended valid can in total_of (flat_map sides_of it.more) ≡ total_of (sides_of it.k) +ℤ total_of (sides_of it.e)
  shared_chain-sum =
      let it = shared_chain-there m kept ended valid can in
      let C = both_ways it.chain in
      let M = flat_map sides_of it.more in
      let one = sum-append f (position_of m) (sides_of it.k) (sides_of it.e) in
      let moved = sum-permuted f (position_of m) (sides_of it.k ++ sides_of it.e) (C ++ M) it.sides in
      let other = sum-append f (position_of m) C M in
      let nothing = sum-both_ways f odd (position_of m) it.chain in
      omega (arith, ints, one, moved, other, nothing)

  taken_in : IsTakenIn f m K E (with_boundaries (boundaries m kept ended valid can) (rows m kept ended valid can))
  taken_in =
      let it = shared_chain-there m kept ended valid can in
      let differ = faces-differ m kept ended valid can in
      let new = behind in
      let shared_chain = shared_chain-sum in
      let old_kept = before K in
      let old_ended = before E in
      let a = ap total_of (part-own K it.k) in
      let b = ap total_of (part-other K E it.e differ) in
      let c = ap total_of (part-other E K it.k (λ same. differ (sym same))) in
      let d = ap total_of (part-own E it.e) in
      omega (arith, ints, new, shared_chain, old_kept, old_ended, a, b, c, d)

-- The kept parcel's sums are those of both parcels.
pub merged-adds_up : (f : Measure) → IsOdd f → (m : Map) (kept ended : ℕ) → IsValid m → CanMerge m kept ended → IsTakenIn f m (Parcel kept) (Parcel ended) (merge m (Parcel kept) (Parcel ended))
merged-adds_up f odd m kept ended valid can = subst (IsTakenIn f m (Parcel kept) (Parcel ended)) (sym (merge-is m kept ended valid can)) (taken_in f odd m kept ended valid can)
