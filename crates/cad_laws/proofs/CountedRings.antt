-- The rings that pass to another face, at least.
use Rattle.std.proofs.Common.{◌≡◌, ◌≢◌, ℕ, ◌+◌, ◌-◌, ◌≤◌, refl, sym, ap, subst, ◌∙◌, List, [], ◌∷◌, ◌++◌, length, map, filter, not, ◌&&◌, Bool, true, false, true≢false, cond, Option, None, is_some, arith}
use Rattle.std.proofs.lemmas.List.{length-map}
use Rattle.std.proofs.lemmas.List.Sums.{length-filter}
use Rattle.std.proofs.lemmas.List.Sorted.{IsPermutation-sym, Contains-permutation, sum_by-IsPermutation}
use Rattle.std.proofs.lemmas.List.Elements.{Contains-append_right}
use Rattle.std.proofs.lemmas.Slice.Eq.{bytes_eq-Decides}
use Rattle.std.specs.Prelude.{count_by, IsPermutation}
use Rattle.std.specs.List.{AllByRecursion, Contains}
use Rattle.std.specs.Str.{bytes_eq as is_same_list}
use Rattle.cad_rows.specs.declared.edits.Edit.{Edit}
use Rattle.cad_rows.specs.declared.edits.Edit.TheVariants.{AddSource, AddPoint, DropPoint, Split, Join, Divide, Merge, Move, Attach, Detach, Rename, Enclose}
use Rattle.cad_rows.specs.declared.names.Face.{Face}
use Rattle.cad_rows.specs.declared.names.Face.TheVariants.{Outside, Parcel}
use Rattle.cad_rows.specs.declared.rows.ParcelRow.{ParcelRow}
use Rattle.cad_rings.specs.Cycle.{Ring, Side, sides_of, anchor_of}
use Rattle.cad_map.specs.declared.boundary.Boundary.{Boundary}
use Rattle.cad_map.specs.Asked.{GivesInRange}
use Rattle.cad_map.specs.Boundaries.{is_face, bounding, canonical_form}
use Rattle.cad_map.specs.Costs.{has_ring, has_boundary, rings_moved}
use Rattle.cad_map.specs.Division.{hole_placed}
use Rattle.cad_map.specs.Effects.{after}
use Rattle.cad_map.specs.Map.{Map, has_face, rings_of, is_negative, is_in_ring}
use Rattle.cad_map.specs.Merger.{ChainInRings, handed_over}
use Rattle.cad_map.specs.Merger.ChainInRings.{along, around}
use Rattle.cad_map.specs.Refusals.{first_refusal}
use Rattle.cad_map.specs.Rings.{HasWholeRings}
use Rattle.cad_map.specs.Valid.{IsValid, HasSoundRows}
use Rattle.cad_map.proofs.CallerLemmas.{allowed, can-divide, can-enclose, can-merge, names-parcels, All-at_each, Contains-first, Contains-later, Contains-map, count-yes, count-no, count-map, list_any-Contains, kept, All-follows, CanMerge, rings_of_map, has_first, one_boundary}
use Rattle.cad_laws.specs.Counts.{rings_by}
use Rattle.cad_laws.specs.Faces.{HasPlaced, HasMerged, IsMergedIn, merged_with, placed_with}
use Rattle.cad_laws.proofs.CountedSides.{not-there, no-face, ended-gone}
use Rattle.cad_laws.proofs.Elsewhere.{not-face}
use Rattle.cad_laws.proofs.MergedFaces.{merged-faces}
use Rattle.cad_laws.proofs.PlacedFaces.{divided-faces, enclosed-faces}
use Rattle.cad_laws.proofs.WholeAfter.{whole-after}

-- ---- Counts

count-permuted : {X : Type 0} (p : X → Bool) (xs ys : List X) → IsPermutation xs ys
    → count_by p xs ≡ count_by p ys
count-permuted p xs ys perm = sym (sum_by-IsPermutation (λ x. cond (p x) 1 0) xs ys perm)

-- what passes one test passes the other
count-passing : {X : Type 0} (p q : X → Bool) (xs : List X)
    → ((x : X) → Contains xs x → p x ≡ true → q x ≡ true) → count_by p xs ≤ count_by q xs
count-passing p q [] each = omega arith
count-passing {X} p q (x ∷ xs) each =
    by (p x) (q x) refl refl (count-passing p q xs (λ y h. each y (Contains-later x xs y h)))
  where
    by : (a b : Bool) → p x ≡ a → q x ≡ b → count_by p xs ≤ count_by q xs
        → count_by p (x ∷ xs) ≤ count_by q (x ∷ xs)
    by true true is it rest =
        let one = count-yes p x xs is in
        let two = count-yes q x xs it in
        omega (arith, rest, one, two)
    by false true is it rest =
        let one = count-no p x xs is in
        let two = count-yes q x xs it in
        omega (arith, rest, one, two)
    by false false is it rest =
        let one = count-no p x xs is in
        let two = count-no q x xs it in
        omega (arith, rest, one, two)
    by true false is it rest =
        absurd (true≢false (sym (each x (Contains-first x xs) is) ∙ it))

-- one more element is counted once at the most
count-first : {X : Type 0} (p : X → Bool) (x : X) (xs : List X)
    → (count_by p xs ≤ count_by p (x ∷ xs)) × (count_by p (x ∷ xs) ≤ count_by p xs + 1)
count-first p x xs = by (p x) refl
  where
    by : (b : Bool) → p x ≡ b
        → (count_by p xs ≤ count_by p (x ∷ xs)) × (count_by p (x ∷ xs) ≤ count_by p xs + 1)
    by true is = let e = count-yes p x xs is in (omega (arith, e), omega (arith, e))
    by false is = let e = count-no p x xs is in (omega (arith, e), omega (arith, e))

count-behind : {X : Type 0} (p : X → Bool) (xs ys : List X)
    → count_by p ys ≤ count_by p (xs ++ ys)
count-behind p [] ys = omega arith
count-behind p (x ∷ xs) ys =
    let rest = count-behind p xs ys in
    let first = count-first p x (xs ++ ys) in
    omega (arith, rest, first.0)

-- the rings of a face, counted
rings-counted : (m : Map) (f : Face)
    → length (rings_of m f) ≡ count_by (λ b. is_face f b.face) m.boundaries
rings-counted m f =
    length-map (filter (λ b. is_face f b.face) m.boundaries) (λ (b : Boundary). b.ring)
    ∙ length-filter (λ (b : Boundary). is_face f b.face) m.boundaries

-- ---- A ring that the map after has, in another face

abbrev moved : Map → Boundary → Bool
moved after b = has_ring after b && not (has_boundary after b)

has-moved : (after : Map) (b c : Boundary) → Contains after.boundaries c → c.ring ≡ b.ring
    → has_boundary after b ≡ false → moved after b ≡ true
has-moved after b c there same none =
    let has = list_any-Contains (λ d. is_same_list d.ring b.ring) after.boundaries c there
    ((bytes_eq-Decides c.ring b.ring).1 same) in
    rw (has, none) refl

module _ (m after : Map) (kept ended : Face) (chain : List Side) (k e : Ring) (more : List Ring)
    (others : List Boundary) (it : HasMerged m after kept ended chain k e more others)
    (v1 : HasSoundRows after) (gone : has_face after ended ≡ false) (two : ended ≢ kept) where
  abbrev of_ended : Boundary → Bool
  of_ended b = is_face ended b.face

  handed : (b : Boundary) → Contains others b → of_ended b ≡ true → moved after b ≡ true
  handed b h is =
      has-moved after b (handed_over kept ended b)
      (Contains-permutation (merged_with kept ended more others) after.boundaries _ it.are
      (Contains-append_right (map (λ r. canonical_form (bounding kept r)) more)
      (map (handed_over kept ended) others) _
      (Contains-map (handed_over kept ended) others b h)))
      (by (of_ended b) refl) (not-there after b (λ k. no-face after v1 ended gone b k is))
    where
      by : (t : Bool) → of_ended b ≡ t → (handed_over kept ended b).ring ≡ b.ring
      by true at = rw at refl
      by false at = rw at refl

  rings-merged : length (rings_of m ended) - 1 ≤ rings_moved m after
  rings-merged =
      let all = rings-counted m ended in
      let old = count-permuted of_ended m.boundaries
      (bounding kept k ∷ bounding ended e ∷ others) it.were in
      let first = count-no of_ended (bounding kept k) (bounding ended e ∷ others)
      (not-face ended kept two) in
      let second = count-first of_ended (bounding ended e) others in
      let few = count-passing of_ended (moved after) others handed in
      let new = count-permuted (moved after) m.boundaries
      (bounding kept k ∷ bounding ended e ∷ others) it.were in
      let one = count-first (moved after) (bounding kept k) (bounding ended e ∷ others) in
      let next = count-first (moved after) (bounding ended e) others in
      omega (arith, all, old, first, second.1, few, new, one.0, next.0)

module _ (m after : Map) (face new : Face) (gone : List Boundary) (left right : Ring)
    (others : List Boundary) (it : HasPlaced m after face new gone left right others)
    (v1 : HasSoundRows m) (whole : HasWholeRings after) (none : has_face m new ≡ false)
    (two : new ≢ face) where
  abbrev placed : Boundary → Boundary
  placed b = hole_placed m face new left b

  abbrev of_new : Boundary → Bool
  of_new b = is_face new b.face

  long : AllByRecursion (λ b. 2 ≤ length b.ring) after.boundaries
  long =
      All-follows (λ b. 3 ≤ length b.ring) (λ b. 2 ≤ length b.ring) (λ b h. omega (arith, h))
      after.boundaries whole.v5.three

  -- a ring stands in one face only
  one-place : (b c : Boundary) → Contains after.boundaries b → Contains after.boundaries c
      → c.ring ≡ b.ring → b ≡ c
  one-place b c h k same =
      let first = has_first b.ring (All-at_each (λ b. 2 ≤ length b.ring) after.boundaries b long h)
      in
      one_boundary first.0 after.boundaries b c
      ((rings_of_map after after.boundaries whole whole.v1.canonical long).distinct.once first.0)
      h k first.2 (subst (λ (r : Ring). Contains (sides_of r) first.0) (sym same) first.2)

  old : (b : Boundary) → Contains others b → Contains m.boundaries b
  old b h =
      Contains-permutation (gone ++ others) m.boundaries b
      (IsPermutation-sym m.boundaries (gone ++ others) it.were)
      (Contains-append_right gone others b h)

  passed : (b : Boundary) → Contains others b → of_new (placed b) ≡ true → moved after b ≡ true
  passed b h is =
      has-moved after b (placed b) there ring (not-there after b (λ k.
      no-face m v1 new none b (old b h)
      (subst (λ (d : Boundary). of_new d ≡ true) (one-place (placed b) b there k (sym ring)) is)))
    where
      goes : Bool
      goes = is_face face b.face && is_negative m b.ring && is_in_ring m left (anchor_of b.ring)

      ring : (placed b).ring ≡ b.ring
      ring = either goes refl
        where
          either : (t : Bool) → goes ≡ t → (placed b).ring ≡ b.ring
          either true at = rw at refl
          either false at = rw at refl

      there : Contains after.boundaries (placed b)
      there =
          Contains-permutation (placed_with m face new left right others) after.boundaries
          (placed b) it.are (Contains-later (canonical_form (bounding new left))
          (canonical_form (bounding face right) ∷ map placed others) (placed b)
          (Contains-later (canonical_form (bounding face right)) (map placed others) (placed b)
          (Contains-map placed others b h)))

  rings-placed : length (rings_of after new) - 1 ≤ rings_moved m after
  rings-placed =
      let all = rings-counted after new in
      let there = count-permuted of_new (placed_with m face new left right others)
      after.boundaries it.are in
      let first = count-first of_new (canonical_form (bounding new left))
      (canonical_form (bounding face right) ∷ map placed others) in
      let second = count-no of_new (canonical_form (bounding face right)) (map placed others)
      (not-face new face two) in
      let images = count-map placed of_new others in
      let few = count-passing (λ b. of_new (placed b)) (moved after) others passed in
      let were = count-permuted (moved after) m.boundaries (gone ++ others) it.were in
      let part = count-behind (moved after) gone others in
      omega (arith, all, there, first.1, second, images, few, were, part)

-- ---- Each edit

merged-rings : (m : Map) (k n : ℕ) → IsValid m → GivesInRange (Merge (Parcel k) (Parcel n))
    → first_refusal m (Merge (Parcel k) (Parcel n)) ≡ None
    → length (rings_of m (Parcel n)) - 1
    ≤ rings_moved m (after m (Merge (Parcel k) (Parcel n)))
merged-rings m k n v given none =
    by can.shared_chain (merged-faces m (Parcel k) (Parcel n) can.shared_chain v none
    (subst (λ (l : List ChainInRings). Contains l can.shared_chain) (sym can.found)
    (Contains-first can.shared_chain can.others)))
  where
    can : CanMerge m k n
    can = can-merge m k n (allowed m (Merge (Parcel k) (Parcel n)) none)

    new : Map
    new = after m (Merge (Parcel k) (Parcel n))

    v1 : HasSoundRows new
    v1 = (kept m (Merge (Parcel k) (Parcel n)) v given none).v1

    two : Parcel n ≢ Parcel k
    two same = can.two (let is : n ≡ k = cc in sym is)

    by : (x : ChainInRings) → IsMergedIn x m new (Parcel k) (Parcel n)
        → length (rings_of m (Parcel n)) - 1 ≤ rings_moved m new
    by (along c r i e j) it =
        rings-merged m new (Parcel k) (Parcel n) _ r e _ it.0 it.1 v1 (ended-gone m k n) two
    by (around r e) it =
        rings-merged m new (Parcel k) (Parcel n) _ r e _ it.0 it.1 v1 (ended-gone m k n) two

-- a new parcel isn't a face of the map
new-parcel : (m : Map) (face : Face) (parcel : ℕ) → has_face m face ≡ true
    → has_face m (Parcel parcel) ≡ false → Parcel parcel ≢ face
new-parcel m face parcel there none same =
    true≢false (sym there ∙ ap (has_face m) (sym same) ∙ none)

pub rings-counted_by : (m : Map) (e : Edit) → IsValid m → GivesInRange e
    → first_refusal m e ≡ None → rings_by m e ≤ rings_moved m (after m e)
rings-counted_by m (AddSource s text) v given none = omega arith
rings-counted_by m (AddPoint p x y) v given none = omega arith
rings-counted_by m (DropPoint p) v given none = omega arith
rings-counted_by m (Split s p x y one two) v given none = omega arith
rings-counted_by m (Join p new) v given none = omega arith
rings-counted_by m (Divide face chain strings parcel label source) v given none =
    let e = Divide face chain strings parcel label source in
    let can = can-divide m face chain strings parcel label source given (allowed m e none) in
    let it = divided-faces m face chain strings parcel label source can.first can.last v given none
    can.at_first can.at_last in
    let gone = ap (λ (o : Option ParcelRow). is_some o) can.rows.parcel_new in
    rings-placed m (after m e) face (Parcel parcel) _ _ _ _ it.placed v.sound.v1
    (whole-after m e v given none tt) gone (new-parcel m face parcel can.face_there gone)
rings-counted_by m (Merge Outside e) v given none =
    let names = names-parcels m Outside e (allowed m (Merge Outside e) none) in
    let same = names.kept_is in absurd (let no : Outside ≡ Parcel names.first = same in cc)
rings-counted_by m (Merge (Parcel k) Outside) v given none =
    let names = names-parcels m (Parcel k) Outside (allowed m (Merge (Parcel k) Outside) none) in
    let same = names.ended_is in absurd (let no : Outside ≡ Parcel names.second = same in cc)
rings-counted_by m (Merge (Parcel k) (Parcel n)) v given none = merged-rings m k n v given none
rings-counted_by m (Move p x y) v given none = omega arith
rings-counted_by m (Attach i s) v given none = omega arith
rings-counted_by m (Detach i s) v given none = omega arith
rings-counted_by m (Rename p label) v given none = omega arith
rings-counted_by m (Enclose face points strings parcel label source) v given none =
    let e = Enclose face points strings parcel label source in
    let can = can-enclose m face points strings parcel label source given (allowed m e none) in
    let it = enclosed-faces m face points strings parcel label source v in
    let gone = ap (λ (o : Option ParcelRow). is_some o) can.rows.parcel_new in
    rings-placed m (after m e) face (Parcel parcel) _ _ _ _ it v.sound.v1
    (whole-after m e v given none tt) gone (new-parcel m face parcel can.face_there gone)
