-- The rings after a merger are complete: the shared sides go both ways, and no other.
use Rattle.std.proofs.Common.{◌≡◌, ◌≢◌, ◌≤◌, ◌⊎◌, inl, inr, refl, sym, ap, subst, ◌∙◌, List, [], ◌∷◌, ◌++◌, append_assoc, length, map, filter, Bool, true, false, true≢false, arith}
use Rattle.std.proofs.Math.Bool.{or_comm}
use Rattle.std.proofs.lemmas.Bool.{and_parts, and_from, or_from, or_left, or_right, not_from_true, not_from_false, false_from_ne_true}
use Rattle.std.proofs.lemmas.Grind.{flat_map-append}
use Rattle.std.proofs.lemmas.List.Elements.{Contains-append_cases, Contains-append_right}
use Rattle.std.proofs.lemmas.List.Folds.{flat_map-map}
use Rattle.std.proofs.lemmas.List.Sorted.{IsPermutation-sym, IsPermutation-trans, IsPermutation-append_left, IsPermutation-append_right, Contains-permutation}
use Rattle.std.proofs.lemmas.Slice.Eq.{bytes_eq-Decides}
use Rattle.std.specs.Prelude.{◌&&◌, ◌||◌, not, flat_map, IsPermutation, if◌then◌else◌}
use Rattle.std.specs.List.{AllByRecursion, Contains}
use Rattle.std.specs.Str.{bytes_eq as is_same_list}
use Rattle.cad_rows.specs.declared.names.Face.{Face}
use Rattle.cad_rows.specs.declared.rows.StringRow.{StringRow}
use Rattle.cad_rings.specs.Cycle.{Ring, Side, is_side, has_side, opposite, sides_of}
use Rattle.cad_rings.specs.Surgery.{both_ways}
use Rattle.cad_rings.proofs.CallerLemmas.{length-sides_of, both_ways-apart}
use Rattle.cad_map.specs.declared.boundary.Boundary.{Boundary}
use Rattle.cad_map.specs.Boundaries.{is_face, bounding, sides_in}
use Rattle.cad_map.specs.Map.{Map, side_of, string_sides, rings_at, face_sides, all_sides}
use Rattle.cad_map.specs.Merger.{ChainInRings, shared_sides, is_shared, is_taken_out, handed_over, boundaries_merged}
use Rattle.cad_map.specs.Valid.{EachPair, IsValid}
use Rattle.cad_map.proofs.Lists.Elements.{Contains-in_part, Contains-cases, Contains-first, Contains-later, Contains-map, Contains-flat_map, All-at_each, All-from_each}
use Rattle.cad_map.proofs.Lists.ElementFacts.{Contains-filter, filter-Contains, map-Contains}
use Rattle.cad_map.proofs.Boundaries.TwoFaces.{AreApart, apart-valid}
use Rattle.cad_map.proofs.Boundaries.FacesBeside.{IsBeside, is_face-same, has_side-Contains, Contains-has_side, sides-once, in_all}
use Rattle.cad_map.proofs.Boundaries.Looks.{is_face-refl}
use Rattle.cad_map.proofs.Ends.Parallel.{pairs-IsPermutation, is_side-is}
use Rattle.cad_map.proofs.SharedChains.FoundChains.{IsChainInRings, HasCommon}
use Rattle.cad_map.proofs.Lists.TakenOut.{EachPair-filter, EachPair-append, fills, same_elements, filter-neither, taken_out}

-- ---- Boundaries are distinct

some_element : {X : Type 0} (xs : List X) → 1 ≤ length xs → (x : X) × Contains xs x
some_element [] low = absurd (omega arith)
some_element (x ∷ xs) low = (x, Contains-first x xs)

-- where no side stands twice, no boundary does
boundaries-distinct : (bs : List Boundary) → AllByRecursion (λ b. 3 ≤ length b.ring) bs → EachPair (λ a b. a ≢ b) (sides_in bs) → EachPair (λ a b. a ≢ b) bs
boundaries-distinct [] three once = tt
boundaries-distinct (b ∷ bs) three once =
    let parts = EachPair-append (λ (a b : Side). a ≢ b) (sides_of b.ring) (sides_in bs) once in
    let long = length-sides_of b.ring in
    let side = some_element (sides_of b.ring) (omega (arith, long, three.0)) in
    let no_other : (c : Boundary) → Contains bs c → b ≢ c = λ c there same.
    let has = Contains-flat_map (λ (b : Boundary). sides_of b.ring) bs c side.0 there (subst (λ (d : Boundary). Contains (sides_of d.ring) side.0) same side.1) in
    All-at_each (λ t. side.0 ≢ t) (sides_in bs) side.0 (All-at_each (λ s. AllByRecursion (λ t. s ≢ t) (sides_in bs)) (sides_of b.ring) side.0 parts.2 side.1) has refl in
    (All-from_each (λ c. b ≢ c) bs no_other, boundaries-distinct bs three.1 parts.1)

-- ---- Sides both ways

-- a side of these both ways, or its opposite, is one of these
pub of_both_ways : (sides : List Side) (s : Side) → Contains (both_ways sides) s → Contains sides s ⊎ Contains sides (opposite s)
of_both_ways sides s h =
    let part = Contains-in_part (λ (t : Side). t ∷ opposite t ∷ []) sides s h in
    let t = part.0 in
    elim (Contains-cases t (opposite t ∷ []) s part.2) [
      | inl same ↦ inl (subst (Contains sides) same part.1)
      | inr later ↦ elim (Contains-cases (opposite t) [] s later) [ inl same ↦ inr (subst (Contains sides) (ap opposite same) part.1) | inr none ↦ let low = none.1 in absurd (omega arith) ]
    ]

pub in_both_ways : (sides : List Side) (s : Side) → Contains sides s → Contains (both_ways sides) s × Contains (both_ways sides) (opposite s)
in_both_ways sides s h = (
  Contains-flat_map (λ (t : Side). t ∷ opposite t ∷ []) sides s s h (Contains-first s (opposite s ∷ [])),
  Contains-flat_map (λ (t : Side). t ∷ opposite t ∷ []) sides s (opposite s) h (Contains-later s (opposite s ∷ []) (opposite s) (Contains-first (opposite s) [])),
)

-- a ring's side is its face's
pub of_face : (m : Map) (f : Face) (ring : Ring) (s : Side) → Contains m.boundaries (bounding f ring) → Contains (sides_of ring) s → Contains (face_sides m f) s
of_face m f ring s there has =
    let some = Contains-filter (λ (b : Boundary). is_face f b.face) m.boundaries (bounding f ring) there (is_face-refl f) in
    Contains-flat_map sides_of (rings_at f m.boundaries) ring s (Contains-map (λ (b : Boundary). b.ring) (filter (λ b. is_face f b.face) m.boundaries) (bounding f ring) some) has

-- the sides of those strings that pass a test are those that pass it
string_sides-filter : (keep : Side → Bool) (test : StringRow → Bool) → ((t : StringRow) → keep (side_of t) ≡ test t) → ((t : StringRow) → keep (opposite (side_of t)) ≡ test t) → (strings : List StringRow)
    → filter keep (flat_map (λ s. side_of s ∷ opposite (side_of s) ∷ []) strings) ≡ flat_map (λ s. side_of s ∷ opposite (side_of s) ∷ []) (filter test strings)
string_sides-filter keep test one other [] = refl
string_sides-filter keep test one other (t ∷ strings) = by (test t) refl (string_sides-filter keep test one other strings)
  where
    by : (b : Bool) → test t ≡ b → filter keep (flat_map (λ s. side_of s ∷ opposite (side_of s) ∷ []) strings) ≡ flat_map (λ s. side_of s ∷ opposite (side_of s) ∷ []) (filter test strings)
        → filter keep (flat_map (λ s. side_of s ∷ opposite (side_of s) ∷ []) (t ∷ strings)) ≡ flat_map (λ s. side_of s ∷ opposite (side_of s) ∷ []) (filter test (t ∷ strings))
    by true is rest = let a = one t ∙ is in let b = other t ∙ is in simp (a, b, is) (ap (λ (l : List Side). side_of t ∷ opposite (side_of t) ∷ l) rest)
    by false is rest = let a = one t ∙ is in let b = other t ∙ is in simp (a, b, is) rest

-- ---- The two rings are taken out

module _ (kept ended : Face) where
  -- the face that has a face's rings after the merger
  abbrev pub face_over : Face → Face
  face_over f = if is_face ended f then kept else f

  pub handed-is : (b : Boundary) → handed_over kept ended b ≡ bounding (face_over b.face) b.ring
  handed-is b = by (is_face ended b.face)
    where
      by : (t : Bool) → (if t then bounding kept b.ring else b) ≡ bounding (if t then kept else b.face) b.ring
      by true = refl
      by false = refl

  over-kept : kept ≢ ended → face_over kept ≡ kept
  over-kept two = let other = false_from_ne_true (is_face ended kept) (λ h. two (sym (is_face-same ended kept h))) in simp other

  over-ended : face_over ended ≡ kept
  over-ended = let same = is_face-refl ended in simp same

  -- of two faces that have one place after the merger, and differ, one was kept and the other ended
  over-two : (f g : Face) → f ≢ g → face_over f ≡ face_over g → ((f ≡ kept) × (g ≡ ended)) ⊎ ((f ≡ ended) × (g ≡ kept))
  over-two f g differ same = by (is_face ended f) (is_face ended g) refl refl
    where
      by : (t u : Bool) → is_face ended f ≡ t → is_face ended g ≡ u → ((f ≡ kept) × (g ≡ ended)) ⊎ ((f ≡ ended) × (g ≡ kept))
      by true true a b = absurd (differ (sym (is_face-same ended f a) ∙ is_face-same ended g b))
      by true false a b = inr (sym (is_face-same ended f a), sym (rw (a, b) at same))
      by false true a b = inl (rw (a, b) at same, sym (is_face-same ended g b))
      by false false a b = absurd (differ (rw (a, b) at same))

sides_in-handed : (kept ended : Face) (bs : List Boundary) → sides_in (map (handed_over kept ended) bs) ≡ sides_in bs
sides_in-handed kept ended [] = refl
sides_in-handed kept ended (b ∷ bs) = λ i. sides_of (handed-is kept ended b i).ring ++ sides_in-handed kept ended bs i

-- the one boundary that has the face and the ring
only : (f : Face) (ring : Ring) (b : Boundary) → (is_face f b.face && is_same_list ring b.ring) ≡ true → b ≡ bounding f ring
only f ring b is =
    let parts = and_parts (is_face f b.face) (is_same_list ring b.ring) is in
    λ i. bounding (sym (is_face-same f b.face parts.0) i) (sym ((bytes_eq-Decides ring b.ring).0 parts.1) i)

itself : (f : Face) (ring : Ring) → (is_face f f && is_same_list ring ring) ≡ true
itself f ring = and_from (is_face f f) (is_same_list ring ring) (is_face-refl f) ((bytes_eq-Decides ring ring).1 refl)

-- what stays of the boundaries
abbrev pub stays : Map → Face → Face → Ring → Ring → List Boundary
stays m kept ended k e = filter (λ b. not (is_taken_out kept ended k e b)) m.boundaries

module _ (m : Map) (kept ended : Face) (valid : IsValid m) (two : kept ≢ ended) where
  -- the parts of all boundaries: those of the two rings, and those of the others
  pub two_out : {A : Type 0} (f : Boundary → List A) (k e : Ring) → Contains m.boundaries (bounding kept k) → Contains m.boundaries (bounding ended e)
      → IsPermutation (flat_map f m.boundaries) (f (bounding kept k) ++ (f (bounding ended e) ++ flat_map f (stays m kept ended k e)))
  two_out f k e k_there e_there =
      let p : Boundary → Bool = λ b. is_face kept b.face && is_same_list k b.ring in
      let q : Boundary → Bool = λ b. is_face ended b.face && is_same_list e b.ring in
      let K = bounding kept k in
      let E = bounding ended e in
      let left = filter (λ b. not (p b)) m.boundaries in
      let distinct = boundaries-distinct m.boundaries valid.sound.v5.three (sides-once m valid) in
      let other : p E ≡ false = false_from_ne_true (p E) (λ h. two (sym (ap (λ (b : Boundary). b.face) (only kept k E h)))) in
      let there = Contains-filter (λ b. not (p b)) m.boundaries E e_there (not_from_false (p E) other) in
      let first = taken_out p K (only kept k) f m.boundaries (itself kept k) distinct k_there in
      let second = taken_out q E (only ended e) f left (itself ended e) (EachPair-filter (λ (a b : Boundary). a ≢ b) (λ b. not (p b)) m.boundaries distinct) there in
      let rest = filter (λ b. not (q b)) left in
      IsPermutation-trans (flat_map f m.boundaries) (f K ++ flat_map f left) (f K ++ (f E ++ flat_map f (stays m kept ended k e))) first
      (IsPermutation-append_right (f K) (flat_map f left) (f E ++ flat_map f (stays m kept ended k e))
      (subst (λ (l : List Boundary). IsPermutation (flat_map f left) (f E ++ flat_map f l)) (sym (filter-neither p q m.boundaries)) second))

  module _ (shared_chain : ChainInRings) (it : IsChainInRings m kept ended shared_chain) where
    abbrev pub new : List Boundary
    new = boundaries_merged m kept ended it.k it.e it.more

    abbrev shared : List Side
    shared = shared_sides m kept ended

    sides_in-new : sides_in new ≡ flat_map sides_of it.more ++ sides_in (stays m kept ended it.k it.e)
    sides_in-new =
        flat_map-append (λ (b : Boundary). sides_of b.ring) (map (bounding kept) it.more) (map (handed_over kept ended) (stays m kept ended it.k it.e))
        ∙ (λ i. flat_map-map (λ (b : Boundary). sides_of b.ring) (bounding kept) it.more i ++ sides_in-handed kept ended (stays m kept ended it.k it.e) i)

    -- all sides, as they were: those of the chain both ways, and those of the new rings
    pub sides-parted : IsPermutation (all_sides m) (both_ways it.chain ++ sides_in new)
    sides-parted =
        let K = sides_of it.k in
        let E = sides_of it.e in
        let S = sides_in (stays m kept ended it.k it.e) in
        let C = both_ways it.chain in
        let M = flat_map sides_of it.more in
        let out = two_out (λ b. sides_of b.ring) it.k it.e it.k_there it.e_there in
        let moved = IsPermutation-append_left S (K ++ E) (C ++ M) it.sides in
        IsPermutation-trans (all_sides m) (K ++ (E ++ S)) (C ++ sides_in new) out
        (subst (λ (l : List Side). IsPermutation l (C ++ sides_in new)) (append_assoc K E S)
        (subst (λ (l : List Side). IsPermutation ((K ++ E) ++ S) l) (append_assoc C M S ∙ ap (λ (l : List Side). C ++ l) (sym sides_in-new)) moved))

    parted-once : EachPair (λ a b. a ≢ b) (both_ways it.chain) × EachPair (λ a b. a ≢ b) (sides_in new) × AllByRecursion (λ x. AllByRecursion (λ y. x ≢ y) (sides_in new)) (both_ways it.chain)
    parted-once = EachPair-append (λ (a b : Side). a ≢ b) (both_ways it.chain) (sides_in new) (pairs-IsPermutation is_side is_side-is (all_sides m) (both_ways it.chain ++ sides_in new) sides-parted (sides-once m valid))

    pub gone : (s : Side) → Contains (both_ways it.chain) s → Contains (sides_in new) s → ⊥
    gone s one other = All-at_each (λ y. s ≢ y) (sides_in new) s (All-at_each (λ x. AllByRecursion (λ y. x ≢ y) (sides_in new)) (both_ways it.chain) s parted-once.2 one) other refl

    common-shared : (s : Side) → Contains (sides_of it.k) s → Contains (sides_of it.e) (opposite s) → Contains shared s
    common-shared s one other =
        Contains-filter (λ s. has_side (opposite s) (face_sides m ended)) (face_sides m kept) s (of_face m kept it.k s it.k_there one)
        (Contains-has_side (opposite s) (face_sides m ended) (of_face m ended it.e (opposite s) it.e_there other))

    -- the shared sides are those of the chain
    pub shared-chain : IsPermutation it.chain shared
    shared-chain =
        let apart = pairs-IsPermutation is_side is_side-is (both_ways it.chain) (it.chain ++ map opposite it.chain) (both_ways-apart it.chain) parted-once.0 in
        let once = EachPair-append (λ (a b : Side). a ≢ b) it.chain (map opposite it.chain) apart in
        let long = it.long in
        fills it.chain shared once.0 (λ s h. common-shared s (it.in_kept s h) (it.in_ended s h)) (omega (arith, long))

    in_chain : (s : Side) → Contains shared s → Contains it.chain s
    in_chain s h = Contains-permutation shared it.chain s (IsPermutation-sym it.chain shared shared-chain) h

    -- no side of the new rings is shared, nor its opposite
    not_shared : (s : Side) → Contains (sides_in new) s → Contains shared s → ⊥
    not_shared s there h = gone s (in_both_ways it.chain s (in_chain s h)).0 there

    back-not_shared : (s : Side) → Contains (sides_in new) s → Contains shared (opposite s) → ⊥
    back-not_shared s there h = gone s (in_both_ways it.chain (opposite s) (in_chain (opposite s) h)).1 there

    -- ---- Each side once

    abbrev keep : Side → Bool
    keep s = not (has_side s shared || has_side (opposite s) shared)

    abbrev pub strings_left : List StringRow
    strings_left = filter (λ s. not (is_shared m kept ended s)) m.strings

    abbrev sides_left : List Side
    sides_left = flat_map (λ s. side_of s ∷ opposite (side_of s) ∷ []) strings_left

    left-is : filter keep (string_sides m) ≡ sides_left
    left-is =
        string_sides-filter keep (λ s. not (is_shared m kept ended s)) (λ t. refl)
        (λ t. ap not (or_comm (has_side (opposite (side_of t)) shared) (has_side (side_of t) shared))) m.strings

    left-new : (s : Side) → Contains (filter keep (string_sides m)) s → Contains (sides_in new) s
    left-new s h =
        let some = filter-Contains keep (string_sides m) s h in
        let kept_out : (has_side s shared || has_side (opposite s) shared) ≡ true → ⊥ = λ h. true≢false (sym some.1 ∙ not_from_true (has_side s shared || has_side (opposite s) shared) h) in
        let shared_too : (t : Side) → Contains it.chain t → has_side t shared ≡ true = λ t k. Contains-has_side t shared (Contains-permutation it.chain shared t shared-chain k) in
        elim (Contains-append_cases (both_ways it.chain) (sides_in new) s (Contains-permutation (all_sides m) (both_ways it.chain ++ sides_in new) s sides-parted (in_all m valid s some.0))) [
          | inl out ↦ elim (of_both_ways it.chain s out) [
            | inl k ↦ absurd (kept_out (or_left (has_side s shared) (has_side (opposite s) shared) (shared_too s k)))
            | inr k ↦ absurd (kept_out (or_right (has_side s shared) (has_side (opposite s) shared) (shared_too (opposite s) k)))
          ]
          | inr there ↦ there
        ]

    new-left : (s : Side) → Contains (sides_in new) s → Contains (filter keep (string_sides m)) s
    new-left s there =
        let old = Contains-permutation (both_ways it.chain ++ sides_in new) (all_sides m) s (IsPermutation-sym (all_sides m) (both_ways it.chain ++ sides_in new) sides-parted) (Contains-append_right (both_ways it.chain) (sides_in new) s there) in
        let of = Contains-permutation (all_sides m) (string_sides m) s (IsPermutation-sym (string_sides m) (all_sides m) valid.sound.v5.once) old in
        let one = false_from_ne_true (has_side s shared) (λ h. not_shared s there (has_side-Contains s shared h)) in
        let other = false_from_ne_true (has_side (opposite s) shared) (λ h. back-not_shared s there (has_side-Contains (opposite s) shared h)) in
        Contains-filter keep (string_sides m) s of (not_from_false (has_side s shared || has_side (opposite s) shared) (or_from (has_side s shared) (has_side (opposite s) shared) one other))

    -- the sides of the strings that stay are those of the new rings
    pub once-merged : IsPermutation sides_left (sides_in new)
    once-merged =
        let strings_once = pairs-IsPermutation is_side is_side-is (all_sides m) (string_sides m) (IsPermutation-sym (string_sides m) (all_sides m) valid.sound.v5.once) (sides-once m valid) in
        subst (λ (l : List Side). IsPermutation l (sides_in new)) left-is
        (same_elements (filter keep (string_sides m)) (sides_in new) (EachPair-filter (λ (a b : Side). a ≢ b) keep (string_sides m) strings_once) parted-once.1 left-new new-left)

    -- ---- Where the new boundaries come from

    -- a new boundary is one of the rings that come, or one that was there, handed over
    pub come-from : (b : Boundary) → Contains new b → ((ring : Ring) × Contains it.more ring × (b ≡ bounding kept ring)) ⊎ ((old : Boundary) × Contains m.boundaries old × (b ≡ bounding (face_over kept ended old.face) old.ring))
    come-from b h = elim (Contains-append_cases (map (bounding kept) it.more) (map (handed_over kept ended) (stays m kept ended it.k it.e)) b h) [
      | inl here ↦ let one = map-Contains (bounding kept) it.more b here in inl (one.0, one.1, sym one.2)
      | inr there ↦
          let one = map-Contains (handed_over kept ended) (stays m kept ended it.k it.e) b there in
          let old = filter-Contains (λ b. not (is_taken_out kept ended it.k it.e b)) m.boundaries one.0 one.1 in
          inr (one.0, old.0, sym one.2 ∙ handed-is kept ended one.0)
    ]

    pub three-merged : AllByRecursion (λ b. 3 ≤ length b.ring) new
    three-merged = All-from_each (λ b. 3 ≤ length b.ring) new long
      where
        long : (b : Boundary) → Contains new b → 3 ≤ length b.ring
        long b h = elim (come-from b h) [
          | inl more ↦ elim (All-at_each (λ ring. (3 ≤ length ring) ⊎ HasCommon ring it.k it.e) it.more more.0 it.long_enough more.1) [
            | inl enough ↦ subst (λ (c : Boundary). 3 ≤ length c.ring) (sym more.2) enough
            | inr common ↦ absurd (not_shared common.side
                (Contains-flat_map (λ (b : Boundary). sides_of b.ring) new b common.side h (subst (λ (c : Boundary). Contains (sides_of c.ring) common.side) (sym more.2) common.there))
                (common-shared common.side common.of_first common.of_second))
          ]
          | inr old ↦ subst (λ (c : Boundary). 3 ≤ length c.ring) (sym old.2) (All-at_each (λ b. 3 ≤ length b.ring) m.boundaries old.0 valid.sound.v5.three old.1)
        ]

    -- the face that a side had before
    pub was-beside : (f : Face) (s : Side) → IsBeside f s new → (old : Face) × IsBeside old s m.boundaries × (f ≡ face_over kept ended old)
    was-beside f s at = elim (come-from at.boundary at.there) [
      | inl more ↦
          let has = subst (λ (c : Boundary). Contains (sides_of c.ring) s) more.2 at.has in
          let face = at.face ∙ ap (λ (c : Boundary). c.face) more.2 in
          let in_two = Contains-permutation (both_ways it.chain ++ flat_map sides_of it.more) (sides_of it.k ++ sides_of it.e) s
          (IsPermutation-sym (sides_of it.k ++ sides_of it.e) (both_ways it.chain ++ flat_map sides_of it.more) it.sides)
          (Contains-append_right (both_ways it.chain) (flat_map sides_of it.more) s (Contains-flat_map sides_of it.more more.0 s more.1 has)) in
          elim (Contains-append_cases (sides_of it.k) (sides_of it.e) s in_two) [
            | inl first ↦ (kept, record { boundary = bounding kept it.k; there = it.k_there; face = refl; has = first }, face ∙ sym (over-kept kept ended two))
            | inr second ↦ (ended, record { boundary = bounding ended it.e; there = it.e_there; face = refl; has = second }, face ∙ sym (over-ended kept ended))
          ]
      | inr old ↦ (old.0.face, record { boundary = old.0; there = old.1; face = refl; has = subst (λ (c : Boundary). Contains (sides_of c.ring) s) old.2 at.has }, at.face ∙ ap (λ (c : Boundary). c.face) old.2)
    ]

    -- a side with the kept face to its left and the ended one to its right is shared
    beside-shared : (s : Side) → IsBeside kept s m.boundaries → IsBeside ended (opposite s) m.boundaries → Contains shared s
    beside-shared s at other =
        let one = of_face m kept at.boundary.ring s (subst (λ (f : Face). Contains m.boundaries (bounding f at.boundary.ring)) (sym at.face) at.there) at.has in
        let two = of_face m ended other.boundary.ring (opposite s) (subst (λ (f : Face). Contains m.boundaries (bounding f other.boundary.ring)) (sym other.face) other.there) other.has in
        Contains-filter (λ s. has_side (opposite s) (face_sides m ended)) (face_sides m kept) s one (Contains-has_side (opposite s) (face_sides m ended) two)

    -- No side has one face on its two hands: such a one would be shared, and these are gone.
    pub apart-merged : AreApart new
    apart-merged = record { apart = λ s f g here there same. by s f g here there same }
      where
        by : (s : Side) (f g : Face) → IsBeside f s new → IsBeside g (opposite s) new → f ≡ g → ⊥
        by s f g here there same =
            let a = was-beside f s here in
            let b = was-beside g (opposite s) there in
            let is = Contains-flat_map (λ (b : Boundary). sides_of b.ring) new here.boundary s here.there here.has in
            let differ = (apart-valid m valid).apart s a.0 b.0 a.1 b.1 in
            elim (over-two kept ended a.0 b.0 differ (sym a.2 ∙ same ∙ b.2)) [
              | inl k ↦ not_shared s is (beside-shared s (subst (λ (h : Face). IsBeside h s m.boundaries) k.0 a.1) (subst (λ (h : Face). IsBeside h (opposite s) m.boundaries) k.1 b.1))
              | inr k ↦ back-not_shared s is (beside-shared (opposite s) (subst (λ (h : Face). IsBeside h (opposite s) m.boundaries) k.1 b.1) (subst (λ (h : Face). IsBeside h s m.boundaries) k.0 a.1))
            ]
