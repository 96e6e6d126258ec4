-- What a test picks of boundaries has the canonical order that it has among all of them.
use Rattle.std.proofs.Common.{◌≡◌, ◌≤◌, refl, sym, ap, subst, ◌∙◌, List, [], ◌∷◌, Bool, true, false, filter, length, arith, length-append}
use Rattle.std.specs.Prelude.{IsPermutation, flat_map}
use Rattle.std.specs.List.{AllByRecursion}
use Rattle.std.proofs.lemmas.List.Sorted.{IsPermutation-refl}
use Rattle.std.proofs.lemmas.List.Folds.{flat_map-map}
use Rattle.cad_rows.specs.declared.names.Face.{Face}
use Rattle.cad_rings.specs.Cycle.{sides_of}
use Rattle.cad_rings.proofs.CallerLemmas.{least_rotation-least_rotation}
use Rattle.cad_map.specs.declared.boundary.Boundary.{Boundary}
use Rattle.cad_map.specs.Boundaries.{is_face, bounding, canonical_form, put_in_canonical_order, canonical_order, sides_in}
use Rattle.cad_map.specs.Map.{rings_at}
use Rattle.cad_map.proofs.Lists.EachElement.{All-filter}
use Rattle.cad_map.proofs.Boundaries.CanonicalOrder.{InOrder, InOrder-canonical_order, each_canonical, map-canonical_form, canonical_order-is, canonical_order-permuted}
use Rattle.cad_map.proofs.Boundaries.OrderedSides.{StandsListing, canonical_order-related, sides_in-canonical_order}

-- canonical forms in order are in canonical order
pub canonical_order-itself : (bs : List Boundary) → AllByRecursion (λ b. canonical_form b ≡ b) bs → InOrder bs → canonical_order bs ≡ bs
canonical_order-itself bs all order = sym (canonical_order-is bs bs (subst (λ (l : List Boundary). IsPermutation l bs) (sym (map-canonical_form bs all)) (IsPermutation-refl bs)) order)

canonical_order-exchanged : (a b : Boundary) (bs : List Boundary) → canonical_order (a ∷ b ∷ bs) ≡ canonical_order (b ∷ a ∷ bs)
canonical_order-exchanged a b bs = canonical_order-permuted (a ∷ b ∷ bs) (b ∷ a ∷ bs) (record { moves = (0, 1) ∷ []; below = omega arith; is = refl })

module _ (test : Boundary → Bool) (alike : (b : Boundary) → test (canonical_form b) ≡ test b) where
  InOrder-filter : (bs : List Boundary) → InOrder bs → InOrder (filter test bs)
  InOrder-filter [] order = tt
  InOrder-filter (b ∷ bs) order = by (test b) refl (InOrder-filter bs order.1)
    where
      by : (t : Bool) → test b ≡ t → InOrder (filter test bs) → InOrder (filter test (b ∷ bs))
      by true is rest = rw is (All-filter _ test bs order.0, rest)
      by false is rest = rw is rest

  stands : StandsListing (λ bs cs. canonical_order (filter test bs) ≡ canonical_order (filter test cs))
  stands = record {
    same = λ bs. refl;
    through = λ bs cs ds h k. h ∙ k;
    more = λ b bs cs h. more b bs cs h (test b) refl;
    exchanged = λ a b bs. exchanged a b bs (test a) (test b) refl refl;
    as_canonical = λ b bs. as_canonical b bs (test b) refl;
  }
    where
      more : (b : Boundary) (bs cs : List Boundary) → canonical_order (filter test bs) ≡ canonical_order (filter test cs) → (t : Bool) → test b ≡ t → canonical_order (filter test (b ∷ bs)) ≡ canonical_order (filter test (b ∷ cs))
      more b bs cs h true is = simp is (ap (put_in_canonical_order (canonical_form b)) h)
      more b bs cs h false is = simp is h

      exchanged : (a b : Boundary) (bs : List Boundary) (s t : Bool) → test a ≡ s → test b ≡ t → canonical_order (filter test (a ∷ b ∷ bs)) ≡ canonical_order (filter test (b ∷ a ∷ bs))
      exchanged a b bs true true h k = simp (h, k) (canonical_order-exchanged a b (filter test bs))
      exchanged a b bs true false h k = simp (h, k)
      exchanged a b bs false true h k = simp (h, k)
      exchanged a b bs false false h k = simp (h, k)

      as_canonical : (b : Boundary) (bs : List Boundary) (t : Bool) → test b ≡ t → canonical_order (filter test (b ∷ bs)) ≡ canonical_order (filter test (canonical_form b ∷ bs))
      as_canonical b bs true is =
          let too = alike b ∙ is in
          let again : canonical_form (canonical_form b) ≡ canonical_form b = ap (bounding b.face) (least_rotation-least_rotation b.ring) in
          simp (is, too) (ap (λ (c : Boundary). put_in_canonical_order c (canonical_order (filter test bs))) (sym again))
      as_canonical b bs false is = let too = alike b ∙ is in simp (is, too)

  -- a test of rings, wherever each is written from, picks the same of the list
  pub canonical_order-filter : (bs : List Boundary) → canonical_order (filter test bs) ≡ filter test (canonical_order bs)
  canonical_order-filter bs =
      canonical_order-related (λ bs cs. canonical_order (filter test bs) ≡ canonical_order (filter test cs)) stands bs
      ∙ canonical_order-itself (filter test (canonical_order bs)) (All-filter (λ b. canonical_form b ≡ b) test (canonical_order bs) (each_canonical bs)) (InOrder-filter (canonical_order bs) (InOrder-canonical_order bs))

-- ---- The sides of one face

sides-of_face : (f : Face) (bs : List Boundary) → flat_map sides_of (rings_at f bs) ≡ sides_in (filter (λ b. is_face f b.face) bs)
sides-of_face f bs = flat_map-map sides_of (λ (b : Boundary). b.ring) (filter (λ b. is_face f b.face) bs)

-- are the same as the rings are kept and in canonical order
pub face_sides-canonical_order : (f : Face) (bs : List Boundary) → IsPermutation (flat_map sides_of (rings_at f bs)) (flat_map sides_of (rings_at f (canonical_order bs)))
face_sides-canonical_order f bs =
    let own = λ (b : Boundary). is_face f b.face in
    subst (λ (l : List _). IsPermutation (flat_map sides_of (rings_at f bs)) l) (ap sides_in (canonical_order-filter own (λ b. refl) bs) ∙ sym (sides-of_face f (canonical_order bs)))
    (subst (λ (l : List _). IsPermutation l (sides_in (canonical_order (filter own bs)))) (sym (sides-of_face f bs)) (sides_in-canonical_order (filter own bs)))

-- and no more than all
pub face_sides-few : (f : Face) (bs : List Boundary) → length (flat_map sides_of (rings_at f bs)) ≤ length (sides_in bs)
face_sides-few f [] = omega arith
face_sides-few f (b ∷ bs) = by (is_face f b.face) refl (face_sides-few f bs)
  where
    by : (t : Bool) → is_face f b.face ≡ t → length (flat_map sides_of (rings_at f bs)) ≤ length (sides_in bs) → length (flat_map sides_of (rings_at f (b ∷ bs))) ≤ length (sides_in (b ∷ bs))
    by true is rest = let e = length-append (sides_of b.ring) (sides_in bs) in let k = length-append (sides_of b.ring) (flat_map sides_of (rings_at f bs)) in rw is (omega arith)
    by false is rest = let e = length-append (sides_of b.ring) (sides_in bs) in rw is (omega arith)
