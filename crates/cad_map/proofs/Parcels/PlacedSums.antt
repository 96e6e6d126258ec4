-- What the face that a chain is put into comes to, and what the new parcel does: they add up to the face as it was.
use Rattle.std.proofs.Common.{◌≡◌, ◌≢◌, ℕ, ◌⊎◌, inl, inr, refl, sym, ap, ◌∙◌, List, [], ◌∷◌, ◌++◌, map, Bool, true, false, ◌+ℤ◌, ℤ, pos, arith}
use Rattle.std.proofs.lemmas.Int.{ints}
use Rattle.std.specs.Prelude.{IsTrue, if◌then◌else◌, flat_map}
use Rattle.std.specs.List.{AllByRecursion}
use Rattle.geo_exact.specs.Position.{Position}
use Rattle.geo_exact.specs.Measure.{Measure, IsOdd}
use Rattle.cad_rows.specs.declared.names.Face.{Face}
use Rattle.cad_rows.specs.declared.names.Face.TheVariants.{Parcel}
use Rattle.cad_rows.specs.declared.rows.StringRow.{StringRow}
use Rattle.cad_rings.specs.Cycle.{Ring, Side, sides_of}
use Rattle.cad_rings.specs.Surgery.{both_ways}
use Rattle.cad_rings.specs.Canonical.{least_rotation}
use Rattle.cad_rings.proofs.CallerLemmas.{sum-append, sum-permuted, sum-both_ways, sides_of-least_rotation}
use Rattle.cad_map.specs.declared.boundary.Boundary.{Boundary}
use Rattle.cad_map.specs.Boundaries.{is_face, bounding, canonical_form, canonical_order}
use Rattle.cad_map.specs.Map.{Map, has_face, rings_at, position_of, sum_of_face}
use Rattle.cad_map.specs.Division.{hole_placed}
use Rattle.cad_map.specs.Valid.{IsValid}
use Rattle.cad_map.specs.Changes.{with_boundaries, with_new_parcel}
use Rattle.cad_map.specs.Sums.{IsSharedOut}
use Rattle.cad_map.proofs.Lists.Elements.{All-at_each, All-from_each}
use Rattle.cad_map.proofs.Boundaries.Looks.{is_face-refl}
use Rattle.cad_map.proofs.Boundaries.Balance.{sum, part}
use Rattle.cad_map.proofs.Boundaries.OrderedSides.{StandsListing, canonical_order-related}
use Rattle.cad_map.proofs.Boundaries.FacesBeside.{is_face-same}
use Rattle.cad_map.proofs.Parcels.PlacedRings.{IsDivision, ring-hole_placed, face-hole_placed, old-differs}

is_face-differs : (f g : Face) → f ≢ g → is_face f g ≡ false
is_face-differs f g other = by (is_face f g) refl
  where
    by : (b : Bool) → is_face f g ≡ b → is_face f g ≡ false
    by true is = absurd (other (is_face-same f g is))
    by false is = is

module _ (f : Measure) (position : ℕ → Position) where
  -- what a ring adds to a face: its sum, if it is the face's, and else nothing
  abbrev pub adds : Face → Boundary → ℤ
  adds g b = if is_face g b.face then sum f position (sides_of b.ring) else pos 0

  pub adds-own : (g : Face) (b : Boundary) → b.face ≡ g → adds g b ≡ sum f position (sides_of b.ring)
  adds-own g b is = ap (λ (h : Face). if is_face g h then sum f position (sides_of b.ring) else pos 0) is ∙ ap (λ (t : Bool). if t then sum f position (sides_of b.ring) else pos 0) (is_face-refl g)

  pub adds-other : (g : Face) (b : Boundary) → g ≢ b.face → adds g b ≡ pos 0
  adds-other g b other = ap (λ (t : Bool). if t then sum f position (sides_of b.ring) else pos 0) (is_face-differs g b.face other)

  -- a face comes to what its first ring adds, and what the others do
  pub part-first : (g : Face) (b : Boundary) (bs : List Boundary) → part f position (b ∷ bs) g ≡ adds g b +ℤ part f position bs g
  part-first g b bs = by (is_face g b.face) refl
    where
      by : (t : Bool) → is_face g b.face ≡ t → part f position (b ∷ bs) g ≡ adds g b +ℤ part f position bs g
      by true is = rw is (sum-append f position (sides_of b.ring) (flat_map sides_of (rings_at g bs)))
      by false is = rw is (omega (arith, ints))

  -- a ring in a list adds to what the others come to
  pub part-among : (g : Face) (front : List Boundary) (b : Boundary) (back : List Boundary) → part f position (front ++ b ∷ back) g ≡ adds g b +ℤ part f position (front ++ back) g
  part-among g [] b back = part-first g b back
  part-among g (c ∷ front) b back =
      let e = part-first g c (front ++ b ∷ back) in
      let d = part-first g c (front ++ back) in
      let rest = part-among g front b back in
      omega (arith, ints, e, d, rest)

  -- rings in canonical order come to the same
  pub part-canonical_order : (g : Face) (bs : List Boundary) → part f position bs g ≡ part f position (canonical_order bs) g
  part-canonical_order g bs = canonical_order-related (λ bs cs. part f position bs g ≡ part f position cs g) stands bs
    where
      canonical_same : (b : Boundary) → adds g b ≡ adds g (canonical_form b)
      canonical_same b = ap (λ (z : ℤ). if is_face g b.face then z else pos 0) (sum-permuted f position (sides_of b.ring) (sides_of (least_rotation b.ring)) (sides_of-least_rotation b.ring))

      stands : StandsListing (λ bs cs. part f position bs g ≡ part f position cs g)
      stands = record {
        same = λ bs. refl;
        through = λ bs cs ds h k. h ∙ k;
        more = λ b bs cs h. part-first g b bs ∙ ap (λ (z : ℤ). adds g b +ℤ z) h ∙ sym (part-first g b cs);
        exchanged = λ a b bs.
            let e1 = part-first g a (b ∷ bs) in let e2 = part-first g b bs in
            let e3 = part-first g b (a ∷ bs) in let e4 = part-first g a bs in
            omega (arith, ints, e1, e2, e3, e4);
        as_canonical = λ b bs. part-first g b bs ∙ ap (λ (z : ℤ). z +ℤ part f position bs g) (canonical_same b) ∙ sym (part-first g (canonical_form b) bs);
      }

  -- the holes that move and those that stay come to what they came to
  part-holes : (m : Map) (face new : Face) (ring : Ring) → face ≢ new → (bs : List Boundary) → AllByRecursion (λ b. b.face ≢ new) bs
      → part f position (map (hole_placed m face new ring) bs) face +ℤ part f position (map (hole_placed m face new ring) bs) new ≡ part f position bs face
  part-holes m face new ring differ [] other = omega (arith, ints)
  part-holes m face new ring differ (b ∷ bs) other =
      let c = hole_placed m face new ring b in
      let cs = map (hole_placed m face new ring) bs in
      let e1 = part-first face c cs in
      let e2 = part-first new c cs in
      let e3 = part-first face b bs in
      let rest = part-holes m face new ring differ bs other.1 in
      let here : adds face c +ℤ adds new c ≡ adds face b = one (face-hole_placed m face new ring b) in
      omega (arith, ints, e1, e2, e3, rest, here)
    where
      same_sum : sum f position (sides_of (hole_placed m face new ring b).ring) ≡ sum f position (sides_of b.ring)
      same_sum = ap (λ (r : Ring). sum f position (sides_of r)) (ring-hole_placed m face new ring b)

      one : ((hole_placed m face new ring b).face ≡ b.face) ⊎ (((hole_placed m face new ring b).face ≡ new) × (b.face ≡ face))
          → adds face (hole_placed m face new ring b) +ℤ adds new (hole_placed m face new ring b) ≡ adds face b
      one (inl stays) =
          let c = hole_placed m face new ring b in
          let to_face : adds face c ≡ adds face b = λ i. if is_face face (stays i) then same_sum i else pos 0 in
          let to_new : adds new c ≡ pos 0 = adds-other new c (λ e. other.0 (sym stays ∙ sym e)) in
          omega (arith, ints, to_face, to_new)
      one (inr moved) =
          let c = hole_placed m face new ring b in
          let to_face : adds face c ≡ pos 0 = adds-other face c (λ e. differ (e ∙ moved.0)) in
          let to_new : adds new c ≡ sum f position (sides_of b.ring) = adds-own new c moved.0 ∙ same_sum in
          let was : adds face b ≡ sum f position (sides_of b.ring) = adds-own face b moved.1 in
          omega (arith, ints, to_face, to_new, was)

module _ (f : Measure) (odd : IsOdd f) (m : Map) (valid : IsValid m) (face : Face) (parcel : ℕ) (chain : List Side) (left right : Ring) (cut : List Side) (rest : List Boundary) (of : IsDivision m face parcel chain left right cut rest) where
  abbrev position : ℕ → Position
  position = position_of m

  -- the two rings come to the ring that is cut
  both_hands-sum : sum f position (sides_of left) +ℤ sum f position (sides_of right) ≡ sum f position cut
  both_hands-sum =
      let L = sides_of left in
      let R = sides_of right in
      let B = both_ways chain in
      let e1 = sum-append f position L R in
      let e2 = sum-permuted f position (L ++ R) (B ++ cut) of.both_hands in
      let e3 = sum-append f position B cut in
      let e4 = sum-both_ways f odd position chain in
      omega (arith, ints, e1, e2, e3, e4)

  differ : face ≢ Parcel parcel
  differ = old-differs m valid face parcel chain left right cut rest of face of.face_there

  others_differ : AllByRecursion (λ b. b.face ≢ Parcel parcel) rest
  others_differ = All-from_each (λ b. b.face ≢ Parcel parcel) rest
      (λ b h. old-differs m valid face parcel chain left right cut rest of b.face (All-at_each (λ c. IsTrue (has_face m c.face)) m.boundaries b valid.sound.v1.faces_of_rings (of.others b h)))

  -- Where the face had the ring that is cut and its other rings, what is left of it and the new parcel add up to it.
  pub placed-adds_up : sum_of_face f m face ≡ sum f position cut +ℤ part f position rest face → (rows : List StringRow) (label : List ℕ) (source : ℕ)
      → IsSharedOut f m face parcel (with_boundaries (bounding (Parcel parcel) left ∷ bounding face right ∷ map (hole_placed m face (Parcel parcel) left) rest) (with_new_parcel rows parcel label source m))
  placed-adds_up whole rows label source =
      let new = Parcel parcel in
      let holes = map (hole_placed m face new left) rest in
      let a = bounding new left in
      let b = bounding face right in
      let bs = a ∷ b ∷ holes in
      let canonical_face = part-canonical_order f position face bs in
      let canonical_new = part-canonical_order f position new bs in
      let f1 = part-first f position face a (b ∷ holes) in
      let f2 = part-first f position face b holes in
      let n1 = part-first f position new a (b ∷ holes) in
      let n2 = part-first f position new b holes in
      let fa : adds f position face a ≡ pos 0 = adds-other f position face a differ in
      let fb : adds f position face b ≡ sum f position (sides_of right) = adds-own f position face b refl in
      let na : adds f position new a ≡ sum f position (sides_of left) = adds-own f position new a refl in
      let nb : adds f position new b ≡ pos 0 = adds-other f position new b (λ e. differ (sym e)) in
      let moved = part-holes f position m face new left differ rest others_differ in
      let hands = both_hands-sum in
      let all : sum_of_face f m face ≡ part f position (canonical_order bs) face +ℤ part f position (canonical_order bs) new = omega (arith, ints, whole, canonical_face, canonical_new, f1, f2, n1, n2, fa, fb, na, nb, moved, hands) in
      all
