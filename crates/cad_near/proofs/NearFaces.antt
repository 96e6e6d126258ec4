-- Where touched faces have their outlines and their holes in place, all have.
use Rattle.std.proofs.Common.{◌≡◌, ◌≢◌, ℕ, ◌+◌, refl, sym, ap, subst, ◌∙◌, List, [], ◌∷◌, filter, map, cond, Bool, true, false, not, inl, inr, ℤ, pos, length, ◌≤◌, arith, Option, Some, None, true≢false}
use Rattle.std.proofs.lemmas.List.Sums.{sum_by-cons}
use Rattle.std.proofs.lemmas.Int.{ints}
use Rattle.std.specs.Prelude.{flat_map, IsTrue, ◌↔◌, count_by, ◌&&◌, ◌||◌, int_lt, ◌==◌, is_some}
use Rattle.std.specs.List.{AllByRecursion, Contains, list_all}
use Rattle.geo_exact.specs.Measure.{doubled_area}
use Rattle.geo_exact.specs.Inside.{is_inside}
use Rattle.cad_rows.specs.declared.names.Face.{Face}
use Rattle.cad_rows.specs.declared.names.Face.TheVariants.{Outside, Parcel}
use Rattle.cad_rows.specs.declared.rows.ParcelRow.{ParcelRow}
use Rattle.cad_rings.specs.Cycle.{Ring, Side, anchor_of, sides_along, sides_of}
use Rattle.cad_rings.proofs.AnchorLemmas.{anchor_of-Contains}
use Rattle.cad_map.specs.declared.boundary.Boundary.{Boundary}
use Rattle.cad_map.specs.Boundaries.{is_face}
use Rattle.cad_rings.proofs.Placed.{placed_same, ring_sum-same}
use Rattle.cad_map.specs.Map.{Map, has_face, has_parcel, parcel_of, position_of, rings_of, is_positive, is_negative, is_in_ring, sum_of_ring}
use Rattle.cad_map.specs.Valid.{EachPair, each_pair, HasSoundRows, IsValid, has_outlines, has_one_outline_each, are_holes_inside, are_holes_apart, has_sound_holes, has_holes_in_place}
use Rattle.cad_map.specs.Rings.{HasWholeRings}
use Rattle.cad_map.specs.Touched.{Touched, IsTouched}
use Rattle.cad_map.proofs.CallerLemmas.{All-at_each, All-from_each, All-map, Contains-flat_map, EachPair-append, whole_valid, Contains-first, Contains-later, count-map, list_all-same, list_all-at, list_all-from, filter-Contains, map-Contains}
use Rattle.cad_map.proofs.Lists.TakenOut.{EachPair-filter}
use Rattle.cad_near.specs.Near.{outlines_wanted, OfFace, HasOutlines, HasSoundHoles}
use Rattle.cad_near.proofs.RowsByNumber.{row-is, row-found_is}

-- ---- Tests that agree on a list

module _ {X : Type 0} where
  count-same : (p q : X → Bool) (xs : List X) → ((x : X) → Contains xs x → p x ≡ q x) → count_by p xs ≡ count_by q xs
  count-same p q [] same = refl
  count-same p q (x ∷ xs) same =
      sum_by-cons (λ (y : X). cond {A = ℕ} (p y) 1 0) x xs
      ∙ (λ i. cond {A = ℕ} (same x (Contains-first x xs) i) 1 0 + count-same p q xs (λ y h. same y (Contains-later x xs y h)) i)
      ∙ sym (sum_by-cons (λ (y : X). cond {A = ℕ} (q y) 1 0) x xs)

  filter-same : (p q : X → Bool) (xs : List X) → ((x : X) → Contains xs x → p x ≡ q x) → filter p xs ≡ filter q xs
  filter-same p q [] same = refl
  filter-same p q (x ∷ xs) same = by (q x) refl (filter-same p q xs (λ y h. same y (Contains-later x xs y h)))
    where
      here : p x ≡ q x
      here = same x (Contains-first x xs)

      by : (b : Bool) → q x ≡ b → filter p xs ≡ filter q xs → filter p (x ∷ xs) ≡ filter q (x ∷ xs)
      by true is rest = rw (here, is) (ap (λ (l : List X). x ∷ l) rest)
      by false is rest = rw (here, is) rest

  each_pair-same : (f g : X → X → Bool) (xs : List X) → EachPair (λ a b. a ≢ b) xs → ((a b : X) → Contains xs a → Contains xs b → a ≢ b → f a b ≡ g a b) → each_pair f xs ≡ each_pair g xs
  each_pair-same f g [] apart same = refl
  each_pair-same f g (x ∷ xs) apart same =
      λ i. list_all-same (f x) (g x) xs (λ y h. same x y (Contains-first x xs) (Contains-later x xs y h) (All-at_each (λ b. x ≢ b) xs y apart.0 h)) i
      && each_pair-same f g xs apart.1 (λ a b h k. same a b (Contains-later x xs a h) (Contains-later x xs b k)) i

  list_all-mapped : (g : X → X) (test : X → Bool) (xs : List X) → list_all test (map g xs) ≡ list_all (λ x. test (g x)) xs
  list_all-mapped g test [] = refl
  list_all-mapped g test (x ∷ xs) = ap (λ (b : Bool). test (g x) && b) (list_all-mapped g test xs)

  filter-mapped : (g : X → X) (test : X → Bool) (xs : List X) → filter test (map g xs) ≡ map g (filter (λ x. test (g x)) xs)
  filter-mapped g test [] = refl
  filter-mapped g test (x ∷ xs) = by (test (g x)) (filter-mapped g test xs)
    where
      by : (b : Bool) → filter test (map g xs) ≡ map g (filter (λ x. test (g x)) xs) → cond b (g x ∷ filter test (map g xs)) (filter test (map g xs)) ≡ map g (cond b (x ∷ filter (λ x. test (g x)) xs) (filter (λ x. test (g x)) xs))
      by true rest = ap (λ (l : List X). g x ∷ l) rest
      by false rest = rest

  each_pair-mapped : (g : X → X) (test : X → X → Bool) (xs : List X) → each_pair test (map g xs) ≡ each_pair (λ x y. test (g x) (g y)) xs
  each_pair-mapped g test [] = refl
  each_pair-mapped g test (x ∷ xs) = λ i. list_all-mapped g (test (g x)) xs i && each_pair-mapped g test xs i

  pub map-itself : (xs : List X) → map (λ x. x) xs ≡ xs
  map-itself [] = refl
  map-itself (x ∷ xs) = ap (λ (l : List X). x ∷ l) (map-itself xs)

-- ---- A face of which the rings tell the same

-- each ring of the new map tells what another one of the old map told, and of each other ring
module _ (old new : Map) (rings : List Ring) (apart : EachPair (λ r s. r ≢ s) rings) (was : Ring → Ring)
    (positive-kept : (r : Ring) → Contains rings r → is_positive new r ≡ is_positive old (was r))
    (negative-kept : (r : Ring) → Contains rings r → is_negative new r ≡ is_negative old (was r))
    (inside-kept : (r hole : Ring) → Contains rings r → Contains rings hole → r ≢ hole → is_in_ring new r (anchor_of hole) ≡ is_in_ring old (was r) (anchor_of (was hole))) where
  -- no sum is of both signs
  one-sign : (z : ℤ) → int_lt (pos 0) z ≡ true → int_lt z (pos 0) ≡ true → ⊥
  one-sign z above below = absurd (grind (arith, ints, above, below))

  abbrev outlines : List Ring
  outlines = filter (is_positive new) rings

  abbrev holes : List Ring
  holes = filter (is_negative new) rings

  outlines-were : filter (is_positive old) (map was rings) ≡ map was outlines
  outlines-were = filter-mapped was (is_positive old) rings ∙ ap (map was) (sym (filter-same (is_positive new) (λ r. is_positive old (was r)) rings positive-kept))

  holes-were : filter (is_negative old) (map was rings) ≡ map was holes
  holes-were = filter-mapped was (is_negative old) rings ∙ ap (map was) (sym (filter-same (is_negative new) (λ r. is_negative old (was r)) rings negative-kept))

  pub outlines-kept : (n : ℕ) → has_outlines n new rings ≡ has_outlines n old (map was rings)
  outlines-kept n =
      λ i. ((count-same (is_positive new) (λ r. is_positive old (was r)) rings positive-kept ∙ sym (count-map was (is_positive old) rings)) i == n)
      && (list_all-same (λ r. is_positive new r || is_negative new r) (λ r. is_positive old (was r) || is_negative old (was r)) rings (λ r h. λ j. positive-kept r h j || negative-kept r h j)
      ∙ sym (list_all-mapped was (λ r. is_positive old r || is_negative old r) rings)) i

  holes-inside-kept : are_holes_inside new rings ≡ are_holes_inside old (map was rings)
  holes-inside-kept =
      list_all-same (λ hole. list_all (λ outline. is_in_ring new outline (anchor_of hole)) outlines) (λ hole. list_all (λ outline. is_in_ring old outline (anchor_of (was hole))) (map was outlines)) holes
      (λ hole h. list_all-same (λ outline. is_in_ring new outline (anchor_of hole)) (λ outline. is_in_ring old (was outline) (anchor_of (was hole))) outlines
      (λ outline k.
      let o = filter-Contains (is_positive new) rings outline k in
      let n = filter-Contains (is_negative new) rings hole h in
      inside-kept outline hole o.0 n.0 (λ same. one-sign (sum_of_ring doubled_area new hole) (ap (is_positive new) (sym same) ∙ o.1) n.1))
      ∙ sym (list_all-mapped was (λ outline. is_in_ring old outline (anchor_of (was hole))) outlines))
      ∙ sym (list_all-mapped was (λ hole. list_all (λ outline. is_in_ring old outline (anchor_of hole)) (map was outlines)) holes)
      ∙ (λ i. list_all (λ hole. list_all (λ outline. is_in_ring old outline (anchor_of hole)) (sym outlines-were i)) (sym holes-were i))

  holes-apart-kept : are_holes_apart new rings ≡ are_holes_apart old (map was rings)
  holes-apart-kept =
      each_pair-same (λ a b. not (is_in_ring new a (anchor_of b)) && not (is_in_ring new b (anchor_of a)))
      (λ a b. not (is_in_ring old (was a) (anchor_of (was b))) && not (is_in_ring old (was b) (anchor_of (was a)))) holes
      (EachPair-filter (λ r s. r ≢ s) (is_negative new) rings apart)
      (λ a b h k differ.
      let ha = (filter-Contains (is_negative new) rings a h).0 in
      let hb = (filter-Contains (is_negative new) rings b k).0 in
      λ i. not (inside-kept a b ha hb differ i) && not (inside-kept b a hb ha (λ same. differ (sym same)) i))
      ∙ sym (each_pair-mapped was (λ a b. not (is_in_ring old a (anchor_of b)) && not (is_in_ring old b (anchor_of a))) holes)
      ∙ ap (each_pair (λ a b. not (is_in_ring old a (anchor_of b)) && not (is_in_ring old b (anchor_of a)))) (sym holes-were)

  pub sound-kept : has_sound_holes new rings ≡ has_sound_holes old (map was rings)
  sound-kept = λ i. holes-inside-kept i && holes-apart-kept i

-- ---- A face that stands

-- rings whose points lie where they lay
module _ (old new : Map) (ring : Ring) (stands : AllByRecursion (λ p. position_of new p ≡ position_of old p) ring) where
  sum-kept : sum_of_ring doubled_area new ring ≡ sum_of_ring doubled_area old ring
  sum-kept = ring_sum-same doubled_area (position_of new) (position_of old) ring stands

  pub positive-stands : is_positive new ring ≡ is_positive old ring
  positive-stands = ap (int_lt (pos 0)) sum-kept

  pub negative-stands : is_negative new ring ≡ is_negative old ring
  negative-stands = ap (λ (z : ℤ). int_lt z (pos 0)) sum-kept

module _ (old new : Map) (rings : List Ring) (placed_as : AllByRecursion (λ ring. AllByRecursion (λ p. position_of new p ≡ position_of old p) ring) rings) (apart : EachPair (λ r s. r ≢ s) rings) (some : (r : Ring) → Contains rings r → 1 ≤ length r) where
  ring-stands : (r : Ring) → Contains rings r → AllByRecursion (λ p. position_of new p ≡ position_of old p) r
  ring-stands r h = All-at_each (λ ring. AllByRecursion (λ p. position_of new p ≡ position_of old p) ring) rings r placed_as h

  anchor-stands : (r : Ring) → Contains rings r → position_of new (anchor_of r) ≡ position_of old (anchor_of r)
  anchor-stands r h = All-at_each (λ p. position_of new p ≡ position_of old p) r (anchor_of r) (ring-stands r h) (anchor_of-Contains r (some r h))

  inside-stands : (r hole : Ring) → Contains rings r → Contains rings hole → is_in_ring new r (anchor_of hole) ≡ is_in_ring old r (anchor_of hole)
  inside-stands r hole h k = λ i. is_inside (placed_same (position_of new) (position_of old) r (ring-stands r h) i) (anchor-stands hole k i)

  outlines-stand : (n : ℕ) → has_outlines n new rings ≡ has_outlines n old rings
  outlines-stand n = outlines-kept old new rings apart (λ r. r) (λ r h. positive-stands old new r (ring-stands r h)) (λ r h. negative-stands old new r (ring-stands r h)) (λ r hole h k _. inside-stands r hole h k) n ∙ ap (has_outlines n old) (map-itself rings)

  sound-stands : has_sound_holes new rings ≡ has_sound_holes old rings
  sound-stands = sound-kept old new rings apart (λ r. r) (λ r h. positive-stands old new r (ring-stands r h)) (λ r h. negative-stands old new r (ring-stands r h)) (λ r hole h k _. inside-stands r hole h k) ∙ ap (has_sound_holes old) (map-itself rings)

-- ---- Every face of a map

-- a test of each face, said of the outside and of each parcel
module _ (m : Map) (sound : HasSoundRows m) (test : Face → Bool) where
  pub faces-from : ((f : Face) → IsTrue (has_face m f) → IsTrue (test f)) → (test Outside && list_all (λ p. test (Parcel p.number)) m.parcels) ≡ true
  faces-from each = rw (each Outside refl) (list_all-from (λ p. test (Parcel p.number)) m.parcels (λ p h. each (Parcel p.number) (ap is_some (row-is (λ (q : ParcelRow). q.number) m.parcels p sound.parcels.distinct h))))

  pub faces-at : (test Outside && list_all (λ p. test (Parcel p.number)) m.parcels) ≡ true → (f : Face) → IsTrue (has_face m f) → IsTrue (test f)
  faces-at all f there = by (test Outside) refl all f there
    where
      parcel : list_all (λ p. test (Parcel p.number)) m.parcels ≡ true → (n : ℕ) → has_parcel m n ≡ true → test (Parcel n) ≡ true
      parcel rest n some = of (parcel_of m n) refl
        where
          of : (o : Option ParcelRow) → parcel_of m n ≡ o → test (Parcel n) ≡ true
          of None is = absurd (true≢false (sym some ∙ ap is_some is))
          of (Some p) is =
              let f = row-found_is (λ (q : ParcelRow). q.number) m.parcels n p is in
              subst (λ (k : ℕ). test (Parcel k) ≡ true) f.1 (list_all-at (λ p. test (Parcel p.number)) m.parcels p rest f.0)

      by : (b : Bool) → test Outside ≡ b → (test Outside && list_all (λ p. test (Parcel p.number)) m.parcels) ≡ true → (f : Face) → IsTrue (has_face m f) → IsTrue (test f)
      by true is all Outside there = is
      by true is all (Parcel n) there = parcel (rw is at all) n there
      by false is all f there = let no_test = rw is at all in cc

-- rings of a map in which no side stands twice differ
module _ (m : Map) (whole : HasWholeRings m) where
  boundaries-apart : (bs : List Boundary) → AllByRecursion (λ b. 3 ≤ length b.ring) bs → EachPair (λ s t. s ≢ t) (flat_map (λ b. sides_of b.ring) bs) → EachPair (λ b c. b.ring ≢ c.ring) bs
  boundaries-apart [] three once = tt
  boundaries-apart (b ∷ bs) three once =
      let parts = EachPair-append (λ s t. s ≢ t) (sides_of b.ring) (flat_map (λ b. sides_of b.ring) bs) once in (
        All-from_each (λ c. b.ring ≢ c.ring) bs (λ c h same.
            let first = first-side b.ring three.0 in
            All-at_each (λ t. first.0 ≢ t) (flat_map (λ b. sides_of b.ring) bs) first.0
            (All-at_each (λ s. AllByRecursion (λ t. s ≢ t) (flat_map (λ b. sides_of b.ring) bs)) (sides_of b.ring) first.0 parts.2 first.1)
            (Contains-flat_map (λ (b : Boundary). sides_of b.ring) bs c first.0 h (subst (λ (r : Ring). Contains (sides_of r) first.0) same first.1)) refl),
        boundaries-apart bs three.1 parts.1,
      )
    where
      first-side : (r : Ring) → 3 ≤ length r → (s : Side) × Contains (sides_of r) s
      first-side [] low = absurd (omega (arith, low))
      first-side (a ∷ []) low = absurd (omega (arith, low))
      first-side (a ∷ p ∷ points) low = ((a, p), Contains-first (a, p) (sides_along p points a))

  pub rings-apart : (f : Face) → EachPair (λ r s. r ≢ s) (rings_of m f)
  rings-apart f = mapped (filter (λ b. is_face f b.face) m.boundaries) (EachPair-filter (λ b c. b.ring ≢ c.ring) (λ b. is_face f b.face) m.boundaries (boundaries-apart m.boundaries whole.v5.three whole.once))
    where
      mapped : (bs : List Boundary) → EachPair (λ b c. b.ring ≢ c.ring) bs → EachPair (λ r s. r ≢ s) (map (λ b. b.ring) bs)
      mapped [] apart = tt
      mapped (b ∷ bs) apart = (All-map (λ r. b.ring ≢ r) (λ (c : Boundary). c.ring) bs apart.0, mapped bs apart.1)

-- rings of a valid map have points
pub some-points : (m : Map) → IsValid m → (f : Face) (r : Ring) → Contains (rings_of m f) r → 1 ≤ length r
some-points m valid f r h =
    let b = map-Contains (λ (b : Boundary). b.ring) (filter (λ b. is_face f b.face) m.boundaries) r h in
    let there = filter-Contains (λ b. is_face f b.face) m.boundaries b.0 b.1 in
    let three = All-at_each (λ b. 3 ≤ length b.ring) m.boundaries b.0 valid.sound.v5.three there.0 in
    subst (λ (q : Ring). 1 ≤ length q) b.2 (omega (arith, three))

module _ (old new : Map) (t : Touched) (valid : IsValid old) (sound : HasSoundRows new) (touched : IsTouched old new t) where
  pub near-outlines : AllByRecursion (OfFace new (HasOutlines new)) t.faces ↔ IsTrue (has_one_outline_each new)
  near-outlines = (
    (λ tested. faces-from new sound (λ f. has_outlines (outlines_wanted f) new (rings_of new f)) (λ f there. elim (touched.faces f there) [
      | inl named ↦ All-at_each (OfFace new (HasOutlines new)) t.faces f tested named there
      | inr s ↦
          ap (has_outlines (outlines_wanted f) new) s.rings ∙ outlines-stand old new (rings_of old f) s.positions (rings-apart old (whole_valid old valid) f) (some-points old valid f) (outlines_wanted f)
          ∙ faces-at old valid.sound.v1 (λ f. has_outlines (outlines_wanted f) old (rings_of old f)) valid.keeps.v7 f s.there
    ])),
    (λ v7. All-from_each (OfFace new (HasOutlines new)) t.faces (λ f _ there. faces-at new sound (λ f. has_outlines (outlines_wanted f) new (rings_of new f)) v7 f there)),
  )

  pub near-holes : AllByRecursion (OfFace new (HasSoundHoles new)) t.faces ↔ IsTrue (has_holes_in_place new)
  near-holes = (
    (λ tested. faces-from new sound (λ f. has_sound_holes new (rings_of new f)) (λ f there. elim (touched.faces f there) [
      | inl named ↦ All-at_each (OfFace new (HasSoundHoles new)) t.faces f tested named there
      | inr s ↦
          ap (has_sound_holes new) s.rings ∙ sound-stands old new (rings_of old f) s.positions (rings-apart old (whole_valid old valid) f) (some-points old valid f)
          ∙ faces-at old valid.sound.v1 (λ f. has_sound_holes old (rings_of old f)) valid.keeps.v8 f s.there
    ])),
    (λ v8. All-from_each (OfFace new (HasSoundHoles new)) t.faces (λ f _ there. faces-at new sound (λ f. has_sound_holes new (rings_of new f)) v8 f there)),
  )
