-- The sums of all faces of a map add up to nothing.
use Rattle.std.proofs.Common.{◌≡◌, ◌≢◌, ℕ, refl, sym, ap, ◌∙◌, List, [], ◌∷◌, map, Bool, true, false, true≢false, ◌+ℤ◌, ℤ, pos, arith, nat_eq}
use Rattle.std.proofs.lemmas.Int.{ints}
use Rattle.std.proofs.lemmas.Bool.{eqb-true}
use Rattle.std.specs.Prelude.{flat_map, if◌then◌else◌, IsTrue, is_some}
use Rattle.std.specs.List.{AllByRecursion}
use Rattle.geo_exact.specs.Position.{Position}
use Rattle.geo_exact.specs.Measure.{Measure, IsOdd, sum_over}
use Rattle.cad_rows.specs.declared.names.Face.{Face}
use Rattle.cad_rows.specs.declared.names.Face.TheVariants.{Outside, Parcel}
use Rattle.cad_rows.specs.declared.rows.ParcelRow.{ParcelRow}
use Rattle.cad_rings.specs.Cycle.{Side, sides_of, placed}
use Rattle.cad_rings.proofs.CallerLemmas.{sum-append, sum-permuted, sum-both_ways}
use Rattle.cad_map.specs.declared.boundary.Boundary.{Boundary}
use Rattle.cad_map.specs.Boundaries.{is_face, sides_in}
use Rattle.cad_map.specs.Map.{Map, faces, has_face, rings_at, all_sides, position_of, side_of, string_sides}
use Rattle.numbered_rows.specs.Rows.{row_with}
use Rattle.cad_map.specs.Valid.{EachPair, HasSoundRows, HasCompleteRings}
use Rattle.cad_map.specs.Sums.{total, IsBalanced}
use Rattle.cad_map.proofs.Parcels.ChainFacts.{sides-from_ends}

-- ---- Each ring is of one face

-- how many of these faces it is
abbrev pub is_among : Face → List Face → Bool
is_among g [] = false
is_among g (f ∷ fs) = if is_face f g then true else is_among g fs

same-face : (f g : Face) → is_face f g ≡ true → f ≡ g
same-face Outside Outside h = refl
same-face Outside (Parcel n) h = absurd (true≢false (sym h))
same-face (Parcel m) Outside h = absurd (true≢false (sym h))
same-face (Parcel m) (Parcel n) h = ap Parcel (eqb-true m n h)

module _ (f : Measure) (position : ℕ → Position) where
  abbrev pub sum : List Side → ℤ
  sum sides = sum_over f (placed position sides)

  -- what the rings of one face come to
  abbrev pub part : List Boundary → Face → ℤ
  part bs g = sum (flat_map sides_of (rings_at g bs))

  -- one ring more changes no face but its own
  unchanged : (b : Boundary) (bs : List Boundary) (fs : List Face) → AllByRecursion (λ g. b.face ≢ g) fs → total (map (part (b ∷ bs)) fs) ≡ total (map (part bs) fs)
  unchanged b bs [] other = refl
  unchanged b bs (g ∷ fs) other = by (is_face g b.face) refl (unchanged b bs fs other.1)
    where
      by : (t : Bool) → is_face g b.face ≡ t → total (map (part (b ∷ bs)) fs) ≡ total (map (part bs) fs) → total (map (part (b ∷ bs)) (g ∷ fs)) ≡ total (map (part bs) (g ∷ fs))
      by true is rest = absurd (other.0 (sym (same-face g b.face is)))
      by false is rest = let e : part (b ∷ bs) g ≡ part bs g = rw is refl in λ i. e i +ℤ rest i

  -- and its own by the ring's sum
  more : (b : Boundary) (bs : List Boundary) (fs : List Face) → EachPair (λ g h. g ≢ h) fs → is_among b.face fs ≡ true → total (map (part (b ∷ bs)) fs) ≡ sum (sides_of b.ring) +ℤ total (map (part bs) fs)
  more b bs [] each among = absurd (true≢false (sym among))
  more b bs (g ∷ fs) each among = by (is_face g b.face) refl (λ rest. more b bs fs each.1 rest)
    where
      by : (t : Bool) → is_face g b.face ≡ t → (is_among b.face fs ≡ true → total (map (part (b ∷ bs)) fs) ≡ sum (sides_of b.ring) +ℤ total (map (part bs) fs))
          → total (map (part (b ∷ bs)) (g ∷ fs)) ≡ sum (sides_of b.ring) +ℤ total (map (part bs) (g ∷ fs))
      by true is again =
          let same = same-face g b.face is in
          let here : part (b ∷ bs) g ≡ sum (sides_of b.ring) +ℤ part bs g = rw is (sum-append f position (sides_of b.ring) (flat_map sides_of (rings_at g bs))) in
          let others = unchanged b bs fs (rw same at each.0) in
          omega (arith, ints, here, others)
      by false is again =
          let here : part (b ∷ bs) g ≡ part bs g = rw is refl in
          let others = again (sym (ap (λ (t : Bool). if t then true else is_among b.face fs) is) ∙ among) in
          omega (arith, ints, here, others)

  -- rings of these faces, face by face and all together
  by_faces : (bs : List Boundary) (fs : List Face) → EachPair (λ g h. g ≢ h) fs → AllByRecursion (λ b. is_among b.face fs ≡ true) bs → total (map (part bs) fs) ≡ sum (sides_in bs)
  by_faces [] fs each among = nothing fs
    where
      nothing : (fs : List Face) → total (map (part []) fs) ≡ pos 0
      nothing [] = refl
      nothing (g ∷ fs) = let e = nothing fs in omega (arith, ints, e)
  by_faces (b ∷ bs) fs each among =
      more b bs fs each among.0 ∙ ap (λ (z : ℤ). sum (sides_of b.ring) +ℤ z) (by_faces bs fs each among.1) ∙ sym (sum-append f position (sides_of b.ring) (sides_in bs))

-- ---- The faces of a map

parcels-differ : (n : ℕ) (rows : List ParcelRow) → AllByRecursion (λ k. n ≢ k) (map (λ r. r.number) rows) → AllByRecursion (λ g. Parcel n ≢ g) (map (λ p. Parcel p.number) rows)
parcels-differ n [] all = tt
parcels-differ n (r ∷ rows) all = ((λ same. let e : n ≡ r.number = cc in all.0 e), parcels-differ n rows all.1)

pub outside-differs : (rows : List ParcelRow) → AllByRecursion (λ g. Outside ≢ g) (map (λ p. Parcel p.number) rows)
outside-differs [] = tt
outside-differs (r ∷ rows) = ((λ same. cc), outside-differs rows)

pub parcels-distinct : (rows : List ParcelRow) → EachPair (λ a b. a ≢ b) (map (λ r. r.number) rows) → EachPair (λ g h. g ≢ h) (map (λ p. Parcel p.number) rows)
parcels-distinct [] each = tt
parcels-distinct (r ∷ rows) each = (parcels-differ r.number rows each.0, parcels-distinct rows each.1)

parcel-among : (n : ℕ) (rows : List ParcelRow) → is_some (row_with (λ (r : ParcelRow). r.number) n rows) ≡ true → is_among (Parcel n) (map (λ p. Parcel p.number) rows) ≡ true
parcel-among n [] known = absurd (true≢false (sym known))
parcel-among n (r ∷ rows) known = by (nat_eq r.number n) refl (λ rest. parcel-among n rows rest)
  where
    by : (t : Bool) → nat_eq r.number n ≡ t → (is_some (row_with (λ (r : ParcelRow). r.number) n rows) ≡ true → is_among (Parcel n) (map (λ p. Parcel p.number) rows) ≡ true) → is_among (Parcel n) (map (λ p. Parcel p.number) (r ∷ rows)) ≡ true
    by true is again = rw is refl
    by false is again = rw is (again (rw is at known))

face-among : (m : Map) (g : Face) → has_face m g ≡ true → is_among g (faces m) ≡ true
face-among m Outside known = refl
face-among m (Parcel n) known = parcel-among n m.parcels known

pub faces-among : (m : Map) (bs : List Boundary) → AllByRecursion (λ b. IsTrue (has_face m b.face)) bs → AllByRecursion (λ b. is_among b.face (faces m) ≡ true) bs
faces-among m [] known = tt
faces-among m (b ∷ bs) known = (face-among m b.face known.0, faces-among m bs known.1)

-- The sums of all faces, the outside included, add up to nothing.
pub balanced : (f : Measure) → IsOdd f → (m : Map) → HasSoundRows m → HasCompleteRings m → IsBalanced f m
balanced f odd m v1 v5 =
    by_faces f (position_of m) m.boundaries (faces m) (outside-differs m.parcels, parcels-distinct m.parcels v1.parcels.distinct) (faces-among m m.boundaries v1.faces_of_rings)
    ∙ sym (sum-permuted f (position_of m) (string_sides m) (all_sides m) v5.once)
    ∙ ap (λ (sides : List Side). sum_over f (placed (position_of m) sides)) (sides-from_ends m.strings)
    ∙ sum-both_ways f odd (position_of m) (map side_of m.strings)
