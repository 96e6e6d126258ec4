-- The rings of all faces, face by face, are the rings of the map.
use Rattle.std.proofs.Common.{◌≡◌, ◌≢◌, ℕ, ◌+◌, ◌≤◌, refl, sym, ap, subst, ◌∙◌, List, [], ◌∷◌, ◌++◌, map, filter, not, take, Bool, true, false, true≢false, length, slice_get, Some}
use Rattle.std.specs.Prelude.{IsPermutation, flat_map, if◌then◌else◌}
use Rattle.std.specs.List.{AllByRecursion}
use Rattle.std.proofs.lemmas.List.{map-append, append-nil, take_all}
use Rattle.std.proofs.lemmas.Grind.{flat_map-append}
use Rattle.std.proofs.lemmas.List.Sorted.{IsPermutation-refl, IsPermutation-trans, IsPermutation-sym, IsPermutation-middle, IsPermutation-append, IsPermutation-append_right, IsPermutation-map, IsPermutation-filter_both}
use Rattle.cad_rows.specs.declared.names.Face.{Face}
use Rattle.cad_rows.specs.declared.names.Face.TheVariants.{Outside, Parcel}
use Rattle.cad_rows.specs.declared.rows.ParcelRow.{ParcelRow}
use Rattle.cad_map.specs.declared.boundary.Boundary.{Boundary}
use Rattle.cad_map.specs.Boundaries.{is_face, bounding, canonical_form, canonical_order}
use Rattle.cad_map.specs.Map.{Map, faces, rings_at, rings_of, is_positive}
use Rattle.cad_map.specs.Outline.{outline_of}
use Rattle.cad_map.specs.Valid.{EachPair, IsValid}
use Rattle.cad_map.proofs.Boundaries.Balance.{is_among, outside-differs, parcels-distinct, faces-among}
use Rattle.cad_map.proofs.Lists.Entries.{take-more}
use Rattle.cad_map.proofs.Boundaries.FacesBeside.{is_face-same}
use Rattle.cad_map.proofs.Boundaries.CanonicalOrder.{canonical_order-permuted}

-- ---- Rings parted by faces

-- those of these rings that have the face to their left
abbrev own : List Boundary → Face → List Boundary
own bs f = filter (λ b. is_face f b.face) bs

unchanged : (b : Boundary) (bs : List Boundary) (fs : List Face) → AllByRecursion (λ g. b.face ≢ g) fs → flat_map (own (b ∷ bs)) fs ≡ flat_map (own bs) fs
unchanged b bs [] other = refl
unchanged b bs (g ∷ fs) other = by (is_face g b.face) refl (unchanged b bs fs other.1)
  where
    by : (t : Bool) → is_face g b.face ≡ t → flat_map (own (b ∷ bs)) fs ≡ flat_map (own bs) fs → flat_map (own (b ∷ bs)) (g ∷ fs) ≡ flat_map (own bs) (g ∷ fs)
    by true is rest = absurd (other.0 (sym (is_face-same g b.face is)))
    by false is rest = let e : own (b ∷ bs) g ≡ own bs g = rw is refl in λ i. e i ++ rest i

-- one ring more stands with those of its face
one_more : (b : Boundary) (bs : List Boundary) (fs : List Face) → EachPair (λ g h. g ≢ h) fs → is_among b.face fs ≡ true → IsPermutation (b ∷ flat_map (own bs) fs) (flat_map (own (b ∷ bs)) fs)
one_more b bs [] each among = absurd (true≢false (sym among))
one_more b bs (g ∷ fs) each among = by (is_face g b.face) refl (λ later. one_more b bs fs each.1 later)
  where
    whole : List Boundary
    whole = flat_map (own (b ∷ bs)) (g ∷ fs)

    by : (t : Bool) → is_face g b.face ≡ t → (is_among b.face fs ≡ true → IsPermutation (b ∷ flat_map (own bs) fs) (flat_map (own (b ∷ bs)) fs)) → IsPermutation (b ∷ flat_map (own bs) (g ∷ fs)) whole
    by true is again =
        let here : own (b ∷ bs) g ≡ b ∷ own bs g = rw is refl in
        let same = is_face-same g b.face is in
        let others = unchanged b bs fs (subst (λ (h : Face). AllByRecursion (λ k. h ≢ k) fs) same each.0) in
        let all : b ∷ flat_map (own bs) (g ∷ fs) ≡ whole = λ i. sym here i ++ sym others i in
        subst (IsPermutation (b ∷ flat_map (own bs) (g ∷ fs))) all (IsPermutation-refl (b ∷ flat_map (own bs) (g ∷ fs)))
    by false is again =
        let here : own (b ∷ bs) g ≡ own bs g = rw is refl in
        let front = own bs g in
        let rest = flat_map (own bs) fs in
        let more = again (sym (ap (λ (t : Bool). if t then true else is_among b.face fs) is) ∙ among) in
        subst (λ (l : List Boundary). IsPermutation (b ∷ (front ++ rest)) (l ++ flat_map (own (b ∷ bs)) fs)) (sym here)
        (IsPermutation-trans (b ∷ (front ++ rest)) (front ++ b ∷ rest) (front ++ flat_map (own (b ∷ bs)) fs)
        (IsPermutation-sym (front ++ b ∷ rest) (b ∷ (front ++ rest)) (IsPermutation-middle front b rest))
        (IsPermutation-append_right front (b ∷ rest) (flat_map (own (b ∷ bs)) fs) more))

nothing : (fs : List Face) → flat_map (own []) fs ≡ []
nothing [] = refl
nothing (g ∷ fs) = nothing fs

by_faces : (bs : List Boundary) (fs : List Face) → EachPair (λ g h. g ≢ h) fs → AllByRecursion (λ b. is_among b.face fs ≡ true) bs → IsPermutation bs (flat_map (own bs) fs)
by_faces [] fs each among = subst (IsPermutation []) (sym (nothing fs)) (IsPermutation-refl [])
by_faces (b ∷ bs) fs each among =
    IsPermutation-trans (b ∷ bs) (b ∷ flat_map (own bs) fs) (flat_map (own (b ∷ bs)) fs)
    (IsPermutation-append_right (b ∷ []) bs (flat_map (own bs) fs) (by_faces bs fs each among.1)) (one_more b bs fs each among.0)

-- ---- Outlines of all faces

bounding-rings : (f : Face) (bs : List Boundary) → map (bounding f) (rings_at f bs) ≡ own bs f
bounding-rings f [] = refl
bounding-rings f (b ∷ bs) = by (is_face f b.face) refl (bounding-rings f bs)
  where
    by : (t : Bool) → is_face f b.face ≡ t → map (bounding f) (rings_at f bs) ≡ own bs f → map (bounding f) (rings_at f (b ∷ bs)) ≡ own (b ∷ bs) f
    by true is rest = let same = is_face-same f b.face is in simp is (λ i. record { face = same i; ring = b.ring } ∷ rest i)
    by false is rest = simp is rest

-- the rings of a face's outline, with the face
abbrev pub outlined : Map → Face → List Boundary
outlined m f = map (bounding f) (outline_of m f)

own-outlined : (m : Map) (f : Face) → IsPermutation (own m.boundaries f) (outlined m f)
own-outlined m f =
    subst (λ (l : List Boundary). IsPermutation l (outlined m f)) (bounding-rings f m.boundaries)
    (IsPermutation-map (bounding f) (rings_of m f) (outline_of m f) (IsPermutation-filter_both (is_positive m) (λ r. not (is_positive m r)) (λ r. refl) (rings_of m f)))

all-outlined : (m : Map) (fs : List Face) → IsPermutation (flat_map (own m.boundaries) fs) (flat_map (outlined m) fs)
all-outlined m [] = IsPermutation-refl []
all-outlined m (f ∷ fs) =
    IsPermutation-append (own m.boundaries f) (outlined m f) (flat_map (own m.boundaries) fs) (flat_map (outlined m) fs) (own-outlined m f) (all-outlined m fs)

-- the outlines of all faces, in canonical order, are the rings of the map
outlines-canonical_order : (m : Map) → IsValid m → canonical_order (flat_map (outlined m) (faces m)) ≡ m.boundaries
outlines-canonical_order m valid =
    let v1 = valid.sound.v1 in
    let bs = m.boundaries in
    let fs = faces m in
    let parted = by_faces bs fs (outside-differs m.parcels, parcels-distinct m.parcels v1.parcels.distinct) (faces-among m bs v1.faces_of_rings) in
    let all = IsPermutation-trans bs (flat_map (own bs) fs) (flat_map (outlined m) fs) parted (all-outlined m fs) in
    sym (canonical_order-permuted bs (flat_map (outlined m) fs) (IsPermutation-map canonical_form bs (flat_map (outlined m) fs) all)) ∙ v1.canonical

-- ---- Face by face

-- the outside, and the parcels up to a place
abbrev pub faces_up_to : Map → ℕ → List Face
faces_up_to m place = Outside ∷ map (λ (p : ParcelRow). Parcel p.number) (take place m.parcels)

pub outlined-next : (m : Map) (place : ℕ) (row : ParcelRow) → slice_get m.parcels place ≡ Some row → flat_map (outlined m) (faces_up_to m (place + 1)) ≡ flat_map (outlined m) (faces_up_to m place) ++ outlined m (Parcel row.number)
outlined-next m place row at =
    let number : ParcelRow → Face = λ p. Parcel p.number in
    let more : faces_up_to m (place + 1) ≡ faces_up_to m place ++ Parcel row.number ∷ [] =
    ap (λ (rows : List ParcelRow). Outside ∷ map number rows) (sym (take-more m.parcels place row at)) ∙ ap (λ (fs : List Face). Outside ∷ fs) (map-append number (take place m.parcels) (row ∷ [])) in
    ap (flat_map (outlined m)) more ∙ flat_map-append (outlined m) (faces_up_to m place) (Parcel row.number ∷ [])
    ∙ ap (λ (l : List Boundary). flat_map (outlined m) (faces_up_to m place) ++ l) (append-nil (outlined m (Parcel row.number)))

pub outlined-all : (m : Map) (place : ℕ) → IsValid m → length m.parcels ≤ place → canonical_order (flat_map (outlined m) (faces_up_to m place)) ≡ m.boundaries
outlined-all m place valid past =
    ap (λ (rows : List ParcelRow). canonical_order (flat_map (outlined m) (Outside ∷ map (λ (p : ParcelRow). Parcel p.number) rows))) (take_all place m.parcels past) ∙ outlines-canonical_order m valid
