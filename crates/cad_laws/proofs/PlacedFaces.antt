-- The boundaries and the faces of sides after a division and an enclosure.
use Rattle.std.proofs.Common.{◌≡◌, ℕ, ◌⊎◌, inl, inr, refl, sym, ap, subst, ◌∙◌, List, [], ◌∷◌, ◌++◌, map, reverse, filter, not, None, Some, arith}
use Rattle.std.proofs.lemmas.List.Elements.{Contains-append_cases, Contains-append_left, Contains-append_right}
use Rattle.std.proofs.lemmas.List.Sorted.{IsPermutation-refl, IsPermutation-sym, IsPermutation-middle, IsPermutation-reverse, Contains-permutation}
use Rattle.std.specs.Prelude.{IsPermutation, slice_index}
use Rattle.std.specs.List.{Contains}
use Rattle.cad_rows.specs.declared.names.Face.{Face}
use Rattle.cad_rows.specs.declared.names.Face.TheVariants.{Parcel}
use Rattle.cad_rows.specs.declared.edits.Edit.TheVariants.{Divide, Enclose}
use Rattle.cad_rings.specs.Cycle.{Ring, Side, has_side, opposite, sides_of, sides_along, Corner}
use Rattle.cad_rings.specs.Surgery.{sides_of_chain, both_ways}
use Rattle.cad_rings.proofs.CallerLemmas.{cut, sides_of-least_rotation, sides_of-cut, sides_along-append, sides_along-reverse, sides_of_chain-is}
use Rattle.cad_map.specs.declared.boundary.Boundary.{Boundary}
use Rattle.cad_map.specs.Boundaries.{bounding, canonical_form, canonical_order}
use Rattle.cad_map.specs.Map.{Map}
use Rattle.cad_map.specs.Chain.{start_of, next_of, end_of, last_but_one, inner_of, leaving, chosen_corner, strings_along}
use Rattle.cad_map.specs.Division.{place_of, hole_placed}
use Rattle.cad_map.specs.Changes.{divide, with_boundaries, with_new_parcel}
use Rattle.cad_map.specs.Effects.{after}
use Rattle.cad_map.specs.Refusals.{first_refusal}
use Rattle.cad_map.specs.Asked.{GivesInRange}
use Rattle.cad_map.specs.Views.{HasSide}
use Rattle.cad_map.specs.Valid.{IsValid}
use Rattle.cad_map.proofs.CallerLemmas.{CanDivide, IsCutRing, Contains-cases, Contains-first, Contains-later, Contains-map, All-at_each, IsBeside, beside, has_side-Contains, Contains-has_side, IsPermutation-canonical_order, each_canonical, of_face, ring-hole_placed, face-hole_placed}
use Rattle.cad_map.proofs.CallerLemmas as maps
use Rattle.cad_laws.specs.Faces.{IsOfMoved, IsOfNew, HasPlaced, left_of_chain, right_of_chain, IsDividedIn}
use Rattle.cad_laws.proofs.DividedCorners.{of-chosen}

-- ---- A boundary's sides are its face's

pub has-side : (m : Map) (b : Boundary) (s : Side) → Contains m.boundaries b
    → Contains (sides_of b.ring) s → HasSide m b.face s
has-side m b s there has = Contains-has_side s _ (of_face m b.face b.ring s there has)

-- of boundaries in canonical order
pub has-side_canonical : (bs : List Boundary) (others : Map) (b : Boundary) (s : Side) → Contains bs b
    → Contains (sides_of b.ring) s → HasSide (with_boundaries bs others) b.face s
has-side_canonical bs others b s there has =
    has-side (with_boundaries bs others) (canonical_form b) s
    (Contains-permutation (map canonical_form bs) (canonical_order bs) (canonical_form b) (IsPermutation-canonical_order bs)
    (Contains-map canonical_form bs b there))
    (Contains-permutation (sides_of b.ring) (sides_of (canonical_form b).ring) s
    (sides_of-least_rotation b.ring) has)

-- a map's boundaries are in canonical form
pub as-shown : (m : Map) → IsValid m → (b : Boundary) → Contains m.boundaries b → canonical_form b ≡ b
as-shown m valid b there =
    All-at_each (λ (c : Boundary). canonical_form c ≡ c) (canonical_order m.boundaries) b (each_canonical m.boundaries)
    (subst (λ (l : List Boundary). Contains l b) (sym valid.sound.v1.canonical) there)

pub map-same : {X Y : Type 0} (f g : X → Y) (xs : List X) → ((x : X) → Contains xs x → f x ≡ g x)
    → map f xs ≡ map g xs
map-same f g [] same = refl
map-same f g (x ∷ xs) same =
    λ i. same x (Contains-first x xs) i ∷ map-same f g xs
    (λ y h. same y (Contains-later x xs y h)) i

pub map-map : {X Y Z : Type 0} (f : Y → Z) (g : X → Y) (xs : List X)
    → map f (map g xs) ≡ map (λ x. f (g x)) xs
map-map f g [] = refl
map-map f g (x ∷ xs) = λ i. f (g x) ∷ map-map f g xs i

module _ (m : Map) (valid : IsValid m) (face new : Face) (left right : Ring)
    (gone others : List Boundary) (rows : Map) (were : IsPermutation m.boundaries (gone ++ others))
    (of_gone : (b : Boundary) → Contains gone b
    → (face ≡ b.face) × ((s : Side) → Contains (sides_of b.ring) s
    → Contains (sides_of left) s ⊎ Contains (sides_of right) s)) where
  abbrev place : Boundary → Boundary
  place = hole_placed m face new left

  abbrev bs : List Boundary
  bs = bounding new left ∷ bounding face right ∷ map place others

  abbrev made : Map
  made = with_boundaries bs rows

  other-there : (b : Boundary) → Contains others b → Contains m.boundaries b
  other-there b h =
      Contains-permutation (gone ++ others) m.boundaries b
      (IsPermutation-sym m.boundaries (gone ++ others) were)
      (Contains-append_right gone others b h)

  placed-shown : (b : Boundary) → Contains others b → canonical_form (place b) ≡ place b
  placed-shown b h = by (place b) (ring-hole_placed m face new left b)
    where
      by : (c : Boundary) → c.ring ≡ b.ring → canonical_form c ≡ c
      by c ring =
          let e = ap (λ (d : Boundary). d.ring) (as-shown m valid b (other-there b h)) in
          ap (λ (r : Ring). bounding c.face (canonical_form (bounding c.face r)).ring) ring
          ∙ ap (bounding c.face) (e ∙ sym ring)

  of_other : (b : Boundary) (s : Side) → Contains others b → Contains (sides_of b.ring) s
      → HasSide made (place b).face s
  of_other b s h has =
      has-side_canonical bs rows (place b) s
      (Contains-later (bounding new left) (bounding face right ∷ map place others) (place b)
      (Contains-later (bounding face right) (map place others) (place b)
      (Contains-map place others b h)))
      (subst (λ (r : Ring). Contains (sides_of r) s)
      (sym (ring-hole_placed m face new left b)) has)

  right-side : (s : Side) → Contains (sides_of right) s → HasSide made face s
  right-side s has =
      has-side_canonical bs rows (bounding face right) s
      (Contains-later (bounding new left) (bounding face right ∷ map place others)
      (bounding face right) (Contains-first (bounding face right) (map place others))) has

  has_placed : HasPlaced m made face new gone left right others
  has_placed = record {
    were = were;
    are = subst (λ (l : List Boundary).
        IsPermutation (canonical_form (bounding new left) ∷ canonical_form (bounding face right) ∷ l) (canonical_order bs))
        (map-map canonical_form place others ∙ map-same (λ b. canonical_form (place b)) place others placed-shown)
        (IsPermutation-canonical_order bs);
    on_left =
        λ s has.
        has-side_canonical bs rows (bounding new left) s
        (Contains-first (bounding new left) (bounding face right ∷ map place others)) has;
    on_right = right-side;
    of_others = of_other;
    old = λ f s has. by f s (beside f s m.boundaries (has_side-Contains s _ has));
  }
    where
      by : (f : Face) (s : Side) → IsBeside f s m.boundaries
          → HasSide made f s ⊎ ((f ≡ face) × IsOfNew m face new left s)
      by f s k =
          elim (Contains-append_cases gone others k.boundary
          (Contains-permutation m.boundaries (gone ++ others) k.boundary were k.there)) [
            | inl went ↦
                let parts = of_gone k.boundary went in
                let same : f ≡ face = k.face ∙ sym parts.0 in
                elim (parts.1 s k.has) [
                  | inl on_left ↦ inr (same, inl on_left)
                  | inr on_right ↦
                      inl (subst (λ (g : Face). HasSide made g s) (sym same)
                      (right-side s on_right))
                ]
            | inr stays ↦ elim (face-hole_placed m face new left k.boundary) [
              | inl same ↦
                  inl (subst (λ (g : Face). HasSide made g s) (same ∙ sym k.face)
                  (of_other k.boundary s stays k.has))
              | inr moved ↦
                  let hole : IsOfMoved m face new left s = record {
                    hole = k.boundary;
                    there = k.there;
                    has = k.has;
                    was = moved.1;
                    moves = moved.0;
                  } in
                  inr (k.face ∙ moved.1, inr hole)
            ]
          ]

-- ---- A division

module _ (m : Map) (valid : IsValid m) (face : Face) (chain strings : List ℕ) (parcel : ℕ)
    (label : List ℕ) (source : ℕ) (can : CanDivide m face chain strings parcel label source)
    (b : Boundary) (ring : IsCutRing m face can.first can.last b) where
  abbrev i : ℕ
  i = place_of (leaving can.first) b.ring

  abbrev j : ℕ
  j = place_of (leaving can.last) b.ring

  abbrev inner : List ℕ
  inner = inner_of chain

  abbrev L : Ring
  L = left_of_chain chain can.first can.last b.ring

  abbrev R : Ring
  R = right_of_chain chain can.first can.last b.ring

  abbrev others_of : List Boundary
  others_of = filter (λ c. not (has_side (leaving can.first) (sides_of c.ring))) m.boundaries

  abbrev new_rows : Map
  new_rows = with_new_parcel (strings_along (source ∷ []) strings chain) parcel label source m

  hands : IsPermutation (sides_of L ++ sides_of R)
      (both_ways (sides_of_chain chain) ++ sides_of b.ring)
  hands =
      subst (λ (l : List ℕ).
      IsPermutation (sides_of L ++ sides_of R)
      (both_ways (sides_of_chain l) ++ sides_of b.ring))
      (maps.across m valid face chain strings parcel label source can b ring)
      (sides_of-cut i j inner b.ring
      (maps.two m valid face chain strings parcel label source can b ring))

  on-hands : (s : Side) → Contains (sides_of b.ring) s
      → Contains (sides_of L) s ⊎ Contains (sides_of R) s
  on-hands s h =
      let both = both_ways (sides_of_chain chain) in
      Contains-append_cases (sides_of L) (sides_of R) s
      (Contains-permutation (both ++ sides_of b.ring) (sides_of L ++ sides_of R) s
      (IsPermutation-sym (sides_of L ++ sides_of R) (both ++ sides_of b.ring) hands)
      (Contains-append_right both (sides_of b.ring) s h))

  -- the sides of the chain lie between its two places in the ring
  sides-across : sides_along (slice_index b.ring i) inner (slice_index b.ring j) ≡ sides_of_chain chain
  sides-across =
      sym (sides_of_chain-is (slice_index b.ring i) inner (slice_index b.ring j))
      ∙ ap sides_of_chain (maps.across m valid face chain strings parcel label source can b ring)

  chain-left : (s : Side) → Contains (sides_of_chain chain) s → Contains (sides_of L) s
  chain-left s h =
      let k = cut i j inner b.ring
      (maps.two m valid face chain strings parcel label source can b ring) in
      let A = slice_index b.ring i in
      let Z = slice_index b.ring j in
      subst (λ (l : List Side). Contains l s)
      (sym (ap sides_of k.left ∙ sides_along-append A inner Z k.ys A))
      (Contains-append_left (sides_along A inner Z) (sides_along Z k.ys A) s
      (subst (λ (l : List Side). Contains l s) (sym sides-across) h))

  chain-right : (s : Side) → Contains (sides_of_chain chain) s
      → Contains (sides_of R) (opposite s)
  chain-right s h =
      let k = cut i j inner b.ring
      (maps.two m valid face chain strings parcel label source can b ring) in
      let A = slice_index b.ring i in
      let Z = slice_index b.ring j in
      let turned = map opposite (sides_along A inner Z) in
      subst (λ (l : List Side). Contains l (opposite s))
      (sym (ap sides_of k.right ∙ sides_along-append Z (reverse inner) A k.xs Z))
      (Contains-append_left (sides_along Z (reverse inner) A) (sides_along A k.xs Z) (opposite s)
      (subst (λ (l : List Side). Contains l (opposite s)) (sym (sides_along-reverse A inner Z))
      (Contains-permutation turned (reverse turned) (opposite s) (IsPermutation-reverse turned)
      (Contains-map opposite (sides_along A inner Z) s
      (subst (λ (l : List Side). Contains l s) (sym sides-across) h)))))

  were-parted : IsPermutation m.boundaries (b ∷ others_of)
  were-parted =
      let only = maps.only m valid face chain strings parcel label source can b ring in
      subst (λ (bs : List Boundary). IsPermutation bs (b ∷ others_of)) (sym only.whole)
      (subst (λ (bs : List Boundary). IsPermutation (only.front ++ b ∷ only.back) (b ∷ bs))
      (sym only.others) (IsPermutation-middle only.front b only.back))

  placed-divided : IsDividedIn m (divide m face chain strings parcel label source) face
      (Parcel parcel) chain can.first can.last
  placed-divided = record {
    cut = b;
    there = ring.there;
    is = ring.face_is;
    has_first = has_side-Contains (leaving can.first) (sides_of b.ring) ring.has_first;
    has_last = has_side-Contains (leaving can.last) (sides_of b.ring) ring.has_last;
    hands = hands;
    along = chain-left;
    back = chain-right;
    placed =
        subst (λ (a : Map). HasPlaced m a face (Parcel parcel) (b ∷ []) L R others_of)
        (sym (maps.divide-is m valid face chain strings parcel label source can b ring))
        (has_placed m valid face (Parcel parcel) L R (b ∷ []) others_of new_rows were-parted
        (λ c h. elim (Contains-cases b [] c h) [
          | inl is ↦ (
            ring.face_is ∙ ap (λ (d : Boundary). d.face) is,
            λ s has.
                on-hands s (subst (λ (d : Boundary). Contains (sides_of d.ring) s) (sym is) has),
          )
          | inr none ↦ let low = none.1 in absurd (omega arith)
        ]));
  }

-- A division that is not refused: of one ring of the face two are made, and holes inside the new
-- one go to it.
pub divided-faces : (m : Map) (face : Face) (chain strings : List ℕ) (parcel : ℕ) (label : List ℕ)
    (source : ℕ) (first last : Corner) → IsValid m
    → GivesInRange (Divide face chain strings parcel label source)
    → first_refusal m (Divide face chain strings parcel label source) ≡ None
    → chosen_corner m face (start_of chain) (next_of chain) ≡ Some first
    → chosen_corner m face (end_of chain) (last_but_one chain) ≡ Some last
    → IsDividedIn m (after m (Divide face chain strings parcel label source)) face
    (Parcel parcel) chain first last
unfolding after
divided-faces m face chain strings parcel label source first last valid given none is_a is_z =
    of-chosen m face chain strings parcel label source first last given none is_a is_z
    (IsDividedIn m (divide m face chain strings parcel label source) face (Parcel parcel) chain)
    (λ can b ring. placed-divided m valid face chain strings parcel label source can b ring)

-- An enclosure: all rings stay, and two come.
pub enclosed-faces : (m : Map) (face : Face) (points strings : List ℕ) (parcel : ℕ)
    (label : List ℕ) (source : ℕ) → IsValid m
    → HasPlaced m (after m (Enclose face points strings parcel label source)) face
    (Parcel parcel) [] points (reverse points) m.boundaries
unfolding after
enclosed-faces m face points strings parcel label source valid =
    has_placed m valid face (Parcel parcel) points (reverse points) [] m.boundaries
    (with_new_parcel
    (strings_along (source ∷ []) strings
    (points ++ start_of points ∷ [])) parcel label source m) (IsPermutation-refl m.boundaries)
    (λ b h. let low = h.1 in absurd (omega arith))
