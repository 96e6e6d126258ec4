-- The rings on both hands of a chain that is put into a face: with them and the other rings, the map is sound.
use Rattle.std.proofs.Common.{◌≡◌, ◌≢◌, ℕ, ◌≤◌, ◌⊎◌, inl, inr, refl, sym, ap, subst, ◌∙◌, List, [], ◌∷◌, ◌++◌, append_assoc, length, map, Bool, true, false, true≢false, None, is_some}
use Rattle.std.specs.Prelude.{IsTrue, IsPermutation, flat_map, ◌&&◌, if◌then◌else◌}
use Rattle.std.specs.List.{AllByRecursion, Contains}
use Rattle.std.proofs.lemmas.List.{append-nil}
use Rattle.std.proofs.lemmas.List.Concat.{flat_map-append}
use Rattle.std.proofs.lemmas.List.Sorted.{IsPermutation-trans, IsPermutation-sym, IsPermutation-append_left}
use Rattle.std.proofs.lemmas.Bool.{and_parts}
use Rattle.cad_rows.specs.declared.names.Face.{Face}
use Rattle.cad_rows.specs.declared.names.Face.TheVariants.{Parcel}
use Rattle.cad_rows.specs.declared.rows.StringRow.{StringRow}
use Rattle.cad_rings.specs.Cycle.{Ring, Side, opposite, sides_of, anchor_of}
use Rattle.cad_rings.specs.Surgery.{both_ways}
use Rattle.cad_rings.proofs.CallerLemmas.{permuted_as, laid, shuffled}
use Rattle.cad_map.specs.declared.boundary.Boundary.{Boundary}
use Rattle.cad_map.specs.Boundaries.{is_face, bounding, sides_in}
use Rattle.cad_map.specs.Map.{Map, parcel_of, has_face, side_of, string_sides, all_sides, is_negative, is_in_ring}
use Rattle.cad_map.specs.Division.{hole_placed}
use Rattle.cad_map.specs.Valid.{IsValid, IsSound}
use Rattle.cad_map.specs.Changes.{with_boundaries, with_new_parcel}
use Rattle.cad_map.proofs.Lists.Elements.{Contains-cases, Contains-flat_map, All-at_each, All-from_each}
use Rattle.cad_map.proofs.Lists.ElementFacts.{map-Contains}
use Rattle.cad_map.proofs.Lists.EachElement.{All-map}
use Rattle.cad_map.proofs.Boundaries.FacesBeside.{IsBeside, is_face-same}
use Rattle.cad_map.proofs.Boundaries.TwoFaces.{AreApart, apart-valid}
use Rattle.cad_map.proofs.Parcels.ChainFacts.{HasNoOpposites, sides-from_ends}
use Rattle.cad_map.proofs.Parcels.AddedRows.{CanBeAdded, added-sound}

-- What is left and right of a chain, the sides of the ring that it cuts, and the other rings of the map.
-- Each side is one of the chain's or one that the face had.
pub record IsDivision (m : Map) (face : Face) (parcel : ℕ) (chain : List Side) (left right : Ring) (cut : List Side) (rest : List Boundary) : Type 0 where
  pub face_there : has_face m face ≡ true
  pub parcel_new : parcel_of m parcel ≡ None
  pub no_opposites : HasNoOpposites chain
  -- no ring of the map has a side of the chain, in either direction
  pub new : (s : Side) → Contains chain s → Contains (all_sides m) s → ⊥
  pub new_back : (s : Side) → Contains chain s → Contains (all_sides m) (opposite s) → ⊥
  pub of_left : (s : Side) → Contains (sides_of left) s → Contains chain s ⊎ IsBeside face s m.boundaries
  pub of_right : (s : Side) → Contains (sides_of right) s → Contains chain (opposite s) ⊎ IsBeside face s m.boundaries
  pub others : (b : Boundary) → Contains rest b → Contains m.boundaries b
  pub left_long : 3 ≤ length left
  pub right_long : 3 ≤ length right
  -- the ring that is cut has the sides cut, and the other rings have the others
  pub with_cut : IsPermutation (all_sides m) (cut ++ sides_in rest)
  pub both_hands : IsPermutation (sides_of left ++ sides_of right) (both_ways chain ++ cut)

module _ (m : Map) (face new : Face) (ring : Ring) (b : Boundary) where
  abbrev moves : Bool
  moves = is_face face b.face && is_negative m b.ring && is_in_ring m ring (anchor_of b.ring)

  -- a hole that moves to another face stays the same ring
  pub ring-hole_placed : (hole_placed m face new ring b).ring ≡ b.ring
  ring-hole_placed = by moves
    where
      by : (t : Bool) → (if t then bounding new b.ring else b).ring ≡ b.ring
      by true = refl
      by false = refl

  -- and only a hole of the face moves, to the new one
  pub face-hole_placed : ((hole_placed m face new ring b).face ≡ b.face) ⊎ (((hole_placed m face new ring b).face ≡ new) × (b.face ≡ face))
  face-hole_placed = by moves refl
    where
      by : (t : Bool) → moves ≡ t → ((hole_placed m face new ring b).face ≡ b.face) ⊎ (((hole_placed m face new ring b).face ≡ new) × (b.face ≡ face))
      by true is = rw is (inr (refl, sym (is_face-same face b.face (and_parts (is_face face b.face) (is_negative m b.ring) (and_parts (is_face face b.face && is_negative m b.ring) (is_in_ring m ring (anchor_of b.ring)) is).0).0)))
      by false is = rw is (inl refl)

pub sides-holes_placed : (m : Map) (face new : Face) (ring : Ring) (bs : List Boundary) → sides_in (map (hole_placed m face new ring) bs) ≡ sides_in bs
sides-holes_placed m face new ring [] = refl
sides-holes_placed m face new ring (b ∷ bs) = λ i. sides_of (ring-hole_placed m face new ring b i) ++ sides-holes_placed m face new ring bs i

module _ (m : Map) (valid : IsValid m) (face : Face) (parcel : ℕ) (chain : List Side) (left right : Ring) (cut : List Side) (rest : List Boundary) (of : IsDivision m face parcel chain left right cut rest) where
  abbrev boundaries : List Boundary
  boundaries = bounding (Parcel parcel) left ∷ bounding face right ∷ map (hole_placed m face (Parcel parcel) left) rest

  -- no face of the map has the new number
  pub old-differs : (f : Face) → has_face m f ≡ true → f ≢ Parcel parcel
  old-differs f there is = true≢false (sym there ∙ ap (has_face m) is ∙ ap is_some of.parcel_new)

  beside-known : (f : Face) (s : Side) → IsBeside f s m.boundaries → has_face m f ≡ true
  beside-known f s k = subst (λ (g : Face). has_face m g ≡ true) (sym k.face) (All-at_each (λ b. IsTrue (has_face m b.face)) m.boundaries k.boundary valid.sound.v1.faces_of_rings k.there)

  beside-in : (f : Face) (s : Side) → IsBeside f s m.boundaries → Contains (all_sides m) s
  beside-in f s k = Contains-flat_map (λ b. sides_of b.ring) m.boundaries k.boundary s k.there k.has

  -- ---- Where sides come from

  -- the side was one of the map's, and its face was the same, or the one that is divided
  record IsOld (f : Face) (s : Side) : Type 0 where
    pub was : Face
    pub beside : IsBeside was s m.boundaries
    pub now : (f ≡ was) ⊎ ((f ≡ Parcel parcel) × (was ≡ face))

  -- it is one of the chain's, which has the new parcel on its left and the face on its right
  abbrev IsOfChain : Face → Side → Type 0
  IsOfChain f s = (Contains chain s × (f ≡ Parcel parcel)) ⊎ (Contains chain (opposite s) × (f ≡ face))

  from_left : (f : Face) (s : Side) → f ≡ Parcel parcel → Contains (sides_of left) s → IsOld f s ⊎ IsOfChain f s
  from_left f s is has = elim (of.of_left s has) [
    | inl c ↦ inr (inl (c, is))
    | inr k ↦ inl (record { was = face; beside = k; now = inr (is, refl) })
  ]

  from_right : (f : Face) (s : Side) → f ≡ face → Contains (sides_of right) s → IsOld f s ⊎ IsOfChain f s
  from_right f s is has = elim (of.of_right s has) [
    | inl c ↦ inr (inr (c, is))
    | inr k ↦ inl (record { was = face; beside = k; now = inl is })
  ]

  from_others : (f : Face) (s : Side) (c : Boundary) → Contains (map (hole_placed m face (Parcel parcel) left) rest) c → f ≡ c.face → Contains (sides_of c.ring) s → IsOld f s
  from_others f s c there is has =
      let one = map-Contains (hole_placed m face (Parcel parcel) left) rest c there in
      let b = one.0 in
      let ring : c.ring ≡ b.ring = ap (λ (d : Boundary). d.ring) (sym one.2) ∙ ring-hole_placed m face (Parcel parcel) left b in
      let faced : f ≡ (hole_placed m face (Parcel parcel) left b).face = is ∙ ap (λ (d : Boundary). d.face) (sym one.2) in
      record {
        was = b.face;
        beside = record { boundary = b; there = of.others b one.1; face = refl; has = subst (λ (r : Ring). Contains (sides_of r) s) ring has };
        now = elim (face-hole_placed m face (Parcel parcel) left b) [ inl stays ↦ inl (faced ∙ stays) | inr moved ↦ inr (faced ∙ moved.0, moved.1) ];
      }

  origin : (f : Face) (s : Side) → IsBeside f s boundaries → IsOld f s ⊎ IsOfChain f s
  origin f s k = elim (Contains-cases (bounding (Parcel parcel) left) (bounding face right ∷ map (hole_placed m face (Parcel parcel) left) rest) k.boundary k.there) [
    | inl is ↦ from_left f s (k.face ∙ ap (λ (b : Boundary). b.face) (sym is)) (subst (λ (b : Boundary). Contains (sides_of b.ring) s) (sym is) k.has)
    | inr later ↦ elim (Contains-cases (bounding face right) (map (hole_placed m face (Parcel parcel) left) rest) k.boundary later) [
      | inl is ↦ from_right f s (k.face ∙ ap (λ (b : Boundary). b.face) (sym is)) (subst (λ (b : Boundary). Contains (sides_of b.ring) s) (sym is) k.has)
      | inr there ↦ inl (from_others f s k.boundary there k.face k.has)
    ]
  ]

  -- ---- No side has one face on its two hands

  both_old : (s : Side) (f g : Face) → IsOld f s → IsOld g (opposite s) → f ≡ g → ⊥
  both_old s f g here there same =
      let differ = (apart-valid m valid).apart s here.was there.was here.beside there.beside in
      elim here.now [
        | inl e ↦ elim there.now [
          | inl d ↦ differ (sym e ∙ same ∙ d)
          | inr d ↦ old-differs here.was (beside-known here.was s here.beside) (sym e ∙ same ∙ d.0)
        ]
        | inr e ↦ elim there.now [
          | inl d ↦ old-differs there.was (beside-known there.was (opposite s) there.beside) (sym d ∙ sym same ∙ e.0)
          | inr d ↦ differ (e.1 ∙ sym d.1)
        ]
      ]

  old_and_chain : (s : Side) (f g : Face) → IsOld f s → IsOfChain g (opposite s) → ⊥
  old_and_chain s f g here there = elim there [
    | inl c ↦ of.new_back (opposite s) c.0 (beside-in here.was s here.beside)
    | inr c ↦ of.new s c.0 (beside-in here.was s here.beside)
  ]

  both_chain : (s : Side) (f g : Face) → IsOfChain f s → IsOfChain g (opposite s) → f ≡ g → ⊥
  both_chain s f g here there same = elim here [
    | inl c ↦ elim there [
      | inl d ↦ of.no_opposites.none s c.0 d.0
      | inr d ↦ old-differs face of.face_there (sym d.1 ∙ sym same ∙ c.1)
    ]
    | inr c ↦ elim there [
      | inl d ↦ old-differs face of.face_there (sym c.1 ∙ same ∙ d.1)
      | inr d ↦ of.no_opposites.none s d.0 c.0
    ]
  ]

  apart-placed : AreApart boundaries
  apart-placed = record { apart = λ s f g here there same. by s f g (origin f s here) (origin g (opposite s) there) same }
    where
      by : (s : Side) (f g : Face) → IsOld f s ⊎ IsOfChain f s → IsOld g (opposite s) ⊎ IsOfChain g (opposite s) → f ≡ g → ⊥
      by s f g here there same = elim here [
        | inl a ↦ elim there [ inl b ↦ both_old s f g a b same | inr b ↦ old_and_chain s f g a b ]
        | inr a ↦ elim there [ inl b ↦ old_and_chain (opposite s) g f b a | inr b ↦ both_chain s f g a b same ]
      ]

  -- ---- The rings are complete

  three-placed : AllByRecursion (λ b. 3 ≤ length b.ring) boundaries
  three-placed = (
    of.left_long,
    (
      of.right_long,
      All-map (λ b. 3 ≤ length b.ring) (hole_placed m face (Parcel parcel) left) rest (All-from_each (λ b. 3 ≤ length (hole_placed m face (Parcel parcel) left b).ring) rest
          (λ b h. subst (λ (r : Ring). 3 ≤ length r) (sym (ring-hole_placed m face (Parcel parcel) left b)) (All-at_each (λ c. 3 ≤ length c.ring) m.boundaries b valid.sound.v5.three (of.others b h)))),
    ),
  )

  known-placed : AllByRecursion (λ b. (has_face m b.face ≡ true) ⊎ (b.face ≡ Parcel parcel)) boundaries
  known-placed = (
    inr refl,
    (
      inl of.face_there,
      All-map (λ b. (has_face m b.face ≡ true) ⊎ (b.face ≡ Parcel parcel)) (hole_placed m face (Parcel parcel) left) rest
          (All-from_each (λ b. (has_face m (hole_placed m face (Parcel parcel) left b).face ≡ true) ⊎ ((hole_placed m face (Parcel parcel) left b).face ≡ Parcel parcel)) rest known),
    ),
  )
    where
      known : (b : Boundary) → Contains rest b → (has_face m (hole_placed m face (Parcel parcel) left b).face ≡ true) ⊎ ((hole_placed m face (Parcel parcel) left b).face ≡ Parcel parcel)
      known b h = elim (face-hole_placed m face (Parcel parcel) left b) [
        | inl stays ↦ inl (subst (λ (f : Face). has_face m f ≡ true) (sym stays) (All-at_each (λ c. IsTrue (has_face m c.face)) m.boundaries b valid.sound.v1.faces_of_rings (of.others b h)))
        | inr moved ↦ inr moved.0
      ]

  module _ (rows : List StringRow) (along : map side_of rows ≡ chain) where
    -- the sides of all strings are those of these rings
    once-placed : IsPermutation (flat_map (λ s. side_of s ∷ opposite (side_of s) ∷ []) (m.strings ++ rows)) (sides_in boundaries)
    once-placed =
        let W = string_sides m in
        let B = both_ways chain in
        let L = sides_of left in
        let R = sides_of right in
        let T = sides_in rest in
        let all : IsPermutation W (cut ++ T) = IsPermutation-trans W (all_sides m) (cut ++ T) valid.sound.v5.once of.with_cut in
        let pieces = cut ∷ T ∷ B ∷ [] in
        let moved : IsPermutation ((cut ++ T) ++ B) ((B ++ cut) ++ T) =
        permuted_as ((cut ++ T) ++ B) (laid pieces (0 ∷ 1 ∷ 2 ∷ [])) ((B ++ cut) ++ T) (laid pieces (2 ∷ 0 ∷ 1 ∷ [])) (simp (append_assoc, append-nil)) (simp (append_assoc, append-nil)) (shuffled pieces (0 ∷ 1 ∷ 2 ∷ []) (2 ∷ 0 ∷ 1 ∷ []) refl) in
        permuted_as (flat_map (λ s. side_of s ∷ opposite (side_of s) ∷ []) (m.strings ++ rows)) (W ++ B) (sides_in boundaries) ((L ++ R) ++ T)
        (flat_map-append (λ s. side_of s ∷ opposite (side_of s) ∷ []) m.strings rows ∙ ap (λ (l : List Side). W ++ l) (sides-from_ends rows ∙ ap both_ways along))
        (ap (λ (l : List Side). L ++ (R ++ l)) (sides-holes_placed m face (Parcel parcel) left rest) ∙ sym (append_assoc L R T))
        (IsPermutation-trans (W ++ B) ((cut ++ T) ++ B) ((L ++ R) ++ T) (IsPermutation-append_left B W (cut ++ T) all)
        (IsPermutation-trans ((cut ++ T) ++ B) ((B ++ cut) ++ T) ((L ++ R) ++ T) moved
        (IsPermutation-append_left T (B ++ cut) (L ++ R) (IsPermutation-sym (L ++ R) (B ++ cut) of.both_hands))))

    -- The map with the strings of the chain, the new parcel and these rings is sound.
    pub placed-sound : (label : List ℕ) (source : ℕ) → CanBeAdded m rows parcel label source → IsSound (with_boundaries boundaries (with_new_parcel rows parcel label source m))
    placed-sound label source can = added-sound m rows parcel label source can valid.sound boundaries known-placed three-placed once-placed apart-placed
