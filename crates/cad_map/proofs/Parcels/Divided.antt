-- A chain across a face of a valid map: the map stays sound, and the two parts add up to the face.
use Rattle.std.proofs.Common.{◌≡◌, ◌≢◌, ℕ, ◌+◌, ◌≤◌, inl, inr, sym, ap, subst, ◌∙◌, List, [], ◌∷◌, ◌++◌, length, map, filter, Bool, true, not, Some, ◌+ℤ◌, ℤ}
use Rattle.std.specs.Prelude.{IsTrue, ◌&&◌, IsPermutation, slice_index}
use Rattle.std.specs.List.{AllByRecursion, Contains, list_any}
use Rattle.std.proofs.lemmas.Bool.{and_parts}
use Rattle.std.proofs.lemmas.List.Elements.{Contains-push}
use Rattle.geo_exact.specs.Measure.{Measure, IsOdd}
use Rattle.cad_rows.specs.declared.names.Face.{Face}
use Rattle.cad_rows.specs.declared.names.Face.TheVariants.{Parcel}
use Rattle.cad_rows.specs.declared.rows.StringRow.{StringRow}
use Rattle.cad_rings.specs.Cycle.{Ring, Side, has_side, opposite, sides_along, sides_of, Corner}
use Rattle.cad_rings.specs.Surgery.{AreTwoPlaces, chain_across, left_ring, right_ring, sides_of_chain, both_ways}
use Rattle.cad_rings.proofs.CallerLemmas.{sides_of_chain-is, sides_of-cut}
use Rattle.cad_map.specs.declared.boundary.Boundary.{Boundary}
use Rattle.cad_map.specs.Boundaries.{bounding, sides_in}
use Rattle.cad_map.specs.Map.{Map, has_point, has_face, is_end, far_end, is_free, rings_of, all_sides, position_of, sum_of_face}
use Rattle.cad_map.specs.Chain.{has_in_sector, start_of, next_of, end_of, last_but_one, inner_of, are_distinct, strings_along, chosen_corner, leaving}
use Rattle.cad_map.specs.Division.{place_of, hole_placed}
use Rattle.cad_map.specs.Valid.{EachPair, IsValid, IsSound}
use Rattle.cad_map.specs.Changes.{with_boundaries, with_new_parcel, divide_at, divide}
use Rattle.cad_map.specs.Sums.{IsSharedOut}
use Rattle.cad_map.proofs.Lists.Elements.{All-at_each, Contains-first, Contains-flat_map}
use Rattle.cad_map.proofs.Lists.ElementFacts.{filter-Contains}
use Rattle.cad_map.proofs.Ends.Meetings.{other_end}
use Rattle.cad_map.proofs.Walks.AlongRing.{once-from_pairs}
use Rattle.cad_map.proofs.Boundaries.FacesBeside.{IsBeside, has_side-Contains, sides-once}
use Rattle.cad_map.proofs.Boundaries.Balance.{sum, part}
use Rattle.cad_map.proofs.Parcels.ChainFacts.{HasNoOpposites, in_parts, pairs-from_distinct, inner-along, no_opposites-along, sides-strings_along}
use Rattle.cad_map.proofs.Parcels.AddedChain.{CanAddRows, CanAddAlong, along-can_be_added, joined-in, no_side-free, no_side_to-free}
use Rattle.cad_map.proofs.Walks.ChosenCorners.{IsChosen, chosen, any-found, face-ring, none-in_sector}
use Rattle.cad_map.proofs.Parcels.CutSides.{place-of, IsOnlyIn, only-in, sides-among, left-sides, right-sides, left-long, right-long}
use Rattle.cad_map.proofs.Parcels.PlacedRings.{IsDivision, placed-sound}
use Rattle.cad_map.proofs.Parcels.PlacedSums.{adds-own, part-among, placed-adds_up}

-- what speaks for a division: none of its refusals applies
pub record CanDivide (m : Map) (face : Face) (chain strings : List ℕ) (parcel : ℕ) (label : List ℕ) (source : ℕ) : Type 0 where
  pub rows : CanAddRows m strings parcel label source
  pub face_there : has_face m face ≡ true
  pub points_there : AllByRecursion (λ p. IsTrue (has_point m p)) chain
  pub inner_free : AllByRecursion (λ p. is_free m p ≡ true) (inner_of chain)
  pub long : 2 ≤ length chain
  pub as_many : length strings + 1 ≡ length chain
  pub points_distinct : are_distinct chain ≡ true
  pub first : Corner
  pub at_first : chosen_corner m face (start_of chain) (next_of chain) ≡ Some first
  pub last : Corner
  pub at_last : chosen_corner m face (end_of chain) (last_but_one chain) ≡ Some last
  pub one_ring : list_any (λ r. has_side (leaving first) (sides_of r) && has_side (leaving last) (sides_of r)) (rings_of m face) ≡ true

-- the ring of the face that both corners' sides are of
pub record IsCutRing (m : Map) (face : Face) (first last : Corner) (b : Boundary) : Type 0 where
  pub there : Contains m.boundaries b
  pub face_is : face ≡ b.face
  pub has_first : has_side (leaving first) (sides_of b.ring) ≡ true
  pub has_last : has_side (leaving last) (sides_of b.ring) ≡ true

pub cut_ring : (m : Map) (face : Face) (first last : Corner) → list_any (λ r. has_side (leaving first) (sides_of r) && has_side (leaving last) (sides_of r)) (rings_of m face) ≡ true
    → (b : Boundary) × IsCutRing m face first last b
cut_ring m face first last one =
    let test : Ring → Bool = λ r. has_side (leaving first) (sides_of r) && has_side (leaving last) (sides_of r) in
    let found = any-found test (rings_of m face) one in
    let b = face-ring m face found.0 found.1 in
    let both = and_parts (has_side (leaving first) (sides_of b.0.ring)) (has_side (leaving last) (sides_of b.0.ring)) (ap test b.3 ∙ found.2) in
    (b.0, record { there = b.1; face_is = b.2; has_first = both.0; has_last = both.1 })

module _ (m : Map) (valid : IsValid m) (face : Face) (chain strings : List ℕ) (parcel : ℕ) (label : List ℕ) (source : ℕ) (can : CanDivide m face chain strings parcel label source) where
  abbrev a : ℕ
  a = start_of chain

  abbrev inner : List ℕ
  inner = inner_of chain

  abbrev z : ℕ
  z = end_of chain

  parts : chain ≡ a ∷ inner ++ z ∷ []
  parts = in_parts chain can.long

  -- ---- The chain

  each-differs : EachPair (λ p q. p ≢ q) (a ∷ inner ++ z ∷ [])
  each-differs = subst (EachPair (λ p q. p ≢ q)) parts (pairs-from_distinct chain can.points_distinct)

  pub ends-differ : a ≢ z
  ends-differ = All-at_each (λ q. a ≢ q) (inner ++ z ∷ []) z each-differs.0 (Contains-push inner z)

  sides-chain : sides_of_chain chain ≡ sides_along a inner z
  sides-chain = ap sides_of_chain parts ∙ sides_of_chain-is a inner z

  none-opposite : HasNoOpposites (sides_of_chain chain)
  none-opposite = subst HasNoOpposites (sym sides-chain) (no_opposites-along a inner z each-differs)

  pub at_first : IsChosen m face a (next_of chain) can.first
  at_first = chosen m face a (next_of chain) can.first can.at_first

  pub at_last : IsChosen m face z (last_but_one chain) can.last
  at_last = chosen m face z (last_but_one chain) can.last can.at_last

  -- where the chain is one side, no string joins its ends: it would lie in the sector of the first corner
  not-joined : inner ≡ [] → (t : StringRow) → Contains m.strings t → is_end t a ≡ true → is_end t z ≡ true → ⊥
  not-joined none t there at_a at_z =
      let next : next_of chain ≡ z = ap next_of (parts ∙ ap (λ (l : List ℕ). a ∷ l ++ z ∷ []) none) in
      let stands = at_first.stands in
      let at_corner : is_end t can.first.at ≡ true = ap (is_end t) stands ∙ at_a in
      let far : z ≡ far_end t can.first.at = elim (other_end t a z at_a at_z) [ inl same ↦ absurd (ends-differ (sym same)) | inr is ↦ is ∙ ap (far_end t) (sym stands) ] in
      none-in_sector m valid face can.first at_first.there t there at_corner (subst (λ (w : ℕ). has_in_sector m can.first w ≡ true) (next ∙ far) at_first.has)

  free-inner : (p : ℕ) → Contains inner p → is_free m p ≡ true
  free-inner p h = All-at_each (λ p. is_free m p ≡ true) inner p can.inner_free h

  -- no ring has a side of the chain, in either direction
  pub new-side : (s : Side) → Contains (sides_of_chain chain) s → Contains (all_sides m) s → ⊥
  new-side s h old = elim (inner-along a inner z s (subst (λ (l : List Side). Contains l s) sides-chain h)) [
    | inl only ↦
        let k = joined-in m valid s old in
        not-joined only.0 k.string k.there (ap (λ (u : Side). is_end k.string u.0) (sym only.1) ∙ k.at_start) (ap (λ (u : Side). is_end k.string u.1) (sym only.1) ∙ k.at_end)
    | inr some ↦ elim some [
      | inl h ↦ no_side-free m valid s (free-inner s.0 h) old
      | inr h ↦ no_side_to-free m valid s (free-inner s.1 h) old
    ]
  ]

  pub new-side_back : (s : Side) → Contains (sides_of_chain chain) s → Contains (all_sides m) (opposite s) → ⊥
  new-side_back s h old = elim (inner-along a inner z s (subst (λ (l : List Side). Contains l s) sides-chain h)) [
    | inl only ↦
        let k = joined-in m valid (opposite s) old in
        not-joined only.0 k.string k.there (ap (λ (u : Side). is_end k.string u.0) (sym only.1) ∙ k.at_end) (ap (λ (u : Side). is_end k.string u.1) (sym only.1) ∙ k.at_start)
    | inr some ↦ elim some [
      | inl h ↦ no_side_to-free m valid (opposite s) (free-inner s.0 h) old
      | inr h ↦ no_side-free m valid (opposite s) (free-inner s.1 h) old
    ]
  ]

  can_add : CanAddAlong m chain strings parcel label source
  can_add = record {
    rows = can.rows;
    points_there = can.points_there;
    as_many = can.as_many;
    no_opposites = none-opposite;
  }

  -- ---- The ring that is cut

  module _ (b : Boundary) (cut : IsCutRing m face can.first can.last b) where
    abbrev i : ℕ
    i = place_of (leaving can.first) b.ring

    abbrev j : ℕ
    j = place_of (leaving can.last) b.ring

    abbrev others : List Boundary
    others = filter (λ c. not (has_side (leaving can.first) (sides_of c.ring))) m.boundaries

    at_i : slice_index b.ring i ≡ a
    at_i = (place-of (leaving can.first) b.ring cut.has_first).at ∙ at_first.stands

    at_j : slice_index b.ring j ≡ z
    at_j = (place-of (leaving can.last) b.ring cut.has_last).at ∙ at_last.stands

    -- the corners stand at two places
    pub two : AreTwoPlaces i j b.ring
    two = record {
      first = (place-of (leaving can.first) b.ring cut.has_first).within;
      second = (place-of (leaving can.last) b.ring cut.has_last).within;
      apart = λ same. ends-differ (sym at_i ∙ ap (slice_index b.ring) same ∙ at_j);
    }

    pub across : chain_across i j inner b.ring ≡ chain
    across = (λ k. at_i k ∷ inner ++ at_j k ∷ []) ∙ sym parts

    pub only : IsOnlyIn (leaving can.first) m.boundaries b
    only = only-in (leaving can.first) m.boundaries b cut.there (has_side-Contains (leaving can.first) (sides_of b.ring) cut.has_first) (once-from_pairs (all_sides m) (sides-once m valid) (leaving can.first))

    beside-cut : (s : Side) → Contains (sides_of b.ring) s → IsBeside face s m.boundaries
    beside-cut s h = record { boundary = b; there = cut.there; face = cut.face_is; has = h }

    in_all : (s : Side) → Contains (sides_of b.ring) s → Contains (all_sides m) s
    in_all s h = Contains-flat_map (λ c. sides_of c.ring) m.boundaries b s cut.there h

    -- one side alone along the chain
    one_side : inner ≡ [] → Contains (sides_of_chain chain) (slice_index b.ring i, slice_index b.ring j)
    one_side none =
        subst (λ (l : List Side). Contains l (slice_index b.ring i, slice_index b.ring j)) (sym (sides-chain ∙ ap (λ (l : List ℕ). sides_along a l z) none))
        (subst (Contains ((a, z) ∷ [])) (λ k. (sym at_i k, sym at_j k)) (Contains-first (a, z) []))

    pub is_division-divided : IsDivision m face parcel (sides_of_chain chain) (left_ring i j inner b.ring) (right_ring i j inner b.ring) (sides_of b.ring) others
    is_division-divided = record {
      face_there = can.face_there;
      parcel_new = can.rows.parcel_new;
      no_opposites = none-opposite;
      new = new-side;
      new_back = new-side_back;
      of_left = λ s h. elim (left-sides i j inner b.ring two s h) [ inl c ↦ inl (subst (λ (l : List ℕ). Contains (sides_of_chain l) s) across c) | inr o ↦ inr (beside-cut s o) ];
      of_right = λ s h. elim (right-sides i j inner b.ring two s h) [ inl c ↦ inl (subst (λ (l : List ℕ). Contains (sides_of_chain l) (opposite s)) across c) | inr o ↦ inr (beside-cut s o) ];
      others = λ c h. (filter-Contains (λ c. not (has_side (leaving can.first) (sides_of c.ring))) m.boundaries c h).0;
      left_long = left-long i j inner b.ring two (λ none h. new-side_back (slice_index b.ring i, slice_index b.ring j) (one_side none) (in_all (slice_index b.ring j, slice_index b.ring i) h));
      right_long = right-long i j inner b.ring two (λ none h. new-side (slice_index b.ring i, slice_index b.ring j) (one_side none) (in_all (slice_index b.ring i, slice_index b.ring j) h));
      with_cut = subst (λ (bs : List Boundary). IsPermutation (sides_in bs) (sides_of b.ring ++ sides_in others)) (sym only.whole)
          (subst (λ (bs : List Boundary). IsPermutation (sides_in (only.front ++ b ∷ only.back)) (sides_of b.ring ++ sides_in bs)) (sym only.others) (sides-among only.front b only.back));
      both_hands = subst (λ (l : List ℕ). IsPermutation (sides_of (left_ring i j inner b.ring) ++ sides_of (right_ring i j inner b.ring)) (both_ways (sides_of_chain l) ++ sides_of b.ring)) across (sides_of-cut i j inner b.ring two);
    }

    -- the boundaries after the division, where the ring that is cut is named
    abbrev divided_in : Ring → List Boundary
    divided_in cut =
        let i = place_of (leaving can.first) cut in
        let j = place_of (leaving can.last) cut in
        bounding (Parcel parcel) (left_ring i j inner cut) ∷ bounding face (right_ring i j inner cut) ∷ map (hole_placed m face (Parcel parcel) (left_ring i j inner cut)) others

    abbrev rows : List StringRow
    rows = strings_along (source ∷ []) strings chain

    pub divide-is : divide m face chain strings parcel label source ≡ with_boundaries (divided_in b.ring) (with_new_parcel rows parcel label source m)
    divide-is =
        ap (λ (bs : List Boundary). with_boundaries bs (with_new_parcel rows parcel label source m))
        ((λ k. divide_at m face chain parcel (can.at_first k) (can.at_last k)) ∙ ap divided_in only.ring)

    sound-divided : IsSound (divide m face chain strings parcel label source)
    sound-divided =
        subst IsSound (sym divide-is)
        (placed-sound m valid face parcel (sides_of_chain chain) (left_ring i j inner b.ring) (right_ring i j inner b.ring) (sides_of b.ring) others is_division-divided rows
        (sides-strings_along (source ∷ []) strings chain can.as_many) label source (along-can_be_added m chain strings parcel label source can_add))

    -- the face had the ring that is cut and its other rings
    whole-sum : (f : Measure) → sum_of_face f m face ≡ sum f (position_of m) (sides_of b.ring) +ℤ part f (position_of m) others face
    whole-sum f =
        ap (λ (bs : List Boundary). part f (position_of m) bs face) only.whole
        ∙ part-among f (position_of m) face only.front b only.back
        ∙ ap (λ (y : ℤ). y +ℤ part f (position_of m) (only.front ++ only.back) face) (adds-own f (position_of m) face b (sym cut.face_is))
        ∙ ap (λ (bs : List Boundary). sum f (position_of m) (sides_of b.ring) +ℤ part f (position_of m) bs face) (sym only.others)

    adds_up-divided : (f : Measure) → IsOdd f → IsSharedOut f m face parcel (divide m face chain strings parcel label source)
    adds_up-divided f odd =
        subst (IsSharedOut f m face parcel) (sym divide-is)
        (placed-adds_up f odd m valid face parcel (sides_of_chain chain) (left_ring i j inner b.ring) (right_ring i j inner b.ring) (sides_of b.ring) others is_division-divided (whole-sum f) rows label source)

-- A division that is not refused keeps V1, V2 and V5.
pub divided-sound : (m : Map) (face : Face) (chain strings : List ℕ) (parcel : ℕ) (label : List ℕ) (source : ℕ) → IsValid m → CanDivide m face chain strings parcel label source
    → IsSound (divide m face chain strings parcel label source)
divided-sound m face chain strings parcel label source valid can =
    let ring = cut_ring m face can.first can.last can.one_ring in
    sound-divided m valid face chain strings parcel label source can ring.0 ring.1

-- And the new parcel and what is left of the face add up to the face as it was.
pub divided-adds_up : (f : Measure) → IsOdd f → (m : Map) (face : Face) (chain strings : List ℕ) (parcel : ℕ) (label : List ℕ) (source : ℕ) → IsValid m → CanDivide m face chain strings parcel label source
    → IsSharedOut f m face parcel (divide m face chain strings parcel label source)
divided-adds_up f odd m face chain strings parcel label source valid can =
    let ring = cut_ring m face can.first can.last can.one_ring in
    adds_up-divided m valid face chain strings parcel label source can ring.0 ring.1 f odd
