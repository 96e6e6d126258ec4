-- The corners of a map whose face is divided along a chain.
use Rattle.std.proofs.Common.{◌≡◌, ℕ, ◌≤◌, sym, ap, subst, ◌∙◌, List, [], ◌∷◌, ◌++◌, append_assoc, length, map, filter, true, not, None, Some}
use Rattle.std.proofs.lemmas.List.Sorted.{IsPermutation-sym, IsPermutation-trans, IsPermutation-append_left, Contains-permutation}
use Rattle.std.proofs.lemmas.Option.{same_Some}
use Rattle.std.specs.Prelude.{IsPermutation, slice_index}
use Rattle.std.specs.List.{Contains}
use Rattle.cad_rows.specs.declared.names.Face.{Face}
use Rattle.cad_rows.specs.declared.names.Face.TheVariants.{Parcel}
use Rattle.cad_rows.specs.declared.edits.Edit.TheVariants.{Divide}
use Rattle.cad_rings.specs.Cycle.{Ring, Side, has_side, sides_of, sides_along, Corner, corners_of, turned}
use Rattle.cad_rings.specs.Surgery.{corner, left_ring, right_ring, sides_of_chain}
use Rattle.cad_rings.proofs.CallerLemmas.{IsCut, cut, corners_of-same, IsSameRing-turned, sides_of_chain-is}
use Rattle.cad_rings.proofs.CutCorners.{last_of, first_of}
use Rattle.cad_map.specs.declared.boundary.Boundary.{Boundary}
use Rattle.cad_map.specs.Boundaries.{bounding, canonical_order, corners_in}
use Rattle.cad_map.specs.Map.{Map, all_sides, all_corners, rings_of}
use Rattle.cad_map.specs.Chain.{start_of, next_of, end_of, last_but_one, inner_of, leaving, chosen_corner, strings_along}
use Rattle.cad_map.specs.Division.{place_of, hole_placed}
use Rattle.cad_map.specs.Changes.{divide, with_boundaries, with_new_parcel}
use Rattle.cad_map.specs.Effects.{after}
use Rattle.cad_map.specs.Refusals.{first_refusal}
use Rattle.cad_map.specs.Asked.{GivesInRange}
use Rattle.cad_map.specs.Valid.{IsValid}
use Rattle.cad_map.proofs.CallerLemmas.{allowed, can-divide, IsChosen, face-ring, IsOnlyIn, CanDivide, IsCutRing, cut_ring, Contains-in_part, All-at_each, has_side-Contains, sides-once, corner-sides, corners_in-canonical_order, one_boundary, ring-walked, whole_valid, IsWalked, once-from_pairs}
use Rattle.cad_map.proofs.CallerLemmas as maps
use Rattle.cad_map.specs.Steps.{next_side}
use Rattle.cad_laws.specs.Parting.{IsOn, IsParted}
use Rattle.cad_laws.proofs.PartedCorners.{ends-there, whole, parted, is_parted}
use Rattle.cad_laws.proofs.MapCorners.{off-sides, two-sides, behind-only, place-begins, parts-among, corners-holes_placed}

-- a corner of a face whose side a ring has is that ring's
in-ring : (m : Map) → IsValid m → (face : Face) (at w : ℕ) (c : Corner)
    → IsChosen m face at w c → (b : Boundary) → Contains m.boundaries b
    → has_side (leaving c) (sides_of b.ring) ≡ true → Contains (corners_of b.ring) c
in-ring m valid face at w c is b there has =
    let part = Contains-in_part corners_of (rings_of m face) c is.there in
    let r = face-ring m face part.0 part.1 in
    let here : Contains (corners_of r.0.ring) c =
    subst (λ (k : Ring). Contains (corners_of k) c) (sym r.3) part.2 in
    let two = All-at_each (λ b. 2 ≤ length b.ring) m.boundaries r.0 (two-sides m valid) r.1 in
    let side = (corner-sides r.0.ring two c here).1 in
    let one : r.0 ≡ b =
    one_boundary (leaving c) m.boundaries r.0 b
    (once-from_pairs (all_sides m) (sides-once m valid) (leaving c)) r.1 there side
    (has_side-Contains (leaving c) (sides_of b.ring) has) in
    subst (λ (d : Boundary). Contains (corners_of d.ring) c) one here

module _ (m : Map) (valid : IsValid m) (face : Face) (chain strings : List ℕ) (parcel : ℕ)
    (label : List ℕ) (source : ℕ) (can : CanDivide m face chain strings parcel label source)
    (b : Boundary) (ring : IsCutRing m face can.first can.last b) where
  abbrev inner : List ℕ
  inner = inner_of chain

  abbrev i : ℕ
  i = place_of (leaving can.first) b.ring

  abbrev j : ℕ
  j = place_of (leaving can.last) b.ring

  abbrev A : ℕ
  A = slice_index b.ring i

  abbrev Z : ℕ
  Z = slice_index b.ring j

  abbrev k : IsCut i j inner b.ring
  k = cut i j inner b.ring (maps.two m valid face chain strings parcel label source can b ring)

  abbrev pub others : List Boundary
  others = filter (λ c. not (has_side (leaving can.first) (sides_of c.ring))) m.boundaries

  abbrev rest : List Corner
  rest = corners_in others

  abbrev first : Corner
  first = corner (last_of Z k.ys) A (first_of k.xs Z)

  abbrev last : Corner
  last = corner (last_of A k.xs) Z (first_of k.ys A)

  -- the corners at the two places are the chosen ones
  round_i : (c : Corner) → Contains (corners_of (A ∷ k.xs ++ Z ∷ k.ys)) c
      → Contains (corners_of b.ring) c
  round_i c h =
      Contains-permutation (corners_of (turned i b.ring)) (corners_of b.ring) c
      (IsPermutation-sym (corners_of b.ring) (corners_of (turned i b.ring))
      (corners_of-same b.ring (turned i b.ring) (IsSameRing-turned i b.ring)))
      (subst (λ (l : List ℕ). Contains (corners_of l) c) (sym k.round) h)

  abbrev walked : IsWalked (next_side m) b.ring
  walked = ring-walked m (whole_valid m valid) b ring.there

  first-is : first ≡ can.first
  first-is =
      behind-only b.ring walked.two walked.once first can.first
      (round_i first (ends-there A k.xs Z k.ys).0)
      (in-ring m valid face (start_of chain) (next_of chain) can.first
      (maps.at_first m valid face chain strings parcel label source can)
      b ring.there ring.has_first)
      (sym (place-begins (leaving can.first) b.ring ring.has_first A k.xs Z k.ys k.round))

  last-is : last ≡ can.last
  last-is =
      behind-only b.ring walked.two walked.once last can.last
      (round_i last (ends-there A k.xs Z k.ys).1)
      (in-ring m valid face (end_of chain) (last_but_one chain) can.last
      (maps.at_last m valid face chain strings parcel label source can)
      b ring.there ring.has_last)
      (sym (place-begins (leaving can.last) b.ring ring.has_last Z k.ys A k.xs k.round_back))

  only : IsOnlyIn (leaving can.first) m.boundaries b
  only = maps.only m valid face chain strings parcel label source can b ring

  before-is : IsPermutation (whole A k.xs Z k.ys inner rest) (all_corners m)
  before-is =
      let C = corners_of (A ∷ k.xs ++ Z ∷ k.ys) in
      let turn : IsPermutation C (corners_of b.ring) =
      subst (λ (l : List ℕ). IsPermutation (corners_of l) (corners_of b.ring)) k.round
      (IsPermutation-sym (corners_of b.ring) (corners_of (turned i b.ring))
      (corners_of-same b.ring (turned i b.ring) (IsSameRing-turned i b.ring))) in
      let among : IsPermutation (all_corners m) (corners_of b.ring ++ rest) =
      subst (λ (bs : List Boundary). IsPermutation (corners_in bs) (corners_of b.ring ++ rest))
      (sym only.whole)
      (subst (λ (bs : List Boundary).
      IsPermutation (corners_in (only.front ++ b ∷ only.back))
      (corners_of b.ring ++ corners_in bs)) (sym only.others)
      (parts-among (λ (c : Boundary). corners_of c.ring) only.front b only.back)) in
      IsPermutation-trans (C ++ rest) (corners_of b.ring ++ rest) (all_corners m)
      (IsPermutation-append_left rest C (corners_of b.ring) turn)
      (IsPermutation-sym (all_corners m) (corners_of b.ring ++ rest) among)

  abbrev L : Ring
  L = left_ring i j inner b.ring

  abbrev new : Map
  new = divide m face chain strings parcel label source

  abbrev pub placed : List Boundary
  placed =
      bounding (Parcel parcel) L ∷ bounding face (right_ring i j inner b.ring) ∷ map
      (hole_placed m face (Parcel parcel) L) others

  pub new-is : new ≡ with_boundaries placed
      (with_new_parcel (strings_along (source ∷ []) strings chain) parcel label source m)
  new-is = maps.divide-is m valid face chain strings parcel label source can b ring

  after-is : IsPermutation (parted A k.xs Z k.ys inner rest) (all_corners new)
  after-is =
      let L1 = corners_of (A ∷ inner ++ Z ∷ k.ys) in
      let R1 = corners_of (Z ∷ Rattle.std.specs.Prelude.reverse inner ++ A ∷ k.xs) in
      let same : corners_in placed ≡ (L1 ++ R1) ++ rest =
      (λ t. corners_of (k.left t) ++
      (corners_of (k.right t) ++ corners-holes_placed m face (Parcel parcel) L others t))
      ∙ sym (append_assoc L1 R1 rest) in
      subst (λ (n : Map). IsPermutation ((L1 ++ R1) ++ rest) (all_corners n)) (sym new-is)
      (subst (λ (l : List Corner). IsPermutation l (corners_in (canonical_order placed))) same
      (corners_in-canonical_order placed))

  free : (c : Corner) → Contains (all_corners m) c → IsOn (sides_along A inner Z) c → ⊥
  free c h on =
      let across = maps.across m valid face chain strings parcel label source can b ring in
      let sides : sides_along A inner Z ≡ sides_of_chain chain =
      sym (sides_of_chain-is A inner Z) ∙ ap sides_of_chain across in
      off-sides m.boundaries (two-sides m valid) (sides_of_chain chain)
      (maps.new-side m valid face chain strings parcel label source can)
      (maps.new-side_back m valid face chain strings parcel label source can) c h
      (subst (λ (l : List Side). IsOn l c) sides on)

  parted-divided : IsParted m new chain can.first can.last
  parted-divided =
      let across = maps.across m valid face chain strings parcel label source can b ring in
      subst (λ (t : List ℕ × Corner × Corner). IsParted m new t.0 t.1 t.2)
      (λ t. (across t, first-is t, last-is t))
      (is_parted A k.xs Z k.ys inner rest m new before-is after-is free)

-- what holds of the corners that a division finds in one ring holds of the chosen ones
pub of-chosen : (m : Map) (face : Face) (chain strings : List ℕ) (parcel : ℕ) (label : List ℕ)
    (source : ℕ) (first last : Corner)
    → GivesInRange (Divide face chain strings parcel label source)
    → first_refusal m (Divide face chain strings parcel label source) ≡ None
    → chosen_corner m face (start_of chain) (next_of chain) ≡ Some first
    → chosen_corner m face (end_of chain) (last_but_one chain) ≡ Some last
    → (P : Corner → Corner → Type 0)
    → ((can : CanDivide m face chain strings parcel label source) (b : Boundary)
    → IsCutRing m face can.first can.last b → P can.first can.last) → P first last
of-chosen m face chain strings parcel label source first last given none is_a is_z P each =
    let can =
    can-divide m face chain strings parcel label source given
    (allowed m (Divide face chain strings parcel label source) none) in
    let ring = cut_ring m face can.first can.last can.one_ring in
    let e1 = same_Some can.first first (sym can.at_first ∙ is_a) in
    let e2 = same_Some can.last last (sym can.at_last ∙ is_z) in
    subst (λ (t : Corner × Corner). P t.0 t.1) (λ t. (e1 t, e2 t)) (each can ring.0 ring.1)

-- A division that is not refused parts the two chosen corners.
pub divided-parted : (m : Map) (face : Face) (chain strings : List ℕ) (parcel : ℕ) (label : List ℕ)
    (source : ℕ) (first last : Corner) → IsValid m
    → GivesInRange (Divide face chain strings parcel label source)
    → first_refusal m (Divide face chain strings parcel label source) ≡ None
    → chosen_corner m face (start_of chain) (next_of chain) ≡ Some first
    → chosen_corner m face (end_of chain) (last_but_one chain) ≡ Some last
    → IsParted m (after m (Divide face chain strings parcel label source)) chain first last
unfolding after
divided-parted m face chain strings parcel label source first last valid given none is_a is_z =
    of-chosen m face chain strings parcel label source first last given none is_a is_z
    (IsParted m (divide m face chain strings parcel label source) chain)
    (λ can b ring. parted-divided m valid face chain strings parcel label source can b ring)
