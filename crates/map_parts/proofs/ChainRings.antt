-- The rings that a chain parts, and which halves are on them.
use Rattle.std.proofs.Common.{IsPermutation, ◌≡◌, ◌≢◌, ◌⊎◌, ℕ, ◌≤◌, Bool, true, false, List, [], ◌∷◌, ◌++◌, map, length, refl, sym, ap, ◌∙◌, subst, inl, inr}
use Rattle.std.specs.List.{Contains}
use Rattle.std.proofs.lemmas.List.Elements.{Contains-append_left, Contains-append_right, Contains-append_cases}
use Rattle.std.proofs.lemmas.List.Sorted.{Contains-permutation, IsPermutation-sym, IsPermutation-trans, IsPermutation-middle}
use Rattle.cad_rows.specs.declared.names.Face.{Face}
use Rattle.cad_rings.specs.Cycle.{Side, sides_of, Corner}
use Rattle.cad_rings.specs.Surgery.{both_ways, sides_of_chain}
use Rattle.cad_map.specs.Chain.{start_of, next_of, end_of, last_but_one}
use Rattle.cad_map.specs.declared.boundary.Boundary.{Boundary}
use Rattle.cad_map.specs.Map.{Map}
use Rattle.cad_map.specs.Merger.{handed_over}
use Rattle.cad_map.specs.Rings.{HasWholeRings}
use Rattle.cad_map.proofs.CallerLemmas.{Contains-cases, Contains-first, Contains-later, Contains-map, map-Contains}
use Rattle.half_table.specs.declared.half.Half.{Half}
use Rattle.half_table.specs.Half.{twin}
use Rattle.half_table.specs.Rows.{HalfRows, origin_of}
use Rattle.half_table.proofs.Halves.{twin-twin}
use Rattle.half_paths.specs.Path.{strings_of, last_of}
use Rattle.half_paths.specs.Loose.{is_of}
use Rattle.cad_laws.specs.Local.{IsShown, side_by, IsLocal}
use Rattle.map_parts.specs.Labels.{IsOnRing}
use Rattle.map_parts.specs.Paths.{AreAlong, HasStringsMore}
use Rattle.map_parts.specs.Chains.{IsChainOf}
use Rattle.map_parts.proofs.AlongPaths.{on-path}
use Rattle.map_parts.proofs.RingCycles.{one-on}
use Rattle.map_parts.proofs.IslandTable.{more-old, more-new, more-rest}
use Rattle.map_parts.proofs.RingsOnce.{stands-once}
use Rattle.map_parts.proofs.ChainTable.{off-chain}

-- a map has these rings, and the others
pub record HasRings (m : Map) (left right : Boundary) (others : List Boundary) : Type 0 where
  pub has_left : Contains m.boundaries left
  pub has_right : Contains m.boundaries right
  pub has_other : (b : Boundary) → Contains others b → Contains m.boundaries b

pub has-rings : {m : Map} {left right : Boundary} {others : List Boundary} → IsPermutation m.boundaries (left ∷ right ∷ others) → HasRings m left right others
has-rings {m} {left} {right} {others} were = record {
  has_left = back left (Contains-first left (right ∷ others));
  has_right = back right (Contains-later left (right ∷ others) right (Contains-first right others));
  has_other = λ b among. back b (Contains-later left (right ∷ others) b (Contains-later right others b among));
}
  where
    back : (b : Boundary) → Contains (left ∷ right ∷ others) b → Contains m.boundaries b
    back b = Contains-permutation (left ∷ right ∷ others) m.boundaries b (IsPermutation-sym m.boundaries (left ∷ right ∷ others) were)

module _ (whole parted : Map) (outer inner : Face) (chain : List ℕ) (fc lc : Corner) (one left right : Boundary) (others : List Boundary)
    (it : IsChainOf whole parted outer inner chain fc lc one left right others) where
  abbrev handed : Boundary → Boundary
  handed = handed_over outer inner

  ins : HasRings parted left right others
  ins = has-rings it.were

  pub one-in : Contains whole.boundaries one
  one-in = Contains-permutation (one ∷ map handed others) whole.boundaries one it.are (Contains-first one (map handed others))

  pub handed-in : (b : Boundary) → Contains others b → Contains whole.boundaries (handed b)
  handed-in b among = Contains-permutation (one ∷ map handed others) whole.boundaries (handed b) it.are (Contains-later one (map handed others) (handed b) (Contains-map handed others b among))

  pub parted-cases : (b : Boundary) → Contains parted.boundaries b → (left ≡ b) ⊎ ((right ≡ b) ⊎ Contains others b)
  parted-cases b there = elim (Contains-cases left (right ∷ others) b (Contains-permutation parted.boundaries (left ∷ right ∷ others) b it.were there)) [
    | inl same ↦ inl same
    | inr later ↦ inr (Contains-cases right others b later)
  ]

  pub whole-cases : (b : Boundary) → Contains whole.boundaries b → (one ≡ b) ⊎ ((c : Boundary) × Contains others c × (handed c ≡ b))
  whole-cases b there =
      elim (Contains-cases one (map handed others) b (Contains-permutation whole.boundaries (one ∷ map handed others) b (IsPermutation-sym (one ∷ map handed others) whole.boundaries it.are) there)) [
        | inl same ↦ inl same
        | inr later ↦ inr (map-Contains handed others b later)
      ]

  pub hands-differ : left ≢ right
  hands-differ same = it.differ (sym it.right_face ∙ ap (λ (b : Boundary). b.face) (sym same) ∙ it.left_face)

  pub not-one : HasWholeRings whole → (c : Boundary) → Contains others c → one ≢ handed c
  not-one rings c among same =
      stands-once whole rings one (map handed others) (IsPermutation-sym (one ∷ map handed others) whole.boundaries it.are) (subst (Contains (map handed others)) (sym same) (Contains-map handed others c among))

  module _ (parts : HasWholeRings parted) where
    pub not-left : (c : Boundary) → Contains others c → left ≢ c
    not-left c among same = stands-once parted parts left (right ∷ others) it.were (subst (Contains (right ∷ others)) (sym same) (Contains-later right others c among))

    pub not-right : (c : Boundary) → Contains others c → right ≢ c
    not-right c among same =
        stands-once parted parts right (left ∷ others)
        (IsPermutation-trans parted.boundaries (left ∷ right ∷ others) (right ∷ left ∷ others) it.were (IsPermutation-middle (left ∷ []) right others))
        (subst (Contains (left ∷ others)) (sym same) (Contains-later left others c among))

    module _ (long : 2 ≤ length chain) (first : Half) (rest : List Half) (more : HasStringsMore whole parted (first ∷ rest)) (rows : HalfRows) (along : AreAlong rows (first ∷ rest) (sides_of_chain chain)) where
      -- the path's first half is on the left ring, and its twin on the right one
      first_side_in : Contains (sides_of_chain chain) (side_by rows first)
      first_side_in = subst (λ (l : List Side). Contains l (side_by rows first)) along (Contains-map (side_by rows) (first ∷ rest) first (Contains-first first rest))

      pub first-on : IsOnRing parted rows left first
      first-on = record {
        shown = more-new whole parted (first ∷ rest) more first (Contains-first first rest);
        side = it.along (side_by rows first) first_side_in;
      }

      pub back-on : IsOnRing parted rows right (twin first)
      back-on = record {
        shown = first-on.shown;
        side = subst (Contains (sides_of right.ring)) (λ i. (origin_of rows (twin first), origin_of rows (sym (twin-twin first) i))) (it.back (side_by rows first) first_side_in);
      }

      -- the halves of the ring that is cut are on the two rings
      pub two-rings : (h : Half) → IsShown whole h → Contains (sides_of one.ring) (side_by rows h) → IsOnRing parted rows left h ⊎ IsOnRing parted rows right h
      two-rings h shown had =
          let both = both_ways (sides_of_chain chain) in
          let now = more-old whole parted (first ∷ rest) more h shown in
          elim (Contains-append_cases (sides_of left.ring) (sides_of right.ring) (side_by rows h)
          (Contains-permutation (both ++ sides_of one.ring) (sides_of left.ring ++ sides_of right.ring) (side_by rows h)
          (IsPermutation-sym (sides_of left.ring ++ sides_of right.ring) (both ++ sides_of one.ring) it.hands) (Contains-append_right both (sides_of one.ring) (side_by rows h) had))) [
            | inl a ↦ inl (record { shown = now; side = a })
            | inr b ↦ inr (record { shown = now; side = b })
          ]

      -- and the two rings have no others of the first map
      pub one-ring : IsLocal parted rows → side_by rows first ≡ (start_of chain, next_of chain) → side_by rows (last_of first rest) ≡ (last_but_one chain, end_of chain)
          → (h : Half) → IsShown whole h → IsOnRing parted rows left h ⊎ IsOnRing parted rows right h → Contains (sides_of one.ring) (side_by rows h)
      one-ring local first_side last_side h shown on =
          let both = both_ways (sides_of_chain chain) in
          elim (Contains-append_cases both (sides_of one.ring) (side_by rows h)
          (Contains-permutation (sides_of left.ring ++ sides_of right.ring) (both ++ sides_of one.ring) (side_by rows h) it.hands (either on))) [
            | inl chained ↦ absurd (off-chain whole parted chain long fc lc it.corners parts rows first rest more local along first_side last_side h shown chained)
            | inr had ↦ had
          ]
        where
          either : IsOnRing parted rows left h ⊎ IsOnRing parted rows right h → Contains (sides_of left.ring ++ sides_of right.ring) (side_by rows h)
          either (inl a) = Contains-append_left (sides_of left.ring) (sides_of right.ring) (side_by rows h) a.side
          either (inr b) = Contains-append_right (sides_of left.ring) (sides_of right.ring) (side_by rows h) b.side

      -- a half of the path is on the left ring, and its twin on the right one
      pub path-rings : (h : Half) → IsShown parted h → is_of (strings_of (first ∷ rest)) h ≡ true → IsOnRing parted rows left h ⊎ IsOnRing parted rows right h
      path-rings h shown on = elim (on-path (first ∷ rest) h on) [
        | inl forth ↦ inl (record { shown = shown; side = it.along (side_by rows h) (chained h forth) })
        | inr back ↦ inr (record {
          shown = shown;
          side = subst (Contains (sides_of right.ring)) (λ i. (origin_of rows (twin-twin h i), origin_of rows (twin h))) (it.back (side_by rows (twin h)) (chained (twin h) back));
        })
      ]
        where
          chained : (g : Half) → Contains (first ∷ rest) g → Contains (sides_of_chain chain) (side_by rows g)
          chained g among = subst (λ (l : List Side). Contains l (side_by rows g)) along (Contains-map (side_by rows) (first ∷ rest) g among)

      -- so the halves of the other rings are of the first map
      pub other-shown : (c : Boundary) → Contains others c → (h : Half) → IsOnRing parted rows c h → IsShown whole h
      other-shown c among h on = by (is_of (strings_of (first ∷ rest)) h) refl
        where
          by : (t : Bool) → is_of (strings_of (first ∷ rest)) h ≡ t → IsShown whole h
          by false away = more-rest whole parted (first ∷ rest) more h on.shown away
          by true of = elim (path-rings h on.shown of) [
            | inl a ↦ absurd (not-left c among (one-on parted parts rows left c ins.has_left (ins.has_other c among) h a on))
            | inr b ↦ absurd (not-right c among (one-on parted parts rows right c ins.has_right (ins.has_other c among) h b on))
          ]
