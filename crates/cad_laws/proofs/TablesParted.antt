-- Tables and a chain that comes or goes.
use Rattle.std.proofs.Common.{◌≡◌, ℕ, ◌≤◌, ◌⊎◌, inl, inr, refl, sym, ap, subst, ◌∙◌, List, [], ◌∷◌, ◌++◌, length, map, arith}
use Rattle.std.specs.List.{Contains}
use Rattle.cad_rings.specs.Cycle.{Ring, Side, is_side, opposite, sides_of, sides_along, Corner, corner_back, corners_of}
use Rattle.cad_rings.specs.Surgery.{corner, both_ways, sides_of_chain, corners_of_chain}
use Rattle.cad_rings.proofs.CallerLemmas.{sides_of_chain-is}
use Rattle.cad_rings.proofs.CutCorners.{last_of, between}
use Rattle.cad_map.specs.Chain.{start_of, next_of, end_of, last_but_one, inner_of}
use Rattle.cad_map.specs.Map.{Map, all_corners}
use Rattle.cad_map.specs.Rings.{HasWholeRings}
use Rattle.cad_map.specs.Views.{ComesAfter}
use Rattle.cad_map.proofs.CallerLemmas.{in_parts, times, times-cons, times-append, counted-Contains, map-Contains, Contains-cases, Contains-first, Contains-later, count-some, corner-sides, has_first, of_both_ways, in_both_ways, side_before, side_behind, sides-before, sides-behind, is_side-refl}
use Rattle.half_table.specs.declared.half.Half.{Half}
use Rattle.half_table.specs.Half.{twin}
use Rattle.half_table.specs.Rows.{HalfRows, next, origin_of}
use Rattle.cad_laws.specs.Parting.{IsParted, HasIsland}
use Rattle.cad_laws.specs.Local.{IsShown, side_by, beyond, IsLocal}
use Rattle.cad_laws.specs.Tables.{GoesOnParted, GoesOnWhole, GoesOnWith, GoesOnWithout}
use Rattle.cad_laws.proofs.MapCorners.{behind-one, before-one}
use Rattle.cad_laws.proofs.PartedCorners.{last-is}

module _ (m : Map) (rows : HalfRows) (local : IsLocal m rows) where
  -- the corner of a half and its next
  abbrev pub corner_of : Half → Corner
  corner_of h = corner (origin_of rows h) (origin_of rows (twin h)) (beyond rows h)

  -- its second side is the next half's
  pub next-side : (h : Half) → IsShown m h → side_behind (corner_of h) ≡ side_by rows (next rows h)
  next-side h shown = λ i. (sym (local.meets h shown) i, beyond rows h)

-- ---- A chain comes

module _ (whole parted : Map) (rows : HalfRows) (local : IsLocal whole rows)
    (rings : HasWholeRings whole) (chain : List ℕ) (first last : Corner)
    (it : IsParted whole parted chain first last) where
  -- a half whose next side is behind a corner goes on as that corner's first side does
  to-corner : (h : Half) → IsShown whole h → (c : Corner) → Contains (all_corners whole) c
      → side_by rows (next rows h) ≡ side_behind c → (at z : ℕ) → c.at ≡ at
      → ComesAfter parted (c.before, at) z → ComesAfter parted (side_by rows h) z
  to-corner h shown c there is at z at_is comes =
      let e = behind-one whole rings (corner_of whole rows local h) c
      (local.corners h shown) there (next-side whole rows local h shown ∙ is) in
      subst (λ (s : Side). ComesAfter parted s z)
      (λ i. (
        sym (ap (λ (c : Corner). c.before) e) i,
        (sym at_is ∙ sym (ap (λ (c : Corner). c.at) e)) i,
      )) comes

  pub goes-on_parted : GoesOnParted whole parted rows chain first last
  goes-on_parted = record {
    stays = λ h shown other far. it.stays (corner_of whole rows local h) (local.corners h shown)
        (λ e. other (sym (next-side whole rows local h shown) ∙ ap side_behind e))
        (λ e. far (sym (next-side whole rows local h shown) ∙ ap side_behind e));
    to_start = λ h shown is. to-corner h shown first it.first_there is _ _ it.first_at it.to_start;
    to_end = λ h shown is. to-corner h shown last it.last_there is _ _ it.last_at it.to_end;
  }

-- ---- Sides of a chain and its corners

-- a side is the first, or behind a corner
side-behind_corner : (a b : ℕ) (points : List ℕ) (s : Side)
    → Contains (sides_of_chain (a ∷ b ∷ points)) s
    → ((a, b) ≡ s)
    ⊎ ((d : Corner) × Contains (corners_of_chain (a ∷ b ∷ points)) d × (side_behind d ≡ s)
    × Contains (sides_of_chain (a ∷ b ∷ points)) (side_before d))
side-behind_corner a b [] s h = elim (Contains-cases (a, b) [] s h) [
  | inl e ↦ inl e
  | inr none ↦ let low = none.1 in absurd (omega arith)
]
side-behind_corner a b (z ∷ points) s h =
    elim (Contains-cases (a, b) (sides_of_chain (b ∷ z ∷ points)) s h) [
      | inl e ↦ inl e
      | inr on ↦ elim (side-behind_corner b z points s on) [
        | inl e ↦
            inr (
              corner a b z,
              Contains-first (corner a b z) (corners_of_chain (b ∷ z ∷ points)),
              e,
              Contains-first (a, b) (sides_of_chain (b ∷ z ∷ points)),
            )
        | inr d ↦
            inr (
              d.0,
              Contains-later (corner a b z) (corners_of_chain (b ∷ z ∷ points)) d.0 d.1,
              d.2,
              Contains-later (a, b) (sides_of_chain (b ∷ z ∷ points)) (side_before d.0) d.3,
            )
      ]
    ]

-- and it is the last, or before one
side-before_corner : (a : ℕ) (inner : List ℕ) (b : ℕ) (s : Side)
    → Contains (sides_along a inner b) s
    → ((last_of a inner, b) ≡ s) ⊎
    ((d : Corner) × Contains (between a inner b) d × (side_before d ≡ s)
    × Contains (sides_along a inner b) (side_behind d))
side-before_corner a [] b s h = elim (Contains-cases (a, b) [] s h) [
  | inl e ↦ inl e
  | inr none ↦ let low = none.1 in absurd (omega arith)
]
side-before_corner a (x ∷ []) b s h = elim (Contains-cases (a, x) ((x, b) ∷ []) s h) [
  | inl e ↦
      inr (
        corner a x b,
        Contains-first (corner a x b) [],
        e,
        Contains-later (a, x) ((x, b) ∷ [])
            (x, b) (Contains-first (x, b) []),
      )
  | inr on ↦ elim (Contains-cases (x, b) [] s on) [
    | inl e ↦ inl e
    | inr none ↦ let low = none.1 in absurd (omega arith)
  ]
]
side-before_corner a (x ∷ y ∷ inner) b s h =
    elim (Contains-cases (a, x) (sides_along x (y ∷ inner) b) s h) [
      | inl e ↦
          inr (
            corner a x y,
            Contains-first (corner a x y) (between x (y ∷ inner) b),
            e,
            Contains-later
                (a, x) (sides_along x (y ∷ inner) b) (x, y)
                (Contains-first (x, y) (sides_along y inner b)),
          )
      | inr on ↦ elim (side-before_corner x (y ∷ inner) b s on) [
        | inl e ↦ inl e
        | inr d ↦
            inr (
              d.0,
              Contains-later (corner a x y) (between x (y ∷ inner) b) d.0 d.1,
              d.2,
              Contains-later (a, x) (sides_along x (y ∷ inner) b) (side_behind d.0) d.3,
            )
      ]
    ]

-- ---- A chain goes

module _ (whole parted : Map) (rows : HalfRows) (local : IsLocal parted rows)
    (rings : HasWholeRings parted) (chain : List ℕ) (long : 2 ≤ length chain) (first last : Corner)
    (it : IsParted whole parted chain first last) where
  abbrev sides : List Side
  sides = sides_of_chain chain

  abbrev own : Half → Corner
  own h = corner_of parted rows local h

  entered : (h : Half) → IsShown parted h → (Contains (both_ways sides) (side_by rows h) → ⊥)
      → Contains (both_ways sides) (side_by rows (next rows h))
      → (side_by rows (next rows h) ≡ (start_of chain, next_of chain))
      ⊎ (side_by rows (next rows h) ≡ (end_of chain, last_but_one chain))
  entered h shown off on = elim (of_both_ways sides (side_by rows (next rows h)) on) [
    | inl forth ↦
        along (side_by rows (next rows h)) (next-side parted rows local h shown) forth chain refl
    | inr back ↦ against (side_by rows (next rows h)) (next-side parted rows local h shown) back
  ]
    where
      along : (s : Side) → side_behind (own h) ≡ s → Contains sides s → (l : List ℕ) → chain ≡ l
          → (s ≡ (start_of chain, next_of chain)) ⊎ (s ≡ (end_of chain, last_but_one chain))
      along s is there [] e = let k = ap length e in absurd (omega (arith, k, long))
      along s is there (x ∷ []) e = let k = ap length e in absurd (omega (arith, k, long))
      along s is there (x ∷ y ∷ points) e =
          elim (side-behind_corner x y points s
          (subst (λ (l : List ℕ). Contains (sides_of_chain l) s) e there)) [
            | inl same ↦ inl (sym same ∙ (λ i. (start_of (sym e i), next_of (sym e i))))
            | inr d ↦
                let in_chain =
                subst (λ (l : List ℕ). Contains (corners_of_chain l) d.0) (sym e) d.1 in
                let same : own h ≡ d.0 =
                behind-one parted rings (own h) d.0 (local.corners h shown) (it.along d.0 in_chain)
                (is ∙ sym d.2) in
                absurd (off
                (subst (Contains (both_ways sides)) (sym (ap side_before same))
                (in_both_ways sides (side_before d.0)
                (subst (λ (l : List ℕ). Contains (sides_of_chain l) (side_before d.0))
                (sym e) d.3)).0))
          ]

      against : (s : Side) → side_behind (own h) ≡ s → Contains sides (opposite s)
          → (s ≡ (start_of chain, next_of chain)) ⊎ (s ≡ (end_of chain, last_but_one chain))
      against s is there =
          let a = start_of chain in
          let z = end_of chain in
          let inner = inner_of chain in
          let parts : chain ≡ a ∷ inner ++ z ∷ [] = in_parts chain long in
          let written : sides ≡ sides_along a inner z =
          ap sides_of_chain parts ∙ sides_of_chain-is a inner z in
          elim (side-before_corner a inner z (opposite s)
          (subst (λ (l : List Side). Contains l (opposite s)) written there)) [
            | inl same ↦
                inr (ap opposite (sym same) ∙ (λ i.
                (z, (sym (ap last_but_one parts ∙ last-is a inner z)) i)))
            | inr d ↦
                let in_chain =
                subst (λ (l : List ℕ). Contains (corners_of_chain l) d.0) (sym parts) d.1 in
                let same : own h ≡ corner_back d.0 =
                behind-one parted rings (own h) (corner_back d.0) (local.corners h shown)
                (it.back d.0 in_chain) (is ∙ ap opposite (sym d.2)) in
                absurd (off
                (subst (Contains (both_ways sides)) (sym (ap side_before same))
                (in_both_ways sides (side_behind d.0)
                (subst (λ (l : List Side). Contains l (side_behind d.0))
                (sym written) d.3)).1))
          ]

  pub goes-on_whole : GoesOnWhole whole parted rows chain first last
  goes-on_whole = record {
    stays = λ h shown off next_off. it.joins (own h) (local.corners h shown) (λ on. elim on [
      | inl before ↦ off before
      | inr behind ↦
          next_off
          (subst (Contains (both_ways sides)) (next-side parted rows local h shown) behind)
    ]);
    to_start = λ h shown is.
        let c = corner first.before (start_of chain) (next_of chain) in
        let e : own h ≡ c =
        behind-one parted rings (own h) c (local.corners h shown) it.to_start
        (next-side parted rows local h shown ∙ is) in
        subst (Contains (all_corners whole))
        (λ i. corner (sym (ap (λ (d : Corner). d.before) e) i)
        ((it.first_at ∙ sym (ap (λ (d : Corner). d.at) e)) i) first.after) it.first_there;
    to_end = λ h shown is.
        let c = corner last.before (end_of chain) (last_but_one chain) in
        let e : own h ≡ c =
        behind-one parted rings (own h) c (local.corners h shown) it.to_end
        (next-side parted rows local h shown ∙ is) in
        subst (Contains (all_corners whole))
        (λ i. corner (sym (ap (λ (d : Corner). d.before) e) i)
        ((it.last_at ∙ sym (ap (λ (d : Corner). d.at) e)) i) last.after) it.last_there;
    after_start =
        λ g shown is.
        ap (λ (d : Corner).
        d.after)
        (before-one parted rings (own g) (corner (next_of chain) (start_of chain) first.after)
        (local.corners g shown) it.from_start is);
    after_end =
        λ g shown is.
        ap (λ (d : Corner).
        d.after)
        (before-one parted rings (own g) (corner (last_but_one chain) (end_of chain) last.after)
        (local.corners g shown) it.from_end is);
    enters = entered;
  }

-- ---- An island comes or goes

pub goes-on_with : (whole parted : Map) (rows : HalfRows) (ring : Ring) → IsLocal whole rows
    → HasIsland whole parted ring → GoesOnWith whole parted rows
goes-on_with whole parted rows ring local it h shown =
    it.stays (corner_of whole rows local h) (local.corners h shown)

-- a side of a ring is behind one of its corners
behind-some : (ring : Ring) → 2 ≤ length ring → (s : Side) → Contains (sides_of ring) s
    → (d : Corner) × Contains (corners_of ring) d × (side_behind d ≡ s)
behind-some ring two s h =
    let first = has_first ring two in
    let X = map side_behind (corners_of ring) in
    let e1 = times-cons s first.0 X in
    let e2 = times-append s (sides_of ring) (first.0 ∷ []) in
    let e3 = times-cons s first.0 [] in
    let e4 = ap (times s) (sides-behind ring first.0 two first.1) in
    let some = count-some (is_side s) (sides_of ring) s h (is_side-refl s) in
    map-Contains side_behind (corners_of ring) s
    (counted-Contains s X (omega (arith, e1, e2, e3, e4, some)))

before-some : (ring : Ring) → 2 ≤ length ring → (s : Side) → Contains (sides_of ring) s
    → (d : Corner) × Contains (corners_of ring) d × (side_before d ≡ s)
before-some ring two s h =
    map-Contains side_before (corners_of ring) s
    (subst (λ (l : List Side). Contains l s) (sym (sides-before ring two)) h)

module _ (whole parted : Map) (rows : HalfRows) (local : IsLocal parted rows)
    (rings : HasWholeRings parted) (ring : Ring) (two : 2 ≤ length ring)
    (it : HasIsland whole parted ring) where
  abbrev sides_round : List Side
  sides_round = sides_of ring

  abbrev own_of : Half → Corner
  own_of h = corner_of parted rows local h

  -- from elsewhere the island isn't entered
  never : (h : Half) → IsShown parted h → (Contains (both_ways sides_round) (side_by rows h) → ⊥)
      → Contains (both_ways sides_round) (side_by rows (next rows h)) → ⊥
  never h shown off on = elim (of_both_ways sides_round (side_by rows (next rows h)) on) [
    | inl forth ↦
        let d = behind-some ring two (side_by rows (next rows h)) forth in
        let same : own_of h ≡ d.0 =
        behind-one parted rings (own_of h) d.0 (local.corners h shown) (it.along d.0 d.1)
        (next-side parted rows local h shown ∙ sym d.2) in
        off (subst (Contains (both_ways sides_round)) (sym (ap side_before same))
        (in_both_ways sides_round (side_before d.0) (corner-sides ring two d.0 d.1).0).0)
    | inr back ↦
        let d = before-some ring two (opposite (side_by rows (next rows h))) back in
        let same : own_of h ≡ corner_back d.0 =
        behind-one parted rings (own_of h) (corner_back d.0) (local.corners h shown)
        (it.back d.0 d.1) (next-side parted rows local h shown ∙ ap opposite (sym d.2)) in
        off (subst (Contains (both_ways sides_round)) (sym (ap side_before same))
        (in_both_ways sides_round (side_behind d.0) (corner-sides ring two d.0 d.1).1).1)
  ]

  pub goes-on_without : GoesOnWithout whole parted rows ring
  goes-on_without h shown off = (
    it.joins (own_of h) (local.corners h shown)
        (λ on. elim on [
          | inl before ↦ off before
          | inr behind ↦
              never h shown off
              (subst (Contains (both_ways sides_round))
              (next-side parted rows local h shown) behind)
        ]),
    never h shown off,
  )
