-- The corners, sides and boundaries of a map with two strings joined.
use Rattle.std.proofs.Common.{◌≡◌, ◌≢◌, ℕ, ◌≤◌, ◌⊎◌, inl, inr, refl, sym, ap, subst, ◌∙◌, List, [], ◌∷◌, ◌++◌, length, map, filter, not, ◌==◌, None, arith}
use Rattle.std.proofs.lemmas.Bool.{eqb-true, eq-eqb, not-true}
use Rattle.std.proofs.lemmas.List.Elements.{Contains-append_cases, Contains-append_left, Contains-append_right}
use Rattle.std.proofs.lemmas.List.Sorted.{IsPermutation-sym, Contains-permutation}
use Rattle.std.specs.Prelude.{IsPermutation, flat_map}
use Rattle.std.specs.List.{AllByRecursion, Contains}
use Rattle.cad_rows.specs.declared.edits.Edit.TheVariants.{Join}
use Rattle.cad_rows.specs.declared.names.Face.{Face}
use Rattle.cad_rows.specs.declared.rows.StringRow.{StringRow}
use Rattle.cad_rings.specs.Cycle.{Ring, Side, sides_of, times_through, Corner, corners_along, corners_of}
use Rattle.cad_rings.specs.Surgery.{corner, without, StandsBetween}
use Rattle.cad_rings.proofs.CallerLemmas.{corners_of-without, without-none}
use Rattle.cad_map.specs.declared.boundary.Boundary.{Boundary}
use Rattle.cad_map.specs.Boundaries.{canonical_form, canonical_order, corners_in}
use Rattle.cad_map.specs.Map.{Map, all_sides, all_corners, far_end, strings_at}
use Rattle.cad_map.specs.Changes.{by_number, join, with_boundaries}
use Rattle.cad_map.specs.Effects.{after}
use Rattle.cad_map.specs.Refusals.{first_refusal}
use Rattle.cad_map.proofs.CallerLemmas.{allowed, two-joined, meet-at, All-join, corners_at, new_side, old_sides, sides-without, through-corners, Contains-cases, Contains-first, Contains-later, Contains-flat_map, Contains-in_part, Contains-map, All-at_each, All-from_each, Contains-filter, filter-Contains, map-Contains, beside, has_side-Contains, sides-once, corner-sides, dropped, differs, IsPermutation-canonical_order, corners_in-canonical_order, one_boundary, once-from_pairs}
use Rattle.cad_map.specs.Valid.{IsValid}
use Rattle.cad_map.specs.Views.{HasSide}
use Rattle.cad_map.proofs.CallerLemmas as maps
use Rattle.cad_laws.specs.Joining.{WasCorner, IsJoinedAt}
use Rattle.cad_laws.specs.Joining.WasCorner.{stood, before_first, before_second, behind_first, behind_second}
use Rattle.cad_laws.proofs.MapCorners.{two-sides}
use Rattle.cad_laws.proofs.PlacedFaces.{has-side_canonical, map-map}

-- the points of a corner are the ring's
corner-along : (P : ℕ → Type 0) (x y : ℕ) (points : List ℕ) → P x → P y → AllByRecursion P points
    → (c : Corner) → Contains (corners_along x y points) c → P c.before × P c.at × P c.after
corner-along P x y [] hx hy all c h = let low = h.1 in absurd (omega arith)
corner-along P x y (z ∷ points) hx hy all c h =
    elim (Contains-cases (corner x y z) (corners_along y z points) c h) [
      | inl is ↦ subst (λ (d : Corner). P d.before × P d.at × P d.after) is (hx, hy, all.0)
      | inr on ↦ corner-along P y z points hy all.0 all.1 c on
    ]

corner-points : (P : ℕ → Type 0) (ring : Ring) → AllByRecursion P ring → (c : Corner)
    → Contains (corners_of ring) c → P c.before × P c.at × P c.after
corner-points P [] all c h = let low = h.1 in absurd (omega arith)
corner-points P (a ∷ []) all c h = let low = h.1 in absurd (omega arith)
corner-points P (a ∷ b ∷ points) all c h =
    corner-along P a b (points ++ a ∷ b ∷ []) all.0 all.1.0
    (All-join P points (a ∷ b ∷ []) all.1.1 (all.0, (all.1.0, tt))) c h

module _ (m : Map) (valid : IsValid m) (p : ℕ) (s t : StringRow)
    (at : IsPermutation (strings_at m p) (s ∷ t ∷ [])) (others : Map) where
  abbrev a : ℕ
  a = far_end s p

  abbrev b : ℕ
  b = far_end t p

  abbrev bs : List Boundary
  bs = map (dropped p) m.boundaries

  abbrev made : Map
  made = with_boundaries bs others

  -- a corner of a ring without the point is one of the map without it
  put : (r : Boundary) (c : Corner) → Contains m.boundaries r
      → Contains (corners_of (without p r.ring)) c → Contains (all_corners made) c
  put r c there h =
      Contains-permutation (corners_in bs) (corners_in (canonical_order bs)) c (corners_in-canonical_order bs)
      (Contains-flat_map (λ (d : Boundary). corners_of d.ring) bs (dropped p r) c
      (Contains-map (dropped p) m.boundaries r there) h)

  no-point : (r : Boundary) (c : Corner) → Contains (corners_of (without p r.ring)) c
      → (c.before ≢ p) × (c.at ≢ p) × (c.after ≢ p)
  no-point r c h =
      corner-points (λ q. q ≢ p) (without p r.ring)
      (All-from_each (λ q. q ≢ p) (without p r.ring)
      (λ q k. differs q p (not-true _ (filter-Contains (λ q. not (q == p)) r.ring q k).1))) c h

  one-ring : (u : Side) (r q : Boundary) → Contains m.boundaries r → Contains m.boundaries q
      → Contains (sides_of r.ring) u → Contains (sides_of q.ring) u → r ≡ q
  one-ring u r q h k has too =
      one_boundary u m.boundaries r q
      (once-from_pairs (all_sides m) (sides-once m valid) u) h k has too

  sides-at : (r : Boundary) → Contains m.boundaries r → (c : Corner)
      → Contains (corners_of r.ring) c
      → Contains (sides_of r.ring) (c.before, c.at) × Contains (sides_of r.ring) (c.at, c.after)
  sides-at r there c h =
      corner-sides r.ring
      (All-at_each (λ b. 2 ≤ length b.ring) m.boundaries r (two-sides m valid) there) c h

  few-at : (r : Boundary) → Contains m.boundaries r → length (corners_at p r.ring) ≤ 1
  few-at r there =
      All-at_each (λ r. length (corners_at p r.ring) ≤ 1) m.boundaries r
      (maps.at-most-one m valid p s t at) there

  -- a side of a ring or a new one at its corner stands in the ring without the point, or is an old one at the corner
  side-left : (r : Boundary) → Contains m.boundaries r → (v : Side)
      → Contains (map (new_side p) (corners_at p r.ring) ++ sides_of r.ring) v
      → Contains (flat_map (old_sides p) (corners_at p r.ring)) v ⊎ Contains (sides_of (without p r.ring)) v
  side-left r there v has =
      let C = corners_at p r.ring in
      let moved =
      sides-without p r.ring
      (All-at_each (λ b. 2 ≤ length b.ring) m.boundaries r (two-sides m valid) there)
      (few-at r there) in
      Contains-append_cases (flat_map (old_sides p) C) (sides_of (without p r.ring)) v
      (Contains-permutation (map (new_side p) C ++ sides_of r.ring)
      (flat_map (old_sides p) C ++ sides_of (without p r.ring)) v moved has)

  through : (r : Boundary) → Contains m.boundaries r
      → times_through p r.ring ≡ length (corners_at p r.ring)
  through r there =
      through-corners p r.ring
      (All-at_each (λ b. 2 ≤ length b.ring) m.boundaries r (two-sides m valid) there)

  -- the sides that go have an end at the point
  at-an_end : (r : Boundary) (v : Side) → Contains (flat_map (old_sides p) (corners_at p r.ring)) v
      → v.0 ≢ p → v.1 ≢ p → ⊥
  at-an_end r v h zero one =
      let part = Contains-in_part (old_sides p) (corners_at p r.ring) v h in
      let c = part.0 in
      let here =
      eqb-true c.at p (filter-Contains (λ c. c.at == p) (corners_of r.ring) c part.1).1 in
      elim (Contains-cases (c.before, c.at) ((c.at, c.after) ∷ []) v part.2) [
        | inl e ↦ one (sym (ap (λ (v : Side). v.1) e) ∙ here)
        | inr l ↦ elim (Contains-cases (c.at, c.after) [] v l) [
          | inl e ↦ zero (sym (ap (λ (v : Side). v.0) e) ∙ here)
          | inr none ↦ let low = none.1 in absurd (omega arith)
        ]
      ]

  -- ---- The ring with a corner at the point

  module _ (w n : ℕ) (r : Boundary) (k : maps.IsThere m valid p s t at r (corner w p n))
      (w_away : w ≢ p) (n_away : n ≢ p) (two : w ≢ n) where
    abbrev d : Corner
    d = corner w p n

    among : Contains (corners_at p r.ring) d
    among = Contains-filter (λ c. c.at == p) (corners_of r.ring) d k.there (eq-eqb p p refl)

    between : StandsBetween w p n r.ring (without p r.ring)
    between = corners_of-without r.ring d k.there once long
      where
        once : times_through p r.ring ≡ 1
        once = let e = through r k.ring in let few = few-at r k.ring in let low =
            among.1 in omega (arith, e, few, low)

        long : 3 ≤ length r.ring
        long = All-at_each (λ b. 3 ≤ length b.ring) m.boundaries r valid.sound.v5.three k.ring

    abbrev u : ℕ
    u = between.u

    abbrev x : ℕ
    x = between.x

    abbrev with_it : List Corner
    with_it = corner u w n ∷ corner w n x ∷ corners_of r.ring

    abbrev without_it : List Corner
    without_it = corner u w p ∷ corner w p n ∷ corner p n x ∷ corners_of (without p r.ring)

    cases : (c : Corner) → Contains with_it c
        → (corner u w p ≡ c)
        ⊎ ((corner w p n ≡ c) ⊎ ((corner p n x ≡ c) ⊎ Contains (corners_of (without p r.ring)) c))
    cases c h =
        elim (Contains-cases (corner u w p)
        (corner w p n ∷ corner p n x ∷ corners_of (without p r.ring)) c
        (Contains-permutation with_it without_it c between.is h)) [
          | inl is ↦ inl is
          | inr h ↦
              elim (Contains-cases (corner w p n)
              (corner p n x ∷ corners_of (without p r.ring)) c h) [
                | inl is ↦ inr (inl is)
                | inr h ↦
                    inr (inr (Contains-cases (corner p n x) (corners_of (without p r.ring)) c h))
              ]
        ]

    old : (c : Corner) → Contains (corners_of r.ring) c → Contains with_it c
    old c h =
        Contains-later (corner u w n) (corner w n x ∷ corners_of r.ring) c
        (Contains-later (corner w n x) (corners_of r.ring) c h)

    first-new : Contains (corners_of (without p r.ring)) (corner u w n)
    first-new =
        elim (cases (corner u w n)
        (Contains-first (corner u w n) (corner w n x ∷ corners_of r.ring))) [
          | inl e ↦ absurd (n_away (sym (ap (λ (c : Corner). c.after) e)))
          | inr h ↦ elim h [
            | inl e ↦ absurd (w_away (sym (ap (λ (c : Corner). c.at) e)))
            | inr h ↦ elim h [
              | inl e ↦ absurd (two (sym (ap (λ (c : Corner). c.at) e)))
              | inr there ↦ there
            ]
          ]
        ]

    second-new : Contains (corners_of (without p r.ring)) (corner w n x)
    second-new =
        elim (cases (corner w n x)
        (Contains-later (corner u w n) (corner w n x ∷ corners_of r.ring) (corner w n x)
        (Contains-first (corner w n x) (corners_of r.ring)))) [
          | inl e ↦ absurd (two (ap (λ (c : Corner). c.at) e))
          | inr h ↦ elim h [
            | inl e ↦ absurd (n_away (sym (ap (λ (c : Corner). c.at) e)))
            | inr h ↦ elim h [
              | inl e ↦ absurd (w_away (sym (ap (λ (c : Corner). c.before) e)))
              | inr there ↦ there
            ]
          ]
        ]

    stays-here : (c : Corner) → Contains (corners_of r.ring) c → c.before ≢ p → c.at ≢ p
        → c.after ≢ p → Contains (all_corners made) c
    stays-here c h before here behind = elim (cases c (old c h)) [
      | inl e ↦ absurd (behind (sym (ap (λ (c : Corner). c.after) e)))
      | inr h ↦ elim h [
        | inl e ↦ absurd (here (sym (ap (λ (c : Corner). c.at) e)))
        | inr h ↦ elim h [
          | inl e ↦ absurd (before (sym (ap (λ (c : Corner). c.before) e)))
          | inr there ↦ put r c k.ring there
        ]
      ]
    ]

    -- the two corners beside the point
    old-cases : (c : Corner) → Contains without_it c
        → (corner u w n ≡ c) ⊎ ((corner w n x ≡ c) ⊎ Contains (corners_of r.ring) c)
    old-cases c h =
        elim (Contains-cases (corner u w n) (corner w n x ∷ corners_of r.ring) c
        (Contains-permutation without_it with_it c
        (IsPermutation-sym with_it without_it between.is) h)) [
          | inl is ↦ inl is
          | inr h ↦ inr (Contains-cases (corner w n x) (corners_of r.ring) c h)
        ]

    beside-point : Contains (corners_of r.ring) (corner u w p)
        × Contains (corners_of r.ring) (corner p n x)
    beside-point = (
      elim (old-cases (corner u w p) (Contains-first (corner u w p) later-ones)) [
        | inl e ↦ absurd (n_away (ap (λ (c : Corner). c.after) e))
        | inr h ↦ elim h [
          | inl e ↦ absurd (two (sym (ap (λ (c : Corner). c.at) e)))
          | inr there ↦ there
        ]
      ],
      elim (old-cases (corner p n x) (Contains-later (corner u w p) later-ones (corner p n x)
          (Contains-later (corner w p n) last-ones (corner p n x)
          (Contains-first (corner p n x) (corners_of (without p r.ring)))))) [
            | inl e ↦ absurd (two (ap (λ (c : Corner). c.at) e))
            | inr h ↦ elim h [
              | inl e ↦ absurd (w_away (ap (λ (c : Corner). c.before) e))
              | inr there ↦ there
            ]
          ],
    )
      where
        last-ones : List Corner
        last-ones = corner p n x ∷ corners_of (without p r.ring)

        later-ones : List Corner
        later-ones = corner w p n ∷ last-ones

    -- a corner of the ring without the point is one of the ring, or one of the two new ones
    comes-here : (c : Corner) → Contains (corners_of (without p r.ring)) c
        → Contains (corners_of r.ring) c ⊎ ((corner u w n ≡ c) ⊎ (corner w n x ≡ c))
    comes-here c h =
        let later =
        Contains-later (corner u w p) (corner w p n ∷ corner p n x ∷ rest) c
        (Contains-later (corner w p n) (corner p n x ∷ rest) c
        (Contains-later (corner p n x) rest c h)) in
        elim (old-cases c later) [
          | inl e ↦ inr (inl e)
          | inr h ↦ elim h [ inl e ↦ inr (inr e) | inr there ↦ inl there ]
        ]
      where
        rest : List Corner
        rest = corners_of (without p r.ring)

    own-sides : Contains (sides_of r.ring) (w, p) × Contains (sides_of r.ring) (p, n)
    own-sides = sides-at r k.ring d k.there

    -- a corner that has one of the ring's sides is one of the ring
    of-ring : (c : Corner) (s : Side)
        → ((q : Boundary) → Contains (corners_of q.ring) c → Contains m.boundaries q → Contains (sides_of q.ring) s)
        → Contains (sides_of r.ring) s → Contains (all_corners m) c → Contains (corners_of r.ring) c
    of-ring c s has own h =
        let part = Contains-in_part (λ (q : Boundary). corners_of q.ring) m.boundaries c h in
        subst (λ (q : Boundary). Contains (corners_of q.ring) c)
        (one-ring s part.0 r part.1 k.ring (has part.0 part.2 part.1) own) part.2

    -- what came before the point sees beyond it
    to : (y : ℕ) → Contains (all_corners m) (corner y w p)
        → Contains (all_corners made) (corner y w n)
    to y h =
        let here = of-ring (corner y w p) (w, p) (λ q at there.
        (sides-at q there (corner y w p) at).1) own-sides.0 h in
        elim (cases (corner y w p) (old (corner y w p) here)) [
          | inl e ↦
              put r (corner y w n) k.ring
              (subst (λ (q : ℕ). Contains (corners_of (without p r.ring)) (corner q w n))
              (ap (λ (c : Corner). c.before) e) first-new)
          | inr h ↦ elim h [
            | inl e ↦ absurd (w_away (sym (ap (λ (c : Corner). c.at) e)))
            | inr h ↦ elim h [
              | inl e ↦ absurd (two (sym (ap (λ (c : Corner). c.at) e)))
              | inr there ↦ absurd ((no-point r (corner y w p) there).2 refl)
            ]
          ]
        ]

    from : (y : ℕ) → Contains (all_corners m) (corner p n y)
        → Contains (all_corners made) (corner w n y)
    from y h =
        let here = of-ring (corner p n y) (p, n) (λ q at there.
        (sides-at q there (corner p n y) at).0) own-sides.1 h in
        elim (cases (corner p n y) (old (corner p n y) here)) [
          | inl e ↦ absurd (two (ap (λ (c : Corner). c.at) e))
          | inr h ↦ elim h [
            | inl e ↦ absurd (n_away (sym (ap (λ (c : Corner). c.at) e)))
            | inr h ↦ elim h [
              | inl e ↦
                  put r (corner w n y) k.ring
                  (subst (λ (q : ℕ). Contains (corners_of (without p r.ring)) (corner w n q))
                  (ap (λ (c : Corner). c.after) e) second-new)
              | inr there ↦ absurd ((no-point r (corner p n y) there).0 refl)
            ]
          ]
        ]

    -- and the side to the point leads beyond it
    forth : (f : Face) → HasSide m f (w, p) → HasSide made f (w, n)
    forth f has =
        let it = beside f (w, p) m.boundaries (has_side-Contains (w, p) _ has) in
        let same : it.boundary ≡ r =
        one-ring (w, p) it.boundary r it.there k.ring it.has own-sides.0 in
        let new =
        Contains-append_left (map (new_side p) (corners_at p r.ring)) (sides_of r.ring) (w, n)
        (Contains-map (new_side p) (corners_at p r.ring) d among) in
        elim (side-left r k.ring (w, n) new) [
          | inl gone ↦ absurd (at-an_end r (w, n) gone w_away n_away)
          | inr there ↦
              subst (λ (g : Face). HasSide made g (w, n))
              (sym (it.face ∙ ap (λ (q : Boundary). q.face) same))
              (has-side_canonical bs others (dropped p r) (w, n)
              (Contains-map (dropped p) m.boundaries r k.ring) there)
        ]

  -- ---- Any ring

  side-stays : (f : Face) (v : Side) → HasSide m f v → v.0 ≢ p → v.1 ≢ p → HasSide made f v
  side-stays f v has zero one =
      let it = beside f v m.boundaries (has_side-Contains v _ has) in
      let r = it.boundary in
      let new =
      Contains-append_right (map (new_side p) (corners_at p r.ring)) (sides_of r.ring) v it.has in
      elim (side-left r it.there v new) [
        | inl gone ↦ absurd (at-an_end r v gone zero one)
        | inr there ↦
            subst (λ (g : Face). HasSide made g v) (sym it.face)
            (has-side_canonical bs others (dropped p r) v
            (Contains-map (dropped p) m.boundaries r it.there) there)
      ]

  away-a : a ≢ p
  away-a = let k = maps.at-first m valid p s t at in maps.away m valid p s t at s k.0 k.1

  away-b : b ≢ p
  away-b = let k = maps.at-second m valid p s t at in maps.away m valid p s t at t k.0 k.1

  differ : a ≢ b
  differ = maps.differ m valid p s t at

  stays : (c : Corner) → Contains (all_corners m) c → c.before ≢ p → c.at ≢ p → c.after ≢ p
      → Contains (all_corners made) c
  stays c h before here behind =
      let part = Contains-in_part (λ (q : Boundary). corners_of q.ring) m.boundaries c h in
      by part.0 part.1 part.2 (corners_at p part.0.ring) refl
    where
      by : (r : Boundary) → Contains m.boundaries r → Contains (corners_of r.ring) c
          → (ds : List Corner) → corners_at p r.ring ≡ ds → Contains (all_corners made) c
      by r there in_ring [] is =
          put r c there
          (subst (λ (q : Ring). Contains (corners_of q) c)
          (sym (without-none p r.ring (through r there ∙ ap length is))) in_ring)
      by r there in_ring (d ∷ ds) is =
          let kept =
          filter-Contains (λ c. c.at == p) (corners_of r.ring) d
          (subst (λ (l : List Corner). Contains l d) (sym is) (Contains-first d ds)) in
          let k : maps.IsThere m valid p s t at r d =
          record { ring = there; there = kept.0; point = eqb-true d.at p kept.1 } in
          elim (maps.is-one m valid p s t at r d k) [
            | inl e ↦
                stays-here a b r
                (subst (maps.IsThere m valid p s t at r) e k) away-a away-b
                differ c in_ring before here behind
            | inr e ↦
                stays-here b a r (subst (maps.IsThere m valid p s t at r) e k) away-b away-a
                (λ same. differ (sym same)) c in_ring before here behind
          ]

  -- a corner of a ring without the point was one of the map
  was : (r : Boundary) → Contains m.boundaries r → (c : Corner)
      → Contains (corners_of (without p r.ring)) c → WasCorner m p a b c
  was r there c h = by (corners_at p r.ring) refl
    where
      in_map : (d : Corner) → Contains (corners_of r.ring) d → Contains (all_corners m) d
      in_map d k =
          Contains-flat_map (λ (q : Boundary). corners_of q.ring) m.boundaries r d there k

      -- one that came at an end of the strings is told by the corner that was there
      at-ends : (f g : ℕ) (it : maps.IsThere m valid p s t at r (corner f p g)) (f_away : f ≢ p)
          (g_away : g ≢ p) (other : f ≢ g)
          → (Contains (all_corners m) (corner (u f g r it f_away g_away other) f p)
          → WasCorner m p a b (corner (u f g r it f_away g_away other) f g))
          → (Contains (all_corners m) (corner p g (x f g r it f_away g_away other))
          → WasCorner m p a b (corner f g (x f g r it f_away g_away other)))
          → WasCorner m p a b c
      at-ends f g it f_away g_away other before behind =
          let both = beside-point f g r it f_away g_away other in
          elim (comes-here f g r it f_away g_away other c h) [
            | inl old ↦ stood c (in_map c old)
            | inr new ↦ elim new [
              | inl e ↦ subst (WasCorner m p a b) e (before (in_map _ both.0))
              | inr e ↦ subst (WasCorner m p a b) e (behind (in_map _ both.1))
            ]
          ]

      by : (ds : List Corner) → corners_at p r.ring ≡ ds → WasCorner m p a b c
      by [] is =
          stood c
          (in_map c (subst (λ (q : Ring). Contains (corners_of q) c)
          (without-none p r.ring (through r there ∙ ap length is)) h))
      by (d ∷ ds) is =
          let kept =
          filter-Contains (λ c. c.at == p) (corners_of r.ring) d
          (subst (λ (l : List Corner). Contains l d) (sym is) (Contains-first d ds)) in
          let k : maps.IsThere m valid p s t at r d =
          record { ring = there; there = kept.0; point = eqb-true d.at p kept.1 } in
          elim (maps.is-one m valid p s t at r d k) [
            | inl e ↦
                at-ends a b (subst (maps.IsThere m valid p s t at r) e k) away-a away-b differ
                (λ h. before_first _ h) (λ h. behind_second _ h)
            | inr e ↦
                at-ends b a (subst (maps.IsThere m valid p s t at r) e k) away-b away-a
                (λ same. differ (sym same)) (λ h. before_second _ h) (λ h. behind_first _ h)
          ]

  abbrev those : List Corner
  those = filter (λ c. c.at == p) (all_corners m)

  two-there : (c : Corner) → Contains (corner a p b ∷ corner b p a ∷ []) c → Contains those c
  two-there c h =
      Contains-permutation (corner a p b ∷ corner b p a ∷ []) those c
      (IsPermutation-sym those (corner a p b ∷ corner b p a ∷ [])
      (maps.the-corners m valid p s t at)) h

  first : Contains those (corner a p b)
  first = two-there (corner a p b) (Contains-first (corner a p b) (corner b p a ∷ []))

  second : Contains those (corner b p a)
  second =
      two-there (corner b p a)
      (Contains-later (corner a p b) (corner b p a ∷ []) (corner b p a)
      (Contains-first (corner b p a) []))

  -- each corner of the new map is one of a ring without the point
  made-of : (c : Corner) → Contains (all_corners made) c
      → (r : Boundary) × Contains m.boundaries r × Contains (corners_of (without p r.ring)) c
  made-of c h =
      let part =
      Contains-in_part (λ (d : Boundary). corners_of d.ring) bs c
      (Contains-permutation (corners_in (canonical_order bs)) (corners_in bs) c
      (IsPermutation-sym (corners_in bs) (corners_in (canonical_order bs)) (corners_in-canonical_order bs)) h) in
      let r = map-Contains (dropped p) m.boundaries part.0 part.1 in
      (r.0, r.1, subst (λ (d : Boundary). Contains (corners_of d.ring) c) (sym r.2) part.2)

  -- the two strings may be told in either order
  pub joined-at : IsJoinedAt m made p a b
  joined-at =
      let F = maps.in_ring-of m valid p s t at (corner a p b) first in
      let S = maps.in_ring-of m valid p s t at (corner b p a) second in
      let other : b ≢ a = λ same. differ (sym same) in
      record {
        apart = differ;
        first_there = (filter-Contains (λ c. c.at == p) (all_corners m) (corner a p b) first).0;
        second_there = (filter-Contains (λ c. c.at == p) (all_corners m) (corner b p a) second).0;
        at_point = λ c h is.
            let k = maps.in_ring-of m valid p s t at c
            (Contains-filter (λ c. c.at == p) (all_corners m) c h (eq-eqb c.at p is)) in
            maps.is-one m valid p s t at k.0 c k.1;
        gone = λ c h. let k = made-of c h in no-point k.0 c k.2;
        stays = stays;
        to_first = to a b F.0 F.1 away-a away-b differ;
        to_second = to b a S.0 S.1 away-b away-a other;
        from_first = from b a S.0 S.1 away-b away-a other;
        from_second = from a b F.0 F.1 away-a away-b differ;
        comes = λ c h. let k = made-of c h in was k.0 k.1 c k.2;
        side_stays = side-stays;
        side_forth = forth a b F.0 F.1 away-a away-b differ;
        side_back = forth b a S.0 S.1 away-b away-a other;
        boundaries =
            subst (λ (l : List Boundary). IsPermutation l (canonical_order bs))
            (map-map canonical_form (dropped p) m.boundaries) (IsPermutation-canonical_order bs);
      }

-- A join that isn't refused at once: the far ends of its two strings see each other.
pub join-at : (m : Map) (p new : ℕ) (s t : StringRow) → IsValid m
    → first_refusal m (Join p new) ≡ None → by_number (strings_at m p) ≡ s ∷ t ∷ []
    → IsJoinedAt m (after m (Join p new)) p (far_end s p) (far_end t p)
unfolding after
join-at m p new s t valid none are =
    let free = allowed m (Join p new) none in
    let two = meet-at m p (two-joined m p new free.not_degree_two) in
    let same : two.first ∷ two.second ∷ [] ≡ s ∷ t ∷ [] = sym two.are ∙ are in
    let one : two.first ≡ s = cc in
    let other : two.second ≡ t = cc in
    let at : IsPermutation (strings_at m p) (s ∷ t ∷ []) =
    subst (λ (q : StringRow × StringRow). IsPermutation (strings_at m p) (q.0 ∷ q.1 ∷ []))
    (λ i. (one i, other i)) two.at in
    joined-at m valid p s t at (join m p new)
