-- Where all halves are linked, the table goes with the map; and a cycle that gets the face of its ring.
use Rattle.std.proofs.Common.{◌≡◌, ◌≢◌, ℕ, ◌≤◌, Bool, true, false, List, [], ◌∷◌, map, length, refl, sym, ap, ◌∙◌, subst, arith, Option, Some, None, true≢false}
use Rattle.std.specs.Prelude.{unwrap_or, ◌||◌}
use Rattle.std.specs.List.{Contains}
use Rattle.cad_rows.specs.declared.names.Face.{Face}
use Rattle.cad_rings.specs.Cycle.{Ring, Side, sides_of, opposite, IsSameRing}
use Rattle.cad_rings.proofs.CallerLemmas.{IsSameRing-sym}
use Rattle.cad_map.specs.declared.boundary.Boundary.{Boundary}
use Rattle.cad_map.specs.Map.{Map, all_sides, string_sides, side_of, point_after}
use Rattle.cad_map.specs.Rings.{HasWholeRings}
use Rattle.cad_map.specs.Steps.{next_side}
use Rattle.cad_map.specs.Views.{ComesAfter, HasSide}
use Rattle.cad_map.proofs.CallerLemmas.{All-follows, Contains-first, Contains-later, Contains-map, Contains-flat_map, Contains-in_part, map-Contains, Contains-has_side, point_after-some, point_after-none, side-same}
use Rattle.std.proofs.lemmas.List.Sorted.{Contains-permutation}
use Rattle.map_parts.proofs.WholeStrings.{two-ends, strings-once}
use Rattle.half_table.specs.declared.half.Half.{Half}
use Rattle.half_table.specs.Half.{is_half, twin, half_of}
use Rattle.half_table.specs.Cycle.{holds}
use Rattle.half_table.specs.Rows.{HalfRows, IsLinked, next, origin_of, face, cycle}
use Rattle.half_table.specs.Surgery.{Relabels}
use Rattle.half_table.proofs.Halves.{is_half-same}
use Rattle.map_parts.specs.declared.stars.Spoke.{Spoke}
use Rattle.key_lists.specs.Held.{Held}
use Rattle.cad_laws.specs.Local.{IsShown, side_by, IsLocal}
use Rattle.map_parts.specs.Building.{HoldsStrings}
use Rattle.map_parts.specs.Labels.{IsOnRing, IsLabelled}
use Rattle.map_parts.proofs.RingsOfHalves.{cycle-same_ring}
use Rattle.map_parts.proofs.CycleRings.{cycle-each, cycle-sides}
use Rattle.map_parts.proofs.PartsRings.{found-row, rings_at-there}
use Rattle.map_parts.proofs.ToHalves.{side-half_of}
use Rattle.map_parts.proofs.Strings.{with_stars}

-- ---- All halves are linked

-- the next side makes a corner
pub next-corner : (m : Map) → HasWholeRings m → (s : Side) → Contains (all_sides m) s → ComesAfter m s (next_side m s).1
next-corner m whole s there = by (point_after s m.boundaries) refl
  where
    by : (o : Option ℕ) → point_after s m.boundaries ≡ o → ComesAfter m s (unwrap_or (point_after s m.boundaries) 0)
    by None is =
        let two = All-follows (λ b. 3 ≤ length b.ring) (λ b. 2 ≤ length b.ring) (λ b h. omega (arith, h)) m.boundaries whole.v5.three in
        absurd (true≢false (sym (Contains-has_side s (all_sides m) there) ∙ point_after-none s m.boundaries two is))
    by (Some w) is = subst (λ (o : Option ℕ). ComesAfter m s (unwrap_or o 0)) (sym is) (point_after-some s m.boundaries w is)

module _ (m : Map) (whole : HasWholeRings m) (rows : HalfRows) (held : Held Spoke) (st : HoldsStrings m rows held) where
  -- a half of the map's strings has a side of its rings
  pub half-among : (h : Half) → IsShown m h → Contains (all_sides m) (side_by rows h)
  half-among h shown =
      let row = found-row m.strings h.string shown in
      let d = with_stars m rows held in
      let on = subst (λ (g : Half). Contains (side_of row.0 ∷ opposite (side_of row.0) ∷ []) (side_by rows g)) (λ i. half_of (row.2 i) h.forward)
      (side-half_of d st.ends (two-ends m whole) (strings-once m whole) row.0 row.1 h.forward) in
      Contains-permutation (string_sides m) (all_sides m) (side_by rows h) whole.v5.once (Contains-flat_map (λ t. side_of t ∷ opposite (side_of t) ∷ []) m.strings row.0 (side_by rows h) row.1 on)

-- ---- The cycle of a half, in a table that goes with the map

pub any-there : (h : Half) (xs : List Half) → holds xs h ≡ true → Contains xs h
any-there h [] held = absurd (true≢false (sym held))
any-there h (x ∷ xs) held = by (is_half h x) refl held (λ rest. any-there h xs rest)
  where
    by : (b : Bool) → is_half h x ≡ b → (is_half h x || holds xs h) ≡ true → (holds xs h ≡ true → Contains xs h) → Contains (x ∷ xs) h
    by true is held again = subst (Contains (x ∷ xs)) (sym (is_half-same h x is)) (Contains-first x xs)
    by false is held again = Contains-later x xs h (again (rw is at held))

module _ (m : Map) (whole : HasWholeRings m) (rows : HalfRows) (local : IsLocal m rows) (two : (h : Half) → IsShown m h → origin_of rows h ≢ origin_of rows (twin h))
    (b : Boundary) (there : Contains m.boundaries b) (h : Half) (on : IsOnRing m rows b h) where
  abbrev ring : Ring
  ring = map (origin_of rows) (cycle rows h)

  same : IsSameRing b.ring ring
  same = cycle-same_ring m rows whole local h on.shown b there on.side

  shown-on : (g : Half) → Contains (cycle rows h) g → IsShown m g
  shown-on g among = cycle-each rows local.linked h (local.there h on.shown) (IsShown m) local.inside on.shown g among

  sides : sides_of ring ≡ map (λ g. (origin_of rows g, origin_of rows (next rows g))) (cycle rows h)
  sides = cycle-sides rows local.linked h (local.there h on.shown) (λ e. two h on.shown (sym (ap (origin_of rows) e) ∙ local.meets h on.shown))

  pub cycle-on : (g : Half) → Contains (cycle rows h) g → IsOnRing m rows b g
  cycle-on g among =
      let found = Contains-map (λ (g : Half). (origin_of rows g, origin_of rows (next rows g))) (cycle rows h) g among in
      let has = subst (Contains (map (λ (g : Half). (origin_of rows g, origin_of rows (next rows g))) (cycle rows h))) (λ i. (origin_of rows g, local.meets g (shown-on g among) i)) found in
      record { shown = shown-on g among; side = side-same ring b.ring (side_by rows g) (IsSameRing-sym b.ring ring same) (subst (λ (l : List Side). Contains l (side_by rows g)) (sym sides) has) }

  pub on-cycle : (g : Half) → IsOnRing m rows b g → Contains (cycle rows h) g
  on-cycle g it =
      let has = side-same b.ring ring (side_by rows g) same it.side in
      let found = map-Contains (λ (g : Half). (origin_of rows g, origin_of rows (next rows g))) (cycle rows h) (side_by rows g) (subst (λ (l : List Side). Contains l (side_by rows g)) sides has) in
      let along = shown-on found.0 found.1 in
      let side : side_by rows found.0 ≡ side_by rows g = sym (λ i. (origin_of rows found.0, local.meets found.0 along i)) ∙ found.2 in
      subst (Contains (cycle rows h)) (local.apart found.0 g along it.shown side) found.1

  -- ---- It gets the face of the ring

  module _ (new : HalfRows) (linked : IsLinked new) (labels : Relabels (cycle rows h) b.face rows new) where
    same-side : (g : Half) → side_by new g ≡ side_by rows g
    same-side g = λ i. (labels.origin g i, labels.origin (twin g) i)

    pub label-local : IsLocal m new
    label-local = record {
      linked = linked;
      there = λ g shown. labels.has g ∙ local.there g shown;
      inside = λ g shown. subst (IsShown m) (sym (labels.next g)) (local.inside g shown);
      meets = λ g shown. ap (origin_of new) (labels.next g) ∙ labels.origin (next rows g) ∙ local.meets g shown ∙ sym (labels.origin (twin g));
      corners = λ g shown.
          let e : origin_of new (twin (next new g)) ≡ origin_of rows (twin (next rows g)) = ap (λ (x : Half). origin_of new (twin x)) (labels.next g) ∙ labels.origin (twin (next rows g)) in
          subst (λ (s : Side). ComesAfter m s (origin_of new (twin (next new g)))) (sym (same-side g)) (subst (λ (w : ℕ). ComesAfter m (side_by rows g) w) (sym e) (local.corners g shown));
      apart = λ f g one other same. local.apart f g one other (sym (same-side f) ∙ same ∙ same-side g);
    }

-- where all rings are labelled, the face of each half has its side
pub faced : (m : Map) (whole : HasWholeRings m) (rows : HalfRows) (held : Held Spoke) → HoldsStrings m rows held → ((b : Boundary) → Contains m.boundaries b → IsLabelled m rows b) → (h : Half) → IsShown m h → HasSide m (face rows h) (side_by rows h)
faced m whole rows held st all h shown =
    let part = Contains-in_part (λ b. sides_of b.ring) m.boundaries (side_by rows h) (half-among m whole rows held st h shown) in
    let b = part.0 in
    let e = all b part.1 h (record { shown = shown; side = part.2 }) in
    subst (λ (f : Face). HasSide m f (side_by rows h)) (sym e) (Contains-has_side (side_by rows h) _ (Contains-flat_map sides_of _ b.ring (side_by rows h) (rings_at-there m.boundaries b part.1) part.2))
