-- A table that goes with a valid map half by half fits it.
use Rattle.std.proofs.Common.{◌≡◌, ℕ, List, map, sym, ap, ◌∙◌, subst}
use Rattle.std.specs.List.{Contains}
use Rattle.std.proofs.lemmas.Option.{same_Some}
use Rattle.std.proofs.lemmas.List.Sorted.{IsPermutation-sym, Contains-permutation}
use Rattle.cad_rows.specs.declared.names.Face.{Face}
use Rattle.cad_rings.specs.Cycle.{Ring, Side, sides_of, IsSameRing}
use Rattle.cad_rings.proofs.CallerLemmas.{IsSameRing-sym}
use Rattle.cad_map.specs.declared.boundary.Boundary.{Boundary}
use Rattle.cad_map.specs.Map.{Map}
use Rattle.cad_map.specs.Rings.{HasWholeRings}
use Rattle.cad_map.proofs.CallerLemmas.{Contains-map, All-at_each, map-Contains, side-same}
use Rattle.cad_laws.proofs.CallerLemmas.{one-ring, face-told}
use Rattle.map_parts.proofs.WholeStrings.{two-ends}
use Rattle.half_table.specs.declared.half.Half.{Half}
use Rattle.half_table.specs.Rows.{HalfRows, next, origin_of, face, cycle}
use Rattle.cad_laws.specs.Local.{IsShown, side_by, IsLocal}
use Rattle.map_parts.specs.KeptRings.{IsKept, KeepsRings}
use Rattle.map_parts.specs.Parts.{Parts, FitTogether, IsOnKeptCycle, map_of, kept_halves}
use Rattle.map_parts.specs.Fits.{FitRings, with_rings}
use Rattle.map_parts.proofs.RingsOfHalves.{cycle-ring, cycle-same_ring, rings-canonical}
use Rattle.map_parts.proofs.PartsRings.{half-two}
use Rattle.map_parts.proofs.CycleRings.{cycle-each, cycle-sides}

module _ (d : Parts) (bs : List Boundary) (whole : HasWholeRings (with_rings d bs)) (fits : FitRings d bs) where
  abbrev m : Map
  m = with_rings d bs

  abbrev rows : HalfRows
  rows = d.table.rows

  abbrev nx : Half → Half
  nx = next rows

  abbrev o : Half → ℕ
  o = origin_of rows

  local : IsLocal m rows
  local = fits.local

  keeps : KeepsRings m rows (kept_halves d)
  keeps = fits.kept

  -- ends of a half differ, as its side is one of a ring with three points
  other : (h : Half) → IsShown m h → nx h ≡ h → ⊥
  other h shown same = half-two d fits.ends (two-ends m whole) h shown (sym (ap o same) ∙ fits.local.meets h shown)

  module _ (k : Face × Half) (kept : Contains (kept_halves d) k) where
    it : IsKept m rows fits.kept.homes k
    it = All-at_each (IsKept m rows fits.kept.homes) (kept_halves d) k fits.kept.each kept

    abbrev home : Boundary
    home = fits.kept.homes k.1

    abbrev ring : Ring
    ring = map o (cycle rows k.1)

    same : IsSameRing home.ring ring
    same = cycle-same_ring m rows whole fits.local k.1 it.is_shown home it.there it.has

    shown-on : (g : Half) → Contains (cycle rows k.1) g → IsShown m g
    shown-on g among = cycle-each rows fits.local.linked k.1 (fits.local.there k.1 it.is_shown) (IsShown m) fits.local.inside it.is_shown g among

    sides : sides_of ring ≡ map (λ g. (o g, o (nx g))) (cycle rows k.1)
    sides = cycle-sides rows fits.local.linked k.1 (fits.local.there k.1 it.is_shown) (other k.1 it.is_shown)

    side-there : (g : Half) → Contains (cycle rows k.1) g → Contains (sides_of home.ring) (side_by rows g)
    side-there g among =
        let has = Contains-map (λ (g : Half). (o g, o (nx g))) (cycle rows k.1) g among in
        let on = subst (Contains (map (λ (g : Half). (o g, o (nx g))) (cycle rows k.1))) (λ i. (o g, fits.local.meets g (shown-on g among) i)) has in
        side-same ring home.ring (side_by rows g) (IsSameRing-sym home.ring ring same) (subst (λ (l : List Side). Contains l (side_by rows g)) (sym sides) on)

    -- all halves of its cycle have its face
    one-face : (g : Half) → Contains (cycle rows k.1) g → face rows g ≡ k.0
    one-face g among =
        let told = face-told m whole (face rows g) (side_by rows g) (fits.faces g (shown-on g among)) in
        let is = one-ring m whole (side_by rows g) home it.there (side-there g among) in
        same_Some (face rows g) home.face (sym told ∙ is) ∙ it.face

    -- a half with a side of its ring is on the cycle
    on-cycle : (h : Half) → IsShown m h → Contains (sides_of home.ring) (side_by rows h) → Contains (cycle rows k.1) h
    on-cycle h shown has =
        let on = side-same home.ring ring (side_by rows h) same has in
        let found = map-Contains (λ (g : Half). (o g, o (nx g))) (cycle rows k.1) (side_by rows h) (subst (λ (l : List Side). Contains l (side_by rows h)) sides on) in
        let along = shown-on found.0 found.1 in
        let side : side_by rows found.0 ≡ side_by rows h = sym (λ i. (o found.0, fits.local.meets found.0 along i)) ∙ found.2 in
        subst (Contains (cycle rows k.1)) (fits.local.apart found.0 h along shown side) found.1

  home-of : (h : Half) → IsShown m h → IsOnKeptCycle d h
  home-of h shown =
      let ring = cycle-ring m rows whole fits.local h shown in
      let among = Contains-permutation bs (map (λ (k : Face × Half). fits.kept.homes k.1) (kept_halves d)) ring.boundary (IsPermutation-sym (map (λ (k : Face × Half). fits.kept.homes k.1) (kept_halves d)) bs fits.kept.all) ring.there in
      let found = map-Contains (λ (k : Face × Half). fits.kept.homes k.1) (kept_halves d) ring.boundary among in
      record {
        kept = found.0;
        there = found.1;
        on = on-cycle found.0 found.1 h shown (subst (λ (b : Boundary). Contains (sides_of b.ring) (side_by rows h)) (sym found.2) ring.has);
      }

  pub fit-together : FitTogether d
  fit-together = record {
    linked = fits.local.linked;
    numbers = whole.v1.strings.distinct;
    parcel_numbers = whole.v1.parcels.distinct;
    two_ends = (two-ends m whole);
    ends = fits.ends;
    inside = fits.local.inside;
    meets = fits.local.meets;
    shown = λ k kept. (it k kept).is_shown;
    faces = λ k kept h on. one-face k kept h on;
    homes = home-of;
    no_face = fits.no_face;
    stars = fits.stars;
  }

  pub map-is : map_of d ≡ with_rings d bs
  map-is = ap (with_rings d) (rings-canonical m rows whole fits.local (kept_halves d) fits.kept)
