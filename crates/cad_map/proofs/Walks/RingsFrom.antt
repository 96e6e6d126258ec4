-- A walk that begins at any side of a ring, and which sides it meets.
use Rattle.std.proofs.Common.{◌≡◌, ℕ, ◌+◌, ◌*◌, ◌≤◌, refl, sym, ap, subst, ◌∙◌, List, [], ◌∷◌, ◌++◌, length, map, drop, take, Option, Some, Bool, true, false, arith, slice_get, length-append}
use Rattle.std.specs.Prelude.{◌&&◌, flat_map, IsPermutation}
use Rattle.std.specs.List.{Contains, list_any}
use Rattle.std.specs.Iterator.{Yields}
use Rattle.std.proofs.lemmas.Option.{slice_get_read}
use Rattle.std.proofs.lemmas.List.Sorted.{IsPermutation-refl, IsPermutation-sym, IsPermutation-trans, IsPermutation-append, Contains-permutation}
use Rattle.cad_rows.specs.declared.names.Face.{Face}
use Rattle.cad_rings.specs.Cycle.{Ring, Side, has_side, sides_of, Corner, corners_of, turned, IsSameRing}
use Rattle.cad_rings.proofs.CallerLemmas.{sides_of-turned, sides_of-same, corners_of-same, IsSameRing-turned, length-turned, length-sides_of}
use Rattle.cad_map.specs.declared.boundary.Boundary.{Boundary}
use Rattle.cad_map.specs.Boundaries.{bounding, sides_in, corners_in}
use Rattle.cad_map.specs.Map.{Map, rings_of, face_corners, all_sides, all_corners}
use Rattle.cad_map.specs.Rings.{HasWholeRings}
use Rattle.cad_map.specs.Chain.{leaving}
use Rattle.cad_map.specs.Walk.{first_side, Walking, sides_ahead, GoesOn, GivesNext, IsOnRing}
use Rattle.cad_map.proofs.Lists.EachElement.{All-map, All-follows, drop-at}
use Rattle.cad_map.proofs.Lists.Elements.{Contains-map, Contains-in_part, All-at_each, list_any-Contains}
use Rattle.cad_map.proofs.Lists.ElementFacts.{list_any-none}
use Rattle.cad_map.proofs.Walks.Counted.{times-permuted}
use Rattle.cad_map.proofs.Walks.AlongRing.{once-from_pairs, AreRingsOf, on_ring-begins, on_ring-yields, on_ring-ends, on_ring-side, on_ring-Contains}
use Rattle.cad_map.proofs.Boundaries.FacesBeside.{has_side-Contains, Contains-has_side}
use Rattle.cad_map.proofs.Walks.ChosenCorners.{face-ring}
use Rattle.cad_map.proofs.Parcels.CutSides.{only-in}
use Rattle.cad_map.proofs.Boundaries.RingsOfMap.{ring-sides-few}
use Rattle.cad_map.proofs.Walks.FirstCorners.{two-each, distinct-whole}
use Rattle.cad_map.proofs.Edits.JoinedRings.{corner-sides}

-- ---- Each ring from another place on

-- the ring from its place k on
abbrev from_place : ℕ → Boundary → Boundary
from_place k b = bounding b.face (turned k b.ring)

-- what a ring has wherever it is written from, all of them have
module _ {A : Type 0} (k : ℕ) (parts : Boundary → List A) (kept : (b : Boundary) → IsPermutation (parts b) (parts (from_place k b))) where
  parts-from : (bs : List Boundary) → IsPermutation (flat_map parts bs) (flat_map parts (map (from_place k) bs))
  parts-from [] = IsPermutation-refl []
  parts-from (b ∷ bs) = IsPermutation-append (parts b) (parts (from_place k b)) (flat_map parts bs) (flat_map parts (map (from_place k) bs)) (kept b) (parts-from bs)

sides-from : (k : ℕ) (bs : List Boundary) → IsPermutation (sides_in bs) (sides_in (map (from_place k) bs))
sides-from k bs = parts-from k (λ b. sides_of b.ring) (λ b. sides_of-same b.ring (turned k b.ring) (IsSameRing-turned k b.ring)) bs

corners-from : (k : ℕ) (bs : List Boundary) → IsPermutation (corners_in bs) (corners_in (map (from_place k) bs))
corners-from k bs = parts-from k (λ b. corners_of b.ring) (λ b. corners_of-same b.ring (turned k b.ring) (IsSameRing-turned k b.ring)) bs

rings-from : (m : Map) (k : ℕ) (bs : List Boundary) → AreRingsOf m bs → AreRingsOf m (map (from_place k) bs)
rings-from m k bs rings =
    let new = map (from_place k) bs in
    record {
      sides = IsPermutation-trans (sides_in new) (sides_in bs) (all_sides m) (IsPermutation-sym (sides_in bs) (sides_in new) (sides-from k bs)) rings.sides;
      corners = IsPermutation-trans (corners_in new) (corners_in bs) (all_corners m) (IsPermutation-sym (corners_in bs) (corners_in new) (corners-from k bs)) rings.corners;
      distinct = record {
        two = All-map (λ b. 2 ≤ length b.ring) (from_place k) bs (All-follows (λ b. 2 ≤ length b.ring) (λ b. 2 ≤ length (turned k b.ring)) (λ b h. let e = length-turned k b.ring in omega (arith, e, h)) bs rings.distinct.two);
        once = λ s. let few = rings.distinct.once s in let same = times-permuted s (sides_in bs) (sides_in new) (sides-from k bs) in omega (arith, few, same);
      };
    }

-- a ring whose sides begin with one has it first
first-is : (s : Side) (ring : Ring) (others : List Side) → sides_of ring ≡ s ∷ others → first_side ring ≡ Some s
first-is s [] others is = cc
first-is s (a ∷ []) others is = let e : (a, a) ∷ [] ≡ s ∷ others = is in let same : (a, a) ≡ s = cc in ap Some same
first-is s (a ∷ b ∷ points) others is = let same : (a, b) ≡ s = cc in ap Some same

-- ---- The walk from a side of a face's ring

module _ (m : Map) (whole : HasWholeRings m) (face : Face) (s : Side) (ring : Ring) (there : Contains (rings_of m face) ring) (has : Contains (sides_of ring) s) where
  abbrev own : (b : Boundary) × Contains m.boundaries b × (face ≡ b.face) × (b.ring ≡ ring)
  own = face-ring m face ring there

  abbrev k : ℕ
  k = has.0

  -- the ring, written from the side on
  abbrev pub ring_on : Ring
  ring_on = turned k own.0.ring

  on-same : IsPermutation (sides_of ring) (sides_of ring_on)
  on-same = subst (λ (r : Ring). IsPermutation (sides_of r) (sides_of ring_on)) own.3 (sides_of-same own.0.ring ring_on (IsSameRing-turned k own.0.ring))

  pub begins-from : first_side ring_on ≡ Some s
  begins-from =
      let at : slice_get (sides_of ring) k ≡ Some s = slice_get_read (sides_of ring) (length (sides_of ring)) k s refl has.1 (sym has.2) in
      let on = sides_of-turned k own.0.ring ∙ ap (λ (r : Ring). drop k (sides_of r) ++ take k (sides_of r)) own.3 ∙ ap (λ (l : List Side). l ++ take k (sides_of ring)) (drop-at (sides_of ring) k s at) in
      first-is s ring_on (drop (k + 1) (sides_of ring) ++ take k (sides_of ring)) on

  abbrev bs : List Boundary
  bs = map (from_place k) m.boundaries

  rings : AreRingsOf m bs
  rings = rings-from m k m.boundaries (record { sides = IsPermutation-refl (all_sides m); corners = IsPermutation-refl (all_corners m); distinct = distinct-whole m whole })

  among : Contains bs (from_place k own.0)
  among = Contains-map (from_place k) m.boundaries own.0 own.1

  -- what it has given since it began
  pub walked-from : {S : Type 0} (at : S → Walking) (follower : Side → Option ℕ) (begun t : S) → at begun ≡ record { map = m; follower = follower; first = s; most = 2 * length m.strings; at = Some s }
      → (xs : List Side) → Yields (λ s r t. GivesNext (at s) r (at t)) begun xs t → IsOnRing m ring_on xs (at t)
  walked-from at follower begun t stands xs gives =
      let few = ring-sides-few m m.boundaries whole whole.v1.canonical (two-each m whole) own.0 own.1 in
      let long = length-sides_of ring_on in
      let same = length-turned k own.0.ring in
      let old = length-sides_of own.0.ring in
      let room : length (sides_of ring_on) ≤ (at begun).most = let e = ap (λ (w : Walking). w.most) stands in omega (arith, few, long, same, old, e) in
      on_ring-yields m bs rings (from_place k own.0) among at [] begun xs t gives
      (on_ring-begins m bs rings (from_place k own.0) among s (at begun) begins-from room (ap (λ (w : Walking). w.map) stands) (ap (λ (w : Walking). w.first) stands) (ap (λ (w : Walking). w.at) stands))

  -- each side that it gives is one of the ring's
  pub walked-on_ring : (given : List Side) (w : Walking) (t : Side) (v : Walking) → IsOnRing m ring_on given w → GoesOn w t v → Contains (sides_of ring) t
  walked-on_ring given w t v on goes =
      Contains-permutation (sides_of ring_on) (sides_of ring) t (IsPermutation-sym (sides_of ring) (sides_of ring_on) on-same) (on_ring-Contains m bs rings (from_place k own.0) among given w t on goes.here)

  -- with that side it has given no more than the strings have
  pub few-from : (given : List Side) (w : Walking) (t : Side) (v : Walking) → IsOnRing m ring_on given w → GoesOn w t v → length (given ++ t ∷ []) ≤ 400000
  few-from given w t v on goes =
      let side = on_ring-side m bs rings (from_place k own.0) among given w t on goes.here in
      let few = ring-sides-few m m.boundaries whole whole.v1.canonical (two-each m whole) own.0 own.1 in
      let long = length-sides_of ring_on in
      let same = length-turned k own.0.ring in
      let old = length-sides_of own.0.ring in
      let one = ap length side.1 in
      let all = length-append given (t ∷ side.0) in
      let now = length-append given (t ∷ []) in
      let most = whole.v1.few_strings in
      omega arith

  -- at its end it has given the sides of the ring, written from the side on
  pub all-from : (given : List Side) (w : Walking) → IsOnRing m ring_on given w → sides_ahead w ≡ [] → given ≡ sides_of ring_on
  all-from given w on none = on_ring-ends m bs rings (from_place k own.0) among given w on none

  -- which is the same ring
  pub same-from : IsSameRing ring ring_on
  same-from = subst (λ (r : Ring). IsSameRing r ring_on) own.3 (IsSameRing-turned k own.0.ring)

  -- so each of them
  pub walked-round : (given : List Side) (w : Walking) → IsOnRing m ring_on given w → sides_ahead w ≡ [] → (t : Side) → Contains (sides_of ring) t → Contains given t
  walked-round given w on none t h =
      subst (λ (l : List Side). Contains l t) (sym (all-from given w on none)) (Contains-permutation (sides_of ring) (sides_of ring_on) t on-same h)

  -- it is the map's only ring with the side
  pub only-from : (b : Boundary) → Contains m.boundaries b → Contains (sides_of b.ring) s → b.ring ≡ ring
  only-from b h k =
      let once = once-from_pairs (all_sides m) whole.once s in
      let one = (only-in s m.boundaries b h k once).ring in
      let two = (only-in s m.boundaries own.0 own.1 (subst (λ (q : Ring). Contains (sides_of q) s) (sym own.3) has) once).ring in
      sym one ∙ two ∙ own.3

  -- ---- Two sides in one ring

  abbrev both_in : Side → Ring → Bool
  both_in t r = has_side s (sides_of r) && has_side t (sides_of r)

  pub in_one_ring : (t : Side) → Contains (sides_of ring) t → list_any (both_in t) (rings_of m face) ≡ true
  in_one_ring t h = list_any-Contains (both_in t) (rings_of m face) ring there (λ i. Contains-has_side s (sides_of ring) has i && Contains-has_side t (sides_of ring) h i)

  -- the side is in no other ring of the face
  only : (r : Ring) → Contains (rings_of m face) r → Contains (sides_of r) s → r ≡ ring
  only r h k =
      let other = face-ring m face r h in
      sym other.3 ∙ only-from other.0 other.1 (subst (λ (q : Ring). Contains (sides_of q) s) (sym other.3) k)

  pub in_two_rings : (t : Side) → has_side t (sides_of ring) ≡ false → list_any (both_in t) (rings_of m face) ≡ false
  in_two_rings t missed = list_any-none (both_in t) (rings_of m face) (λ r h. by r h (has_side s (sides_of r)) refl)
    where
      by : (r : Ring) → Contains (rings_of m face) r → (b : Bool) → has_side s (sides_of r) ≡ b → both_in t r ≡ false
      by r h true is = (λ i. is i && has_side t (sides_of r)) ∙ ap (λ (q : Ring). has_side t (sides_of q)) (only r h (has_side-Contains s (sides_of r) is)) ∙ missed
      by r h false is = ap (λ (b : Bool). b && has_side t (sides_of r)) is

-- the ring of a corner, which the side that leaves the corner is in
pub ring-of_corner : (m : Map) → HasWholeRings m → (face : Face) (c : Corner) → Contains (face_corners m face) c → (ring : Ring) × Contains (rings_of m face) ring × Contains (sides_of ring) (leaving c)
ring-of_corner m whole face c h =
    let part = Contains-in_part corners_of (rings_of m face) c h in
    let b = face-ring m face part.0 part.1 in
    let long : 2 ≤ length part.0 = subst (λ (r : Ring). 2 ≤ length r) b.3 (All-at_each (λ b. 2 ≤ length b.ring) m.boundaries b.0 (two-each m whole) b.1) in
    (part.0, part.1, (corner-sides part.0 long c part.2).1)
