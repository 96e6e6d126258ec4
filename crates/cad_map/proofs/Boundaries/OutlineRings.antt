-- The rings of an outline, as they are collected and in canonical order.
use Rattle.std.proofs.Common.{◌≡◌, sym, ap, ◌∙◌, refl, List, [], ◌∷◌, Bool, true, false, not, map, filter, pos}
use Rattle.std.specs.Prelude.{◌&&◌, int_lt}
use Rattle.geo_exact.specs.Measure.{doubled_area}
use Rattle.cad_rows.specs.declared.names.Face.{Face}
use Rattle.cad_rings.specs.Cycle.{Ring}
use Rattle.cad_rings.proofs.CallerLemmas.{ring_sum-same_ring, IsSameRing-sym, IsSameRing-least_rotation}
use Rattle.cad_map.specs.declared.boundary.Boundary.{Boundary}
use Rattle.cad_map.specs.Boundaries.{is_face, bounding, canonical_form, canonical_order}
use Rattle.cad_map.specs.Map.{Map, position_of, rings_at, rings_of, sum_of_ring}
use Rattle.cad_map.specs.Outline.{is_outer}
use Rattle.cad_map.proofs.Boundaries.FacesBeside.{is_face-same}
use Rattle.cad_map.proofs.Boundaries.OrderedParts.{canonical_order-filter}

-- a test of the rings of one face, as one of boundaries
abbrev of_face : Face → (Ring → Bool) → Boundary → Bool
of_face f test b = is_face f b.face && test b.ring

bounding-filter : (f : Face) (test : Ring → Bool) (bs : List Boundary) → map (bounding f) (filter test (rings_at f bs)) ≡ filter (of_face f test) bs
bounding-filter f test [] = refl
bounding-filter f test (b ∷ bs) = by (is_face f b.face) (test b.ring) refl refl (bounding-filter f test bs)
  where
    by : (s t : Bool) → is_face f b.face ≡ s → test b.ring ≡ t → map (bounding f) (filter test (rings_at f bs)) ≡ filter (of_face f test) bs → map (bounding f) (filter test (rings_at f (b ∷ bs))) ≡ filter (of_face f test) (b ∷ bs)
    by true true own passes rest = let same = is_face-same f b.face own in simp (own, passes) (λ i. record { face = same i; ring = b.ring } ∷ rest i)
    by true false own passes rest = simp (own, passes) rest
    by false t own passes rest = simp own rest

rings-bounding : (f : Face) (rings : List Ring) → map (λ b. b.ring) (map (bounding f) rings) ≡ rings
rings-bounding f [] = refl
rings-bounding f (r ∷ rings) = ap (λ (l : List Ring). r ∷ l) (rings-bounding f rings)

outer-canonical_form : (m : Map) (outer : Bool) (b : Boundary) → is_outer m outer (canonical_form b).ring ≡ is_outer m outer b.ring
outer-canonical_form m outer b = by outer
  where
    sums : sum_of_ring doubled_area m (canonical_form b).ring ≡ sum_of_ring doubled_area m b.ring
    sums = ring_sum-same_ring doubled_area (position_of m) (canonical_form b).ring b.ring (IsSameRing-sym b.ring (canonical_form b).ring (IsSameRing-least_rotation b.ring))

    by : (outer : Bool) → is_outer m outer (canonical_form b).ring ≡ is_outer m outer b.ring
    by true = ap (int_lt (pos 0)) sums
    by false = ap (λ z. not (int_lt (pos 0) z)) sums

-- those that are collected stand in canonical order as they stand among the rings of the face
pub collected-canonical_order : (m : Map) (f : Face) (outer : Bool) (bs : List Boundary) → canonical_order bs ≡ m.boundaries
    → map (λ b. b.ring) (canonical_order (map (bounding f) (filter (is_outer m outer) (rings_at f bs)))) ≡ filter (is_outer m outer) (rings_of m f)
collected-canonical_order m f outer bs is =
    let test = is_outer m outer in
    let rings = λ (l : List Boundary). map (λ (b : Boundary). b.ring) l in
    ap (λ (l : List Boundary). rings (canonical_order l)) (bounding-filter f test bs)
    ∙ ap rings (canonical_order-filter (of_face f test) (λ b. ap (λ (t : Bool). is_face f b.face && t) (outer-canonical_form m outer b)) bs)
    ∙ ap (λ (l : List Boundary). rings (filter (of_face f test) l)) is
    ∙ ap rings (sym (bounding-filter f test m.boundaries)) ∙ rings-bounding f (filter test (rings_of m f))
