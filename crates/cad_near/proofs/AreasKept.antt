-- The area of a face with one ring tells the rules that its rings keep.
use Rattle.std.proofs.Common.{◌≡◌, ◌≢◌, ◌∙◌, ℕ, sym, ap, refl, subst, List, [], ◌∷◌, length}
use Rattle.std.proofs.Common.{Bool, true, false, true≢false, ℤ, get_or, Option, IfSome, arith}
use Rattle.std.proofs.lemmas.List.{append-nil}
use Rattle.std.specs.Prelude.{◌==◌, ◌&&◌, flat_map}
use Rattle.std.specs.Ordering.{int_eq}
use Rattle.std.proofs.lemmas.Bool.{and_parts}
use Rattle.std.proofs.lemmas.Cmp.{int_eq_equiv}
use Rattle.std.proofs.lemmas.Bool.Decides.{Decides-int_eq}
use Rattle.geo_exact.specs.Measure.{doubled_area, sum_over}
use Rattle.cad_rows.specs.declared.names.Face.{Face}
use Rattle.cad_rings.specs.Cycle.{Ring, Side, placed, sides_of}
use Rattle.cad_rings.proofs.CallerLemmas.{ring_sum-same_ring}
use Rattle.cad_map.specs.declared.boundary.Boundary.{Boundary}
use Rattle.cad_map.specs.Boundaries.{canonical_order, is_face}
use Rattle.cad_map.specs.Map.{Map, position_of, rings_at, rings_of, sum_of_face, sum_of_ring}
use Rattle.cad_map.specs.Rings.{ring_at}
use Rattle.cad_map.proofs.CallerLemmas.{is_face-refl, is_face-same}
use Rattle.cad_map.proofs.CallerLemmas.{IsOfRing, TestAlike, rings_at-canonical_order}
use Rattle.cad_near.specs.KeptAreas.{KeptAreas, HoldsAreas, area_at}
use Rattle.cad_valid.specs.Outlines.{Counted, outlines_among}
use Rattle.cad_near.specs.Near.{outlines_wanted, rules_of}
use Rattle.cad_valid.proofs.CallerLemmas.{areas_before, counted-all}
use Rattle.cad_valid.proofs.CallerLemmas.{rings_counted, sound-alone}

-- the area of a face with one ring is the ring's
area-alone : (m : Map) (rings : List Ring) (area : ℤ) → length rings ≡ 1
    → area ≡ sum_over doubled_area (placed (position_of m) (flat_map sides_of rings))
    → area ∷ [] ≡ areas_before m rings 1
area-alone m [] area one is = absurd (omega arith)
area-alone m (r ∷ []) area one is =
    let added : List Side → ℤ = λ sides. sum_over doubled_area (placed (position_of m) sides) in
    ap (λ (a : ℤ). a ∷ []) (is ∙ ap added (append-nil (sides_of r)))
area-alone m (r ∷ s ∷ rings) area one is = absurd (omega arith)

-- and tells what its ring does
pub rules-alone : (m : Map) (f : Face) (area : ℤ) (count : Counted) (wanted : ℕ) (told : Bool)
    → length (rings_of m f) ≡ 1 → area ≡ sum_of_face doubled_area m f
    → count ≡ outlines_among (area ∷ []) → wanted ≡ outlines_wanted f
    → told ≡ ((count.outlines == wanted) && count.is_sound)
    → record { outlines = told; holes = true } ≡ rules_of m f
rules-alone m f area count wanted told one is counted wants tells =
    let rings = rings_of m f in
    let so_far = counted ∙ ap outlines_among (area-alone m rings area one is) in
    let outlines =
    tells ∙ ap (λ (n : ℕ). (count.outlines == n) && count.is_sound) wants
    ∙ counted-all m rings 1 (outlines_wanted f) count (omega arith) so_far in
    let holes = sym (sound-alone m rings (omega arith)) in
    λ i. record { outlines = outlines i; holes = holes i }

-- tests answer the same of two lists of one ring: so do the rings' areas
areas-same : (m : Map) (rs ss : List Ring) → length rs ≡ 1 → length ss ≡ 1 → TestAlike rs ss
    → sum_of_ring doubled_area m (get_or rs 0 [])
    ≡ sum_over doubled_area (placed (position_of m) (flat_map sides_of ss))
areas-same m [] ss one two alike = absurd (omega arith)
areas-same m (r ∷ q ∷ rs) ss one two alike = absurd (omega arith)
areas-same m (r ∷ []) [] one two alike = absurd (omega arith)
areas-same m (r ∷ []) (s ∷ t ∷ ss) one two alike = absurd (omega arith)
areas-same m (r ∷ []) (s ∷ []) one two alike =
    let area : Ring → ℤ = sum_of_ring doubled_area m in
    let added : List Side → ℤ = λ sides. sum_over doubled_area (placed (position_of m) sides) in
    let test : Ring → Bool = λ x. int_eq (area r) (area x) in
    let of_ring : IsOfRing test = λ x y same.
    ap (int_eq (area r)) (ring_sum-same_ring doubled_area (position_of m) x y same) in
    let itself : (test r && true) ≡ true
    = ap (λ (b : Bool). b && true) (int_eq_equiv.refl (area r)) in
    let other = and_parts (test s) true (sym (alike.all test of_ring) ∙ itself) in
    (Decides-int_eq (area r) (area s)).0 other.0 ∙ ap added (sym (append-nil (sides_of s)))

-- the area of the one ring of a face, wherever it is written from, is the face's
pub area-of_one : (m : Map) (f : Face) (bs : List Boundary) → canonical_order bs ≡ m.boundaries
    → length (rings_of m f) ≡ 1
    → sum_of_ring doubled_area m (ring_at bs f 0) ≡ sum_of_face doubled_area m f
area-of_one m f bs is one =
    let alike : TestAlike (rings_at f bs) (rings_of m f)
    = subst (λ (l : List Boundary). TestAlike (rings_at f bs) (rings_at f l)) is
    (rings_at-canonical_order f bs) in
    areas-same m (rings_at f bs) (rings_of m f) (rings_counted m f bs is ∙ one) one alike

-- the areas that are kept are the faces' where the one that came is
pub holds-kept : (old new : KeptAreas) (m : Map) (face : Face)
    → IfSome (area_at new face) (λ area. area ≡ sum_of_face doubled_area m face)
    → ((f : Face) → f ≢ face → area_at new f ≡ area_at old f)
    → HoldsAreas old m → HoldsAreas new m
holds-kept old new m face here elsewhere holds f = by (is_face f face) refl
  where
    Holds : Face → Option ℤ → Type 0
    Holds g kept = IfSome kept (λ area. area ≡ sum_of_face doubled_area m g)

    by : (b : Bool) → is_face f face ≡ b → Holds f (area_at new f)
    by true is =
        subst (λ (g : Face). Holds g (area_at new g)) (sym (is_face-same f face is)) here
    by false is =
        let away : f ≢ face = λ same.
        true≢false (sym (is_face-refl f) ∙ ap (is_face f) same ∙ is) in
        subst (Holds f) (sym (elsewhere f away)) (holds f)
