-- The doubled area of a face, ring by ring.
use Rattle.std.proofs.Common.{◌≡◌, ℕ, zero, suc, ◌+◌, ◌<◌, ◌≤◌, ◌∙◌, refl, sym, ap, subst, List, [], ◌∷◌, length, take, map, get_or, arith, ℤ, ◌+ℤ◌, FitsSigned, unsigned_abs}
use Rattle.std.specs.Int.{w128}
use Rattle.std.specs.Prelude.{flat_map}
use Rattle.geo_exact.specs.Measure.{doubled_area, sum_over}
use Rattle.geo_exact.proofs.CallerLemmas.{doubled_area-bounded}
use Rattle.cad_rows.specs.declared.names.Face.{Face}
use Rattle.cad_rings.specs.Cycle.{Ring, placed, sides_of}
use Rattle.cad_map.specs.declared.boundary.Boundary.{Boundary}
use Rattle.cad_map.specs.Map.{Map, position_of, rings_of, sum_of_face, sum_of_ring}
use Rattle.cad_map.specs.Rings.{ring_at}
use Rattle.cad_map.specs.Valid.{IsValid}
use Rattle.cad_map.proofs.CallerLemmas.{whole_valid}
use Rattle.cad_map.proofs.Boundaries.FaceSums.{sum_up_to-fits, sum_up_to-next, sum_up_to-all, sum_up_to-small}
use Rattle.cad_views.proofs.CutFacts.{few-at, rings-few}

abbrev pub area_up_to : Map → Face → ℕ → ℤ
area_up_to m f place = sum_over doubled_area (placed (position_of m) (flat_map sides_of (take place (rings_of m f))))

module _ (m : Map) (valid : IsValid m) (f : Face) where
  pub area-fits : (place : ℕ) → FitsSigned w128 (area_up_to m f place)
  area-fits place = sum_up_to-fits m m.boundaries (whole_valid m valid) valid.sound.v1.canonical f doubled_area doubled_area-bounded place

  pub area-small : (place : ℕ) → unsigned_abs (area_up_to m f place) ≤ 100000000000000000000000000
  area-small place = let small = sum_up_to-small m m.boundaries (whole_valid m valid) valid.sound.v1.canonical f doubled_area doubled_area-bounded place in omega arith

  module _ (bs : List Boundary) (are : map (λ (b : Boundary). b.ring) bs ≡ rings_of m f) where
    many : length bs ≡ length (rings_of m f)
    many = sym (of_map bs) ∙ ap (λ (rs : List Ring). length rs) are
      where
        of_map : (cs : List Boundary) → length (map (λ (b : Boundary). b.ring) cs) ≡ length cs
        of_map [] = refl
        of_map (b ∷ cs) = ap suc (of_map cs)

    ring-is : (place : ℕ) (b : Boundary) → place < length bs → (get_or bs place b).ring ≡ ring_at m.boundaries f place
    ring-is place b within = at bs place within ∙ ap (λ (rs : List Ring). get_or rs place []) are
      where
        at : (cs : List Boundary) (i : ℕ) → i < length cs → (get_or cs i b).ring ≡ get_or (map (λ (c : Boundary). c.ring) cs) i []
        at [] i h = absurd (omega arith)
        at (c ∷ cs) zero h = refl
        at (c ∷ cs) (suc i) h = at cs i (omega arith)

    pub ring-few : (place : ℕ) (b : Boundary) → place < length bs → length (get_or bs place b).ring ≤ 400000
    ring-few place b within =
        subst (λ (r : Ring). length r ≤ 400000) (sym (ring-is place b within)) (few-at (rings_of m f) place 400000 [] (rings-few m valid f) (let e = many in omega arith))

    pub area-next : (place : ℕ) (b : Boundary) → place < length bs → area_up_to m f (place + 1) ≡ area_up_to m f place +ℤ sum_of_ring doubled_area m (get_or bs place b).ring
    area-next place b within =
        sum_up_to-next m m.boundaries (whole_valid m valid) valid.sound.v1.canonical f doubled_area place (let e = many in omega arith)
        ∙ ap (λ (r : Ring). area_up_to m f place +ℤ sum_of_ring doubled_area m r) (sym (ring-is place b within))

    pub area-all : (place : ℕ) → length bs ≤ place → area_up_to m f place ≡ sum_of_face doubled_area m f
    area-all place past = sum_up_to-all m m.boundaries (whole_valid m valid) valid.sound.v1.canonical f doubled_area place (let e = many in omega arith)
