-- At a point whose spokes a turn meets one after another, the corner between two neighbours is empty.
use Rattle.std.proofs.Common.{◌≡◌, ◌∙◌, sym, ap, subst, ℕ, ◌<◌, ◌≤◌, List, length, get_or, map, Bool, true, not}
use Rattle.std.specs.Prelude.{◌↔◌, IsPermutation}
use Rattle.std.specs.List.{Contains, list_all}
use Rattle.std.proofs.lemmas.List.{get_or_default}
use Rattle.std.proofs.lemmas.List.Folds.{list_all-map}
use Rattle.std.proofs.lemmas.List.Sorted.{IsPermutation-map, IsPermutation-sym, IsPermutation-trans, Contains-permutation}
use Rattle.geo_exact.specs.Position.{Position}
use Rattle.geo_exact.specs.Sector.{in_sector}
use Rattle.geo_exact.proofs.CallerLemmas.{in_sector-first_border, in_sector-last_border}
use Rattle.cad_rings.specs.Surgery.{corner}
use Rattle.cad_map.specs.Map.{Map, position_of}
use Rattle.cad_map.specs.Rings.{HasWholeRings}
use Rattle.cad_map.specs.Turn.{AreMetInTurn}
use Rattle.cad_map.specs.Valid.{is_empty_corner}
use Rattle.cad_map.specs.declared.stars.Spoke.{Spoke}
use Rattle.cad_map.proofs.CallerLemmas.{All-at_each, Contains-map, list_all-from, list_all-IsPermutation}
use Rattle.cad_valid.specs.Corners.{is_empty_after}
use Rattle.cad_near.specs.Near.{HasEmptyCornersAt}
use Rattle.cad_near.specs.Rays.{ray_along, IsPlacedRay, AreSpokesOf, is_clear_of_ray}
use Rattle.cad_near.specs.declared.rays.Ray.{Ray}
use Rattle.cad_near.proofs.RaysOfPoint.{placed, clear-is, empty-by_rays}
use Rattle.cad_valid.proofs.TurnNeighbours.{Beside, IsPlaceBefore, beside}
use Rattle.cad_valid.proofs.TurnNeighbours.Beside.{before_it, itself, elsewhere}

-- in another order they are the same
pub spokes-sorted : (m : Map) (p : ℕ) (old new : List Spoke) → AreSpokesOf m p old → IsPermutation old new → AreSpokesOf m p new
spokes-sorted m p old new of moved = record {
  rays = of.rays;
  are = of.are;
  each = IsPermutation-trans of.rays (map ray_along old) (map ray_along new) of.each (IsPermutation-map ray_along old new moved);
}

-- none of the two neighbours, and nothing else, lies in the sector between them
clear-beside : (v : Position) (w u x : Spoke) → Beside v w u x → not (in_sector v w.position u.position x.position) ≡ true
clear-beside v w u x (before_it e) = ap (λ (s : Spoke). not (in_sector v w.position u.position s.position)) e ∙ ap not (in_sector-first_border v w.position u.position)
clear-beside v w u x (itself e) = ap (λ (s : Spoke). not (in_sector v w.position u.position s.position)) e ∙ ap not (in_sector-last_border v w.position u.position)
clear-beside v w u x (elsewhere b) = ap not b.outside

module _ (m : Map) (p : ℕ) (order : List Spoke) (of : AreSpokesOf m p order) where
  -- a test of all rays is one of all spokes
  each-spoke : (test : Ray → Bool) → list_all test of.rays ≡ list_all (λ (x : Spoke). test (ray_along x)) order
  each-spoke test = list_all-IsPermutation test of.rays (map ray_along order) of.each ∙ list_all-map test ray_along order

  placed-spoke : (x : Spoke) → Contains order x → x.position ≡ position_of m x.far
  placed-spoke x among =
      All-at_each (IsPlacedRay m) of.rays (ray_along x) (placed m p of.rays of.are)
      (Contains-permutation (map ray_along order) of.rays (ray_along x) (IsPermutation-sym of.rays (map ray_along order) of.each) (Contains-map ray_along order x among))

  -- the corners are empty where those after all spokes are
  pub empty-by_spokes : HasWholeRings m → (list_all (λ (x : Spoke). is_empty_after m (x.far, p)) order ≡ true) ↔ HasEmptyCornersAt m p
  empty-by_spokes whole =
      let same = each-spoke (λ r. is_empty_after m (r.far, p)) in
      let by = empty-by_rays m p of.rays of.are whole in
      ((λ all. by.0 (same ∙ all)), (λ empty. sym same ∙ by.1 empty))

  pub clear-in_turn : AreMetInTurn (position_of m p) order → 2 ≤ length order → (i q : ℕ) (d : Spoke) → i < length order → q < length order
      → IsPlaceBefore q i (length order) → is_empty_corner m (corner (get_or order i d).far p (get_or order q d).far) ≡ true
  clear-in_turn met many i q d within behind before =
      let v = position_of m p in
      let u = get_or order i d in
      let w = get_or order q d in
      let u_placed = sym (placed-spoke u (i, within, get_or_default order i u d within)) in
      let w_placed = sym (placed-spoke w (q, behind, get_or_default order q w d behind)) in
      let clear = λ (x : Spoke). not (in_sector v w.position u.position x.position) in
      let each : (x : Spoke) → Contains order x → clear x ≡ true = λ x among.
      let is : get_or order among.0 d ≡ x = get_or_default order among.0 d x among.1 ∙ among.2 in
      clear-beside v w u x (subst (λ (s : Spoke). Beside v w u s) is (beside v order met d i q many within before among.0 among.1)) in
      sym (clear-is m p of.rays of.are w.far u.far)
      ∙ each-spoke (is_clear_of_ray v (position_of m w.far) (position_of m u.far))
      ∙ (λ k. list_all (λ (x : Spoke). not (in_sector v (w_placed k) (u_placed k) x.position)) order)
      ∙ list_all-from clear order each
