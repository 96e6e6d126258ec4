-- The corners at a point, told by the rays of its strings.
use Rattle.std.proofs.Common.{◌≡◌, ℕ, sym, ap, subst, ◌∙◌, List, Bool, true, map, refl, [], ◌∷◌}
use Rattle.std.proofs.lemmas.List.Folds.{list_all-map}
use Rattle.std.specs.Prelude.{◌↔◌}
use Rattle.std.specs.List.{AllByRecursion, list_all}
use Rattle.cad_rows.specs.declared.rows.StringRow.{StringRow}
use Rattle.cad_rings.specs.Surgery.{corner}
use Rattle.cad_map.specs.Map.{Map, position_of, strings_at, is_end, far_end}
use Rattle.cad_map.specs.Rings.{HasWholeRings}
use Rattle.cad_map.specs.Valid.{is_empty_corner}
use Rattle.cad_map.proofs.CallerLemmas.{Contains-filter, filter-Contains, list_all-at, list_all-from, list_all-IsPermutation}
use Rattle.cad_valid.specs.Corners.{is_empty_after}
use Rattle.cad_near.specs.Near.{HasEmptyCornersAt}
use Rattle.cad_near.specs.declared.rays.Ray.{Ray}
use Rattle.cad_near.specs.Rays.{ray_of, IsPlacedRay, AreRaysOf, is_clear_of_ray}
use Rattle.cad_near.proofs.NearCorners.{corners-by_strings}

module _ (m : Map) (p : ℕ) (rays : List Ray) (are : AreRaysOf m p rays) where
  -- each lies where its far point does
  pub placed : AllByRecursion (IsPlacedRay m) rays
  placed = subst (AllByRecursion (IsPlacedRay m)) (sym are.seen) (by are.strings)
    where
      by : (strings : List StringRow) → AllByRecursion (IsPlacedRay m) (map (ray_of m p) strings)
      by [] = tt
      by (s ∷ strings) = (refl, by strings)

  -- a test of all rays is one of all strings at the point
  each-string : (test : Ray → Bool) → list_all test rays ≡ list_all (λ s. test (ray_of m p s)) (strings_at m p)
  each-string test =
      ap (list_all test) are.seen ∙ list_all-map test (ray_of m p) are.strings
      ∙ sym (list_all-IsPermutation (λ s. test (ray_of m p s)) (strings_at m p) are.strings are.each)

  -- a corner at the point is empty where it is clear of them
  pub clear-is : (after before : ℕ) → list_all (is_clear_of_ray (position_of m p) (position_of m after) (position_of m before)) rays ≡ is_empty_corner m (corner before p after)
  clear-is after before = each-string (is_clear_of_ray (position_of m p) (position_of m after) (position_of m before))

  -- and those after each of them are all
  pub empty-by_rays : HasWholeRings m → (list_all (λ r. is_empty_after m (r.far, p)) rays ≡ true) ↔ HasEmptyCornersAt m p
  empty-by_rays whole =
      let test = λ (s : StringRow). is_empty_after m (far_end s p, p) in
      let same = each-string (λ r. is_empty_after m (r.far, p)) in (
        (λ all. (corners-by_strings m whole p).0 (λ s there end. list_all-at test (strings_at m p) s (sym same ∙ all) (Contains-filter (λ s. is_end s p) m.strings s there end))),
        (λ empty. same ∙ list_all-from test (strings_at m p) (λ s k.
            let f = filter-Contains (λ s. is_end s p) m.strings s k in
            (corners-by_strings m whole p).1 empty s f.0 f.1)),
      )
