-- Each corner of a map's rings is met once by the side before it, which is a side of a string.
use Rattle.std.proofs.Common.{◌≡◌, refl, sym, ap, ◌∙◌, List, [], ◌∷◌, Bool, true, false, Some}
use Rattle.std.proofs.lemmas.List.Folds.{list_all-map}
use Rattle.std.specs.Prelude.{IsTrue, ◌↔◌, ◌&&◌, flat_map}
use Rattle.std.specs.List.{Contains, list_all, list_any}
use Rattle.cad_rows.specs.declared.rows.StringRow.{StringRow}
use Rattle.cad_rings.specs.Cycle.{Side, is_side, opposite, Corner}
use Rattle.cad_map.specs.Map.{Map, side_of, is_end, all_sides, all_corners, string_sides}
use Rattle.cad_valid.specs.Corners.{corner_after}
use Rattle.cad_map.specs.Valid.{is_empty_corner, has_empty_corners}
use Rattle.cad_map.specs.Views.{IsNoSide}
use Rattle.cad_map.proofs.CallerLemmas.{list_all-at, list_all-from, list_all-filter, list_all-same, list_all-IsPermutation, find-none, side_before, sides_in-before, corner-found, two-each, distinct-whole}
use Rattle.cad_map.specs.Rings.{HasWholeRings}
use Rattle.cad_valid.specs.Corners.{is_clear_of, is_empty_after, are_empty_beside}

-- ---- Corners of a map

-- the strings that a corner has to be clear of
pub empty-from_strings : (m : Map) (c : Corner) → is_empty_corner m c ≡ list_all (is_clear_of m c) m.strings
empty-from_strings m c = list_all-filter (λ s. is_end s c.at) _ m.strings

-- a string that isn't at the corner's point is clear of it
pub clear-far : (m : Map) (c : Corner) (s : StringRow) → (IsTrue (is_end s c.at) → IsTrue (is_clear_of m c s)) → IsTrue (is_clear_of m c s)
clear-far m c s near = by (is_end s c.at) refl
  where
    by : (b : Bool) → is_end s c.at ≡ b → IsTrue (is_clear_of m c s)
    by true is = near is
    by false is = rw is refl

-- a corner is empty where each string is clear of it
pub empty-is : (m : Map) (c : Corner) → (is_empty_corner m c ≡ true) ↔ ((s : StringRow) → Contains m.strings s → IsTrue (is_clear_of m c s))
empty-is m c = (
  (λ empty s h. list_all-at (is_clear_of m c) m.strings s (sym (empty-from_strings m c) ∙ empty) h),
  (λ each. empty-from_strings m c ∙ list_all-from (is_clear_of m c) m.strings each),
)

module _ (m : Map) (whole : HasWholeRings m) where
  -- the corner after the side before it
  corner-after : (c : Corner) → Contains (all_corners m) c → corner_after m (side_before c) ≡ Some c
  corner-after c h = corner-found m.boundaries (distinct-whole m whole) c h

  pub empty-after : (c : Corner) → Contains (all_corners m) c → is_empty_after m (side_before c) ≡ is_empty_corner m c
  empty-after c h = rw (corner-after c h) refl

  -- no corner comes after what is no side
  pub empty-no_side : (s : Side) → IsNoSide m s → is_empty_after m s ≡ true
  empty-no_side s none = rw (find-none (is_side s) side_before (all_corners m) (ap (list_any (is_side s)) (sides_in-before m.boundaries (two-each m whole)) ∙ none)) refl

  both_sides : (p : Side → Bool) (strings : List StringRow) → list_all p (flat_map (λ s. side_of s ∷ opposite (side_of s) ∷ []) strings) ≡ list_all (λ s. p (side_of s) && p (opposite (side_of s))) strings
  both_sides p [] = refl
  both_sides p (s ∷ strings) = and_assoc (p (side_of s)) (p (opposite (side_of s))) (list_all p (flat_map (λ s. side_of s ∷ opposite (side_of s) ∷ []) strings)) ∙ ap (λ (b : Bool). (p (side_of s) && p (opposite (side_of s))) && b) (both_sides p strings)
    where
      and_assoc : (a b c : Bool) → (a && (b && c)) ≡ ((a && b) && c)
      and_assoc true b c = refl
      and_assoc false b c = refl

  -- so both sides of all strings decide
  pub corners-by_strings : has_empty_corners m ≡ list_all (are_empty_beside m) m.strings
  corners-by_strings =
      list_all-same (is_empty_corner m) (λ c. is_empty_after m (side_before c)) (all_corners m) (λ c h. sym (empty-after c h))
      ∙ sym (list_all-map (is_empty_after m) side_before (all_corners m))
      ∙ ap (list_all (is_empty_after m)) (sides_in-before m.boundaries (two-each m whole))
      ∙ sym (list_all-IsPermutation (is_empty_after m) (string_sides m) (all_sides m) whole.v5.once)
      ∙ both_sides (is_empty_after m) m.strings
