-- Outlines among the rings of a face, counted by their doubled areas.
use Rattle.std.proofs.Common.{◌≡◌, ℕ, ◌+◌, ◌<◌, ◌≤◌, sym, ap, ◌∙◌, List, ◌++◌, [], ◌∷◌, length, map, take, get_or, ℤ, pos, Bool, nat_eq, arith}
use Rattle.std.proofs.lemmas.List.{map-append, length-map, length-take, take_more, take_all}
use Rattle.std.proofs.lemmas.List.Folds.{list_all-map}
use Rattle.std.proofs.lemmas.List.Sums.{count_by-le-length}
use Rattle.std.specs.Prelude.{◌==◌, ◌&&◌, ◌||◌, int_lt}
use Rattle.geo_exact.specs.Measure.{doubled_area}
use Rattle.cad_rings.specs.Cycle.{Ring}
use Rattle.cad_map.specs.Map.{Map, sum_of_ring}
use Rattle.cad_map.specs.Valid.{has_outlines}
use Rattle.cad_map.proofs.CallerLemmas.{count-map}
use Rattle.cad_valid.specs.Outlines.{Counted, outlines_among}

module _ (m : Map) (rings : List Ring) where
  -- the doubled areas of the rings before a place
  abbrev pub areas_before : ℕ → List ℤ
  areas_before place = map (sum_of_ring doubled_area m) (take place rings)

  pub areas-next : (place : ℕ) (area : ℤ) → place < length rings → area ≡ sum_of_ring doubled_area m (get_or rings place []) → areas_before place ++ area ∷ [] ≡ areas_before (place + 1)
  areas-next place area within is =
      ap (λ (a : ℤ). areas_before place ++ a ∷ []) is
      ∙ sym (ap (map (sum_of_ring doubled_area m)) (take_more rings place [] within) ∙ map-append (sum_of_ring doubled_area m) (take place rings) (get_or rings place [] ∷ []))

  -- one more ring
  pub counted-next : (place : ℕ) (area : ℤ) (count more : Counted) → place < length rings → area ≡ sum_of_ring doubled_area m (get_or rings place [])
      → count ≡ outlines_among (areas_before place) → ((areas : List ℤ) → count ≡ outlines_among areas → more ≡ outlines_among (areas ++ area ∷ []))
      → more ≡ outlines_among (areas_before (place + 1))
  counted-next place area count more within is so_far added = added (areas_before place) so_far ∙ ap outlines_among (areas-next place area within is)

  -- there are no more outlines than rings
  pub counted-few : (place : ℕ) (count : Counted) → count ≡ outlines_among (areas_before place) → count.outlines ≤ place
  counted-few place count so_far =
      let outlines = ap (λ (c : Counted). c.outlines) so_far in
      let few = count_by-le-length (int_lt (pos 0)) (areas_before place) in
      let long = length-map (take place rings) (sum_of_ring doubled_area m) in
      let taken = length-take place rings in
      omega arith

  -- all of them
  pub counted-all : (place n : ℕ) (count : Counted) → length rings ≤ place → count ≡ outlines_among (areas_before place) → ((count.outlines == n) && count.is_sound) ≡ has_outlines n m rings
  counted-all place n count past so_far =
      let area : Ring → ℤ = sum_of_ring doubled_area m in
      let either : ℤ → Bool = λ a. int_lt (pos 0) a || int_lt a (pos 0) in
      let all = so_far ∙ ap (λ (rs : List Ring). outlines_among (map area rs)) (take_all place rings past) in
      (λ i. (all i).outlines == n && (all i).is_sound)
      ∙ (λ i. nat_eq (count-map area (int_lt (pos 0)) rings i) n && list_all-map either area rings i)
