-- Strings of one point that lead into different directions meet there alone.
use Rattle.std.proofs.Common.{◌≡◌, ◌≢◌, ◌⊎◌, inl, inr, ◌∙◌, sym, ap, subst, ℕ, ◌<◌, ◌==◌, List, length, get_or, true, Some, arith}
use Rattle.std.specs.Prelude.{slice_get, ◌^◌}
use Rattle.std.specs.List.{Contains}
use Rattle.std.specs.List.Sorted.{IsPermutation}
use Rattle.std.proofs.lemmas.Bool.{cases_eq, cases_lt}
use Rattle.std.proofs.lemmas.List.{get_or_default}
use Rattle.std.proofs.lemmas.List.Sorted.{Contains-permutation}
use Rattle.geo_exact.specs.Position.{Position}
use Rattle.geo_exact.proofs.CallerLemmas.{met-apart, same-exchanged, on-same_direction}
use Rattle.cad_map.specs.Map.{Map, position_of, far_end, is_end}
use Rattle.cad_map.specs.Valid.{MeetAtEnds}
use Rattle.cad_map.specs.Crossings.{HasPlacedRows, HaveOnlyStart}
use Rattle.cad_map.specs.Stars.{star, spokes_of}
use Rattle.cad_map.specs.Turn.{AreMetInTurn}
use Rattle.cad_map.specs.declared.stars.Spoke.{Spoke}
use Rattle.cad_map.proofs.CallerLemmas.{only_start-is, meet-at_end, IsSpoke, IsSpoke-all, All-at_each, filter-Contains}
use Rattle.std.proofs.lemmas.Bool.{eqb-true}
use Rattle.sweep.specs.declared.extent.Extent.{Extent}
use Rattle.sweep.specs.Extents.{AllThatOverlapPass}
use Rattle.sweep.specs.Parts.{AllOfTwoGroupsPass}
use Rattle.cad_valid.specs.Hubs.{alone, AreTwoDirections, IsFanned, IsHubOf, AreGroupsOf, AreRegrouped}
use Rattle.cad_valid.specs.Swept.{passes_at, have_no_crossing, placed_rows}
use Rattle.cad_valid.proofs.SweptRules.{strings_pass, string_at}

-- ---- Directions

two-exchanged : (v a b : Position) → AreTwoDirections v a b → AreTwoDirections v b a
two-exchanged v a b two = record { a_away = two.b_away; b_away = two.a_away; apart = λ same. two.apart (same-exchanged v b a same) }

-- two segments from v into two directions have only v in common
pub two-only_start : (v a b : Position) → AreTwoDirections v a b → HaveOnlyStart v a b
two-only_start v a b two =
    (only_start-is v a b two.a_away two.b_away).1
    ((λ on. two.apart (on-same_direction v a b two.b_away on)), (λ on. two.apart (same-exchanged v b a (on-same_direction v b a two.a_away on))))

-- spokes that are met in turn lead into two directions each
module _ (v : Position) (order : List Spoke) (met : AreMetInTurn v order) where
  two-at : (j k : ℕ) (d : Spoke) → j < k → k < length order → AreTwoDirections v (get_or order j d).position (get_or order k d).position
  two-at j k d lt end =
      let j_away = met.away j d (omega arith) in
      let k_away = met.away k d end in
      record { a_away = j_away; b_away = k_away; apart = met-apart v (get_or order j d).position (get_or order k d).position j_away k_away (met.turn j k d lt end) }

  pub two-among : (x y : Spoke) → Contains order x → Contains order y → x.place ≢ y.place → AreTwoDirections v x.position y.position
  two-among x y has_x has_y apart =
      let at_x : get_or order has_x.0 x ≡ x = has_x.2 in
      let at_y : get_or order has_y.0 x ≡ y = get_or_default order has_y.0 x y has_y.1 ∙ has_y.2 in
      elim (cases_lt has_x.0 has_y.0) [
        | inl lt ↦ subst (λ (s : Spoke × Spoke). AreTwoDirections v s.0.position s.1.position) (λ i. (at_x i, at_y i)) (two-at has_x.0 has_y.0 x lt has_y.1)
        | inr ge ↦ elim (cases_lt has_y.0 has_x.0) [
          | inl gt ↦
              two-exchanged v y.position x.position
              (subst (λ (s : Spoke × Spoke). AreTwoDirections v s.0.position s.1.position) (λ i. (at_y i, at_x i)) (two-at has_y.0 has_x.0 x gt has_x.1))
          | inr le ↦
              let same : has_x.0 ≡ has_y.0 = omega (arith, ge, le) in
              absurd (apart (ap (λ (s : Spoke). s.place) (sym at_x ∙ ap (λ (k : ℕ). get_or order k x) same ∙ at_y)))
        ]
      ]

pub fanned-in_turn : (m : Map) (p : ℕ) (order : List Spoke) → IsPermutation (star p (spokes_of m)) order → AreMetInTurn (position_of m p) order → IsFanned m p
fanned-in_turn m p order moved met x y has_x has_y apart =
    two-among (position_of m p) order met x y (Contains-permutation (star p (spokes_of m)) order x moved has_x) (Contains-permutation (star p (spokes_of m)) order y moved has_y) apart

-- ---- Groups

-- the strings of one more point are put into its group
pub groups-put : (m : Map) (p : ℕ) (old new : List ℕ) → p < 2 ^ 32 → IsFanned m p → AreGroupsOf m old → length new ≡ length old
    → AreRegrouped p (star p (spokes_of m)) old new → AreGroupsOf m new
groups-put m p old new small fanned before count each i within = elim (each i) [
  | inl same ↦ subst (λ (g : ℕ). (g ≡ alone i) ⊎ IsHubOf m i g) (sym same) (before i (omega arith))
  | inr put ↦
      let x = put.1 in
      subst (λ (g : ℕ). (g ≡ alone i) ⊎ IsHubOf m i g) (sym put.0) (inr (record { small = small; fanned = fanned; spoke = x.0; among = x.1; here = x.2 }))
]

-- two strings of one point that lead into two directions meet there alone
module _ (m : Map) (rows : HasPlacedRows m) where
  spoke-of : (p : ℕ) (x : Spoke) → Contains (star p (spokes_of m)) x → IsSpoke m x × (x.at ≡ p)
  spoke-of p x has =
      let there = filter-Contains (λ (s : Spoke). s.at == p) (spokes_of m) x has in
      (All-at_each (IsSpoke m) (spokes_of m) x (IsSpoke-all m) there.0, eqb-true x.at p there.1)

  hub-pass : (i j group : ℕ) → i ≢ j → IsHubOf m i group → IsHubOf m j group → passes_at have_no_crossing (placed_rows m) i j ≡ true
  hub-pass i j group apart first second =
      let x = first.spoke in
      let y = second.spoke in
      let is_x = spoke-of group x first.among in
      let is_y = spoke-of group y second.among in
      let s = is_x.0.row in
      let t = is_y.0.row in
      let at_s : slice_get m.strings i ≡ Some s = subst (λ (k : ℕ). slice_get m.strings k ≡ Some s) first.here is_x.0.found in
      let at_t : slice_get m.strings j ≡ Some t = subst (λ (k : ℕ). slice_get m.strings k ≡ Some t) second.here is_y.0.found in
      let s_end : is_end s group ≡ true = subst (λ (p : ℕ). is_end s p ≡ true) is_x.1 is_x.0.is_end in
      let t_end : is_end t group ≡ true = subst (λ (p : ℕ). is_end t p ≡ true) is_y.1 is_y.0.is_end in
      let s_far : far_end s group ≡ x.far = subst (λ (p : ℕ). far_end s p ≡ x.far) is_x.1 is_x.0.far in
      let t_far : far_end t group ≡ y.far = subst (λ (p : ℕ). far_end t p ≡ y.far) is_y.1 is_y.0.far in
      let v = position_of m group in
      let two : AreTwoDirections v (position_of m (far_end s group)) (position_of m (far_end t group)) =
      subst (λ (q : Position × Position). AreTwoDirections v q.0 q.1) (λ k. ((is_x.0.position ∙ ap (position_of m) (sym s_far)) k, (is_y.0.position ∙ ap (position_of m) (sym t_far)) k))
      (first.fanned x y first.among second.among (λ same. apart (sym first.here ∙ same ∙ second.here))) in
      let meet : MeetAtEnds m s t = (meet-at_end m s t group (record { of_first = s_end; of_second = t_end }) (λ same. two.a_away (sym same))).0 (two-only_start v _ _ two) in
      rw (string_at m rows i s at_s, string_at m rows j t at_t) (strings_pass m rows i j s t at_s at_t meet)

  -- rows of one group pass the test
  one_group-pass : (groups : List ℕ) → AreGroupsOf m groups → (i j : ℕ) → i < length groups → j < length groups → i ≢ j → get_or groups i 0 ≡ get_or groups j 0
      → passes_at have_no_crossing (placed_rows m) i j ≡ true
  one_group-pass groups are i j in_i in_j apart same = by (are i in_i) (are j in_j)
    where
      by : (get_or groups i 0 ≡ alone i) ⊎ IsHubOf m i (get_or groups i 0) → (get_or groups j 0 ≡ alone j) ⊎ IsHubOf m j (get_or groups j 0)
          → passes_at have_no_crossing (placed_rows m) i j ≡ true
      by (inl p) (inl q) = absurd (apart (omega (arith, p, q, same)))
      by (inl p) (inr hub) = let small = hub.small in absurd (omega (arith, p, small, same))
      by (inr hub) (inl q) = let small = hub.small in absurd (omega (arith, q, small, same))
      by (inr first) (inr second) = hub-pass i j (get_or groups i 0) apart first (subst (λ (g : ℕ). IsHubOf m j g) (sym same) second)

  -- so where rows of two groups pass, all do
  pub all-pass : (boxes : List Extent) (groups : List ℕ) → length groups ≡ length boxes → AreGroupsOf m groups
      → AllOfTwoGroupsPass (passes_at have_no_crossing (placed_rows m)) boxes groups → AllThatOverlapPass (passes_at have_no_crossing (placed_rows m)) boxes
  all-pass boxes groups count are all i j d in_i in_j apart o = elim (cases_eq (get_or groups i 0) (get_or groups j 0)) [
    | inl same ↦ inl (one_group-pass groups are i j (omega arith) (omega arith) apart same)
    | inr differ ↦ all i j d in_i in_j differ o
  ]
