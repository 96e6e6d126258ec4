-- Of spokes that a turn about their point meets one after another: what lies beside two neighbours.
use Rattle.std.proofs.Common.{◌≡◌, ◌⊎◌, inl, inr, ◌∙◌, sym, ap, ℕ, ◌-◌, ◌<◌, ◌≤◌, List, length, get_or, true≢false, arith}
use Rattle.std.proofs.lemmas.Bool.{cases_lt}
use Rattle.geo_exact.specs.Position.{Position}
use Rattle.geo_exact.specs.Turning.{is_met_first}
use Rattle.geo_exact.proofs.CallerLemmas.{IsBetween, first-between, second-between, last-between, not-met-itself}
use Rattle.cad_map.specs.Turn.{AreMetInTurn}
use Rattle.cad_map.specs.declared.stars.Spoke.{Spoke}

-- what a spoke is beside w and the side that comes along u
pub data Beside (v : Position) (w u x : Spoke) : Type 0 where
  before_it : x ≡ w → Beside v w u x
  itself : x ≡ u → Beside v w u x
  elsewhere : IsBetween v x.position w.position u.position → Beside v w u x

-- w stands before u in a circle of so many
abbrev pub IsPlaceBefore : ℕ → ℕ → ℕ → Type 0
IsPlaceBefore w u count = ((1 ≤ u) × (w ≡ u - 1)) ⊎ ((u ≡ 0) × (w ≡ count - 1))

module _ (v : Position) (order : List Spoke) (met : AreMetInTurn v order) (d : Spoke) where
  abbrev at : ℕ → Spoke
  at k = get_or order k d

  -- of three places in a row
  abbrev InRow : (Spoke → Spoke → Spoke → Type 0) → Type 0
  InRow P = (j k l : ℕ) → j < k → k < l → l < length order → P (at j) (at k) (at l)

  second : InRow (λ x w u. IsBetween v x.position w.position u.position)
  second j k l lt gt end =
      second-between v (at j).position (at k).position (at l).position (met.away j d (omega arith)) (met.away k d (omega arith)) (met.away l d end) (met.turn j k d lt (omega arith)) (met.turn k l d gt end)

  first : InRow (λ w u x. IsBetween v x.position w.position u.position)
  first j k l lt gt end =
      first-between v (at j).position (at k).position (at l).position (met.away j d (omega arith)) (met.away k d (omega arith)) (met.away l d end) (met.turn j k d lt (omega arith)) (met.turn k l d gt end)

  last : InRow (λ u x w. IsBetween v x.position w.position u.position)
  last j k l lt gt end =
      last-between v (at j).position (at k).position (at l).position (met.away j d (omega arith)) (met.away k d (omega arith)) (met.away l d end) (met.turn j k d lt (omega arith)) (met.turn k l d gt end)

  -- two that are met one after the other lie apart
  apart : (j k : ℕ) → j < k → k < length order → ¬ ((at j).position ≡ (at k).position)
  apart j k lt end same =
      true≢false (sym (met.turn j k d lt end) ∙ ap (λ (q : Position). is_met_first v q (at k).position) same ∙ not-met-itself v (at k).position)

  module _ (i p : ℕ) (many : 2 ≤ length order) (within : i < length order) (before : IsPlaceBefore p i (length order)) where
    pub ends-apart : ¬ ((at p).position ≡ (at i).position)
    ends-apart = elim before [
      | inl here ↦ let some = here.0 in let is = here.1 in apart p i (omega arith) within
      | inr here ↦ let none = here.0 in let is = here.1 in (λ same. apart i p (omega arith) (omega arith) (sym same))
    ]

    pub beside : (j : ℕ) → j < length order → Beside v (at p) (at i) (at j)
    beside j end = elim before [
      | inl here ↦
          let some = here.0 in let is = here.1 in
          elim (cases_lt j p) [
            | inl lt ↦ elsewhere (second j p i lt (omega arith) within)
            | inr ge ↦ elim (cases_lt p j) [
              | inr le ↦ let same : j ≡ p = omega arith in before_it (ap at same)
              | inl gt ↦ elim (cases_lt i j) [
                | inr near ↦ let same : j ≡ i = omega arith in itself (ap at same)
                | inl far ↦ elsewhere (first p i j (omega arith) far end)
              ]
            ]
          ]
      | inr here ↦
          let none = here.0 in let is = here.1 in
          elim (cases_lt i j) [
            | inr near ↦ let same : j ≡ i = omega arith in itself (ap at same)
            | inl gt ↦ elim (cases_lt j p) [
              | inl lt ↦ elsewhere (last i j p gt lt (omega arith))
              | inr ge ↦ let same : j ≡ p = omega arith in before_it (ap at same)
            ]
          ]
    ]
