-- Spokes that a turn about their point meets one after another.
use Rattle.std.proofs.Common.{◌≡◌, ℕ, ◌+◌, ◌-◌, ◌<◌, ◌≤◌, ◌∙◌, sym, List, length, get_or, true, false, true≢false, inl, inr, arith}
use Rattle.std.specs.Ordering.{int_eq}
use Rattle.std.specs.Prelude.{◌&&◌}
use Rattle.std.proofs.lemmas.Bool.{cases_lt}
use Rattle.geo_exact.specs.Position.{Position}
use Rattle.geo_exact.specs.Turning.{is_met_first}
use Rattle.geo_exact.proofs.CallerLemmas.{met-later}
use Rattle.cad_map.specs.declared.stars.Spoke.{Spoke}
use Rattle.cad_map.specs.Turn.{AreMetInTurn}
use Rattle.cad_map.proofs.Ends.StringEnds.{same_position}

-- the first n of these are met in turn
pub record AreMetBelow (v : Position) (spokes : List Spoke) (n : ℕ) : Type 0 where
  pub away : (k : ℕ) (d : Spoke) → k < n → ¬ ((get_or spokes k d).position ≡ v)
  pub turn : (j k : ℕ) (d : Spoke) → j < k → k < n → is_met_first v (get_or spokes j d).position (get_or spokes k d).position ≡ true

-- positions that the test tells apart are two
pub told-apart : (a b : Position) → (int_eq a.x b.x && int_eq a.y b.y) ≡ false → ¬ (a ≡ b)
told-apart a b differ same = true≢false (sym (same_position a b same) ∙ differ)

module _ (v : Position) (spokes : List Spoke) (n : ℕ) (before : AreMetBelow v spokes n) (here : (d : Spoke) → ¬ ((get_or spokes n d).position ≡ v)) where
  away-more : (k : ℕ) (d : Spoke) → k < n + 1 → ¬ ((get_or spokes k d).position ≡ v)
  away-more k d within = elim (cases_lt k n) [
    | inl lt ↦ before.away k d lt
    | inr ge ↦ let is : k ≡ n = omega arith in rw is (here d)
  ]

  -- and one more, which is met after the one before it
  pub met-more : ((d : Spoke) → 1 ≤ n → is_met_first v (get_or spokes (n - 1) d).position (get_or spokes n d).position ≡ true) → AreMetBelow v spokes (n + 1)
  met-more next = record {
    away = away-more;
    turn = λ j k d lt within. elim (cases_lt k n) [
      | inl earlier ↦ before.turn j k d lt earlier
      | inr ge ↦
          let is : k ≡ n = omega arith in
          let last = next d (omega arith) in
          rw is (elim (cases_lt j (n - 1)) [
            | inl far ↦
                met-later v (get_or spokes j d).position (get_or spokes (n - 1) d).position (get_or spokes n d).position
                (before.away j d (omega arith)) (before.away (n - 1) d (omega arith)) (here d) (before.turn j (n - 1) d far (omega arith)) last
            | inr near ↦ let next_to : j ≡ n - 1 = omega arith in rw next_to last
          ])
    ];
  }

pub met-none : (v : Position) (spokes : List Spoke) → AreMetBelow v spokes 0
met-none v spokes = record { away = λ k d within. absurd (omega arith); turn = λ j k d lt within. absurd (omega arith) }

pub met-all : (v : Position) (spokes : List Spoke) (n : ℕ) → length spokes ≤ n → AreMetBelow v spokes n → AreMetInTurn v spokes
met-all v spokes n all met = record { away = λ k d within. met.away k d (omega arith); turn = λ j k d lt within. met.turn j k d lt (omega arith) }
