-- What a look beyond a neighbour tells of the two strings that it sees a point between.
use Rattle.std.proofs.Common.{◌≡◌, ◌∙◌, ℕ, refl, sym, ap, subst, ◌⊎◌, inl, inr, List, Some, Bool, false, true≢false, slice_get}
use Rattle.std.specs.Prelude.{◌↔◌, IsTrue, option_map}
use Rattle.geo_exact.specs.Sector.{in_sector}
use Rattle.cad_rows.specs.declared.rows.StringRow.{StringRow}
use Rattle.cad_rings.specs.Cycle.{Corner}
use Rattle.cad_rings.specs.Surgery.{corner}
use Rattle.cad_map.specs.Map.{Map, far_end, position_of, all_sides}
use Rattle.cad_map.specs.Rings.{HasWholeRings}
use Rattle.cad_map.specs.Views.{AreBeyond, IsNoSide}
use Rattle.cad_map.proofs.CallerLemmas.{behind-only, corner-only, corner-all_sides, distinct-whole, Contains-has_side}
use Rattle.cad_near.specs.Near.{IsSeenBetween}

-- what is told beyond the far end of a string at a place
pub told-beyond : (m : Map) (strings : List StringRow) (place p far : ℕ) {x y : ℕ} (s : StringRow) → option_map (λ s. far_end s p) (slice_get strings place) ≡ Some far
    → slice_get strings place ≡ Some s → AreBeyond m p (far_end s p) x y → AreBeyond m p far x y
told-beyond m strings place p far {x} {y} s is at beyond =
    let same : Some (far_end s p) ≡ Some far = ap (option_map (λ s. far_end s p)) (sym at) ∙ is in
    let leads : far_end s p ≡ far = cc in
    subst (λ (n : ℕ). AreBeyond m p n x y) leads beyond

module _ (m : Map) (whole : HasWholeRings m) (p q : ℕ) where
  -- where two points are told, a test of them decides
  pub seen-by : {x y : ℕ} → AreBeyond m p q x y → (b : Bool) → b ≡ in_sector (position_of m q) (position_of m y) (position_of m x) (position_of m p) → IsTrue b ↔ IsSeenBetween m p q
  seen-by {x} {y} beyond b is = (
    (λ t. record { before = x; after = y; beyond = beyond; inside = sym is ∙ t }),
    (λ s.
        let same_before = ap (λ (c : Corner). c.before) (behind-only m whole (corner x q p) (corner s.before q p) beyond.comes s.beyond.comes refl) in
        let same_after = ap (λ (c : Corner). c.after) (corner-only m.boundaries (distinct-whole m whole) (corner p q y) (corner p q s.after) beyond.goes s.beyond.goes refl) in
        is ∙ (λ i. in_sector (position_of m q) (position_of m (same_after i)) (position_of m (same_before i)) (position_of m p)) ∙ s.inside),
  )

  -- and where none are, it isn't seen between any
  pub seen-none : IsNoSide m (q, p) ⊎ IsNoSide m (p, q) → IsTrue false ↔ IsSeenBetween m p q
  seen-none none = ((λ t. absurd (true≢false (sym t))), (λ s. absurd (never s none)))
    where
      never : IsSeenBetween m p q → IsNoSide m (q, p) ⊎ IsNoSide m (p, q) → ⊥
      never s (inl gone) = true≢false (sym (Contains-has_side (q, p) (all_sides m) (corner-all_sides m whole (corner s.before q p) s.beyond.comes).1) ∙ gone)
      never s (inr gone) = true≢false (sym (Contains-has_side (p, q) (all_sides m) (corner-all_sides m whole (corner p q s.after) s.beyond.goes).0) ∙ gone)
