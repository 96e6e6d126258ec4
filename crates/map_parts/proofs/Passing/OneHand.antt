-- A ring has no string on both hands, where the rings are whole.
use Rattle.std.proofs.Common.{inl, inr, refl, subst}
use Rattle.std.specs.List.{Contains}
use Rattle.cad_rings.specs.Cycle.{Side, opposite, sides_of, corners_of}
use Rattle.cad_map.specs.declared.boundary.Boundary.{Boundary}
use Rattle.cad_map.specs.Map.{Map}
use Rattle.cad_map.specs.Rings.{HasWholeRings}
use Rattle.cad_map.specs.Views.{HasSide, ComesAfter}
use Rattle.cad_map.proofs.CallerLemmas.{All-at_each, Contains-flat_map, Contains-in_part, Contains-has_side, corner-sides}
use Rattle.cad_laws.proofs.CallerLemmas.{side-string, faces-differ, two-whole}
use Rattle.map_parts.proofs.PartsRings.{rings_at-there}
use Rattle.std.specs.Prelude.{length, ◌≤◌}

-- the face of a ring has its sides
pub ring-face_has : (m : Map) (b : Boundary) → Contains m.boundaries b → (s : Side)
    → Contains (sides_of b.ring) s → HasSide m b.face s
ring-face_has m b there s has =
    Contains-has_side s _
    (Contains-flat_map sides_of _ b.ring s (rings_at-there m.boundaries b there) has)

module _ (m : Map) (whole : HasWholeRings m) where
  pub one-hand : (b : Boundary) → Contains m.boundaries b → (s : Side) → Contains (sides_of b.ring) s
      → Contains (sides_of b.ring) (opposite s) → ⊥
  one-hand b there s has back =
      let k =
      side-string m whole s (Contains-flat_map (λ b. sides_of b.ring) m.boundaries b s there has) in
      let on = ring-face_has m b there s has in
      let beyond = ring-face_has m b there (opposite s) back in
      elim k.is [
        | inl e ↦
            faces-differ m whole k.string b.face b.face k.there (subst (HasSide m b.face) e on)
            (subst (λ (u : Side). HasSide m b.face (opposite u)) e beyond) refl
        | inr e ↦
            faces-differ m whole k.string b.face b.face k.there
            (subst (λ (u : Side). HasSide m b.face (opposite u)) e beyond)
            (subst (HasSide m b.face) e on) refl
      ]

  -- and so doesn't turn back along it
  pub no-return : (s : Side) → ComesAfter m s s.0 → ⊥
  no-return s at =
      let part = Contains-in_part (λ (b : Boundary). corners_of b.ring) m.boundaries _ at in
      let two = All-at_each (λ b. 2 ≤ length b.ring) m.boundaries part.0 (two-whole m whole) part.1 in
      let sides = corner-sides part.0.ring two _ part.2 in
      one-hand part.0 part.1 s sides.0 sides.1
