-- The sides of a ring, from one of them on, tell how the ring lies.
use Rattle.std.proofs.Common.{◌≡◌, ℕ, ◌≤◌, sym, ap, ◌∙◌, List, [], ◌∷◌, length, get_or, Some, arith}
use Rattle.std.specs.Iterator.{YieldsFirst, Yields, Drains}
use Rattle.geo_exact.specs.Position.{Position}
use Rattle.cad_rings.specs.Cycle.{Ring, Side, sides_of}
use Rattle.cad_map.specs.Walk.{first_side}
use Rattle.cad_map.proofs.CallerLemmas.{least-all}
use Rattle.cad_valid.specs.Shapes.{shape_of, shape_along}

-- given from the first one on
pub shape-along : (position : ℕ → Position) (ring : Ring) (first : Side) (given : List Side) → first_side ring ≡ Some first → given ≡ sides_of ring → shape_along position first.0 given ≡ shape_of position ring
shape-along position ring first given begins all =
    ap (shape_along position first.0) all ∙ (λ i. record (shape_of position ring) { anchor = position (least-all first ring begins i) })

-- the first side leads from the first point
pub first-side : (ring : Ring) (first : ℕ) → first ≡ get_or ring 0 first → 1 ≤ length ring → (second : ℕ) × (first_side ring ≡ Some (first, second))
first-side [] first is some = absurd (omega arith)
first-side (a ∷ []) first is some = (a, ap (λ (p : ℕ). Some (p, a)) (sym is))
first-side (a ∷ b ∷ points) first is some = (b, ap (λ (p : ℕ). Some (p, b)) (sym is))

-- what an iterator gave until it had nothing left is what it had
pub drained : {S A : Type 0} (rest : S → List A) (s : S) (xs : List A) → Drains (YieldsFirst rest) s xs → xs ≡ rest s
drained {S} {A} rest s xs drains = all s xs drains.1.0 drains.1.1 drains.1.2.0
  where
    all : (s : S) (xs : List A) (t : S) → Yields (YieldsFirst rest) s xs t → rest t ≡ [] → xs ≡ rest s
    all s [] t same none = sym (ap rest same ∙ none)
    all s (x ∷ xs) t gives none = ap (λ (l : List A). x ∷ l) (all gives.0 xs t gives.2 none) ∙ sym gives.1
