-- The sides of a ring that were given so far, and what is known of the next one.
use Rattle.std.proofs.Common.{◌≡◌, ◌≤◌, sym, ap, subst, ◌∙◌, List, [], ◌∷◌, ◌++◌, append_assoc, length, length-append, arith}
use Rattle.std.specs.List.{Contains}
use Rattle.std.proofs.lemmas.List.Elements.{Contains-append_right}
use Rattle.cad_rings.specs.Cycle.{Ring, Side, sides_of}
use Rattle.cad_map.specs.declared.boundary.Boundary.{Boundary}
use Rattle.cad_map.specs.Map.{Map}
use Rattle.cad_map.specs.Rings.{HasWholeRings}
use Rattle.cad_map.proofs.CallerLemmas.{Contains-first, two-each, ring-sides-few}

module _ (ring : Ring) (given left rest : List Side) (s : Side) (whole : given ++ left ≡ sides_of ring) (step : left ≡ s ∷ rest) where
  pub given-more : (given ++ s ∷ []) ++ rest ≡ sides_of ring
  given-more = append_assoc given (s ∷ []) rest ∙ ap (λ (l : List Side). given ++ l) (sym step) ∙ whole

  pub given-there : Contains (sides_of ring) s
  given-there = subst (λ (l : List Side). Contains l s) (ap (λ (l : List Side). given ++ l) (sym step) ∙ whole) (Contains-append_right given (s ∷ rest) s (Contains-first s rest))

  pub given-few : length (given ++ s ∷ []) ≤ length (sides_of ring)
  given-few = let all = ap length given-more in let e = length-append (given ++ s ∷ []) rest in omega (arith, all, e)

module _ (m : Map) (whole : HasWholeRings m) (b : Boundary) (there : Contains m.boundaries b) where
  pub sides-few : length (sides_of b.ring) ≤ 400000
  sides-few = let few = ring-sides-few m m.boundaries whole whole.v1.canonical (two-each m whole) b there in let most = whole.v1.few_strings in omega (arith, few, most)
