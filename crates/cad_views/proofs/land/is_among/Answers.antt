use Rattle.std.proofs.Common.{◌∙◌, rules, subst, ℕ, ℤ, List, to_z, of_z, to_z-of_z, FitsSigned, arith}
use Rattle.std.specs.Prelude.{Result}
use Rattle.std.specs.Int.{w64}
use Rattle.std.specs.List.Sorted.{IsBinarySearchResult}
use Rattle.std.specs.Ordering.{int_cmp, ordering_then}
use Rattle.std.proofs.lemmas.Int.{ints}
use Rattle.std.proofs.lemmas.List.Sorted.{answers_always}
use Rattle.geo_exact.specs.Position.{Position}
use Rattle.cad_views.proofs.LandFacts.{searched}
use Rattle.cad_views.proofs.land.is_among.Goals as goal

-- what a search for a place has found
abbrev Found : List Position → Result ℕ ℕ → ℤ → ℤ → Type 0
Found places found x y = IsBinarySearchResult (λ (b : Position). ordering_then (int_cmp b.x x) (int_cmp b.y y)) places found

pub returns : goal.returns
returns c =
    let places = c.args.ordered.now in
    let found = c.binary_search_by_key.result in
    let a = c.place.inside in
    let x : FitsSigned w64 a.x = let known = c.place.invariant in omega (arith, ints) in
    let y : FitsSigned w64 a.y = let known = c.place.invariant in omega (arith, ints) in
    let at : Found places found (to_z w64 (of_z w64 a.x)) (to_z w64 (of_z w64 a.y)) =
    c.binary_search_by_key.ensures.position (λ (b : Position). record { 0 = b.x; 1 = b.y }) (answers_always _ _ _ (λ f a r g called. search rules)) in
    let there : Found places found a.x a.y = subst (λ (k : ℤ). Found places found k a.y) (to_z-of_z x) (subst (λ (k : ℤ). Found places found (to_z w64 (of_z w64 a.x)) k) (to_z-of_z y) at) in
    c.is_ok.ensures.value
    ∙ searched places c.args.place found c.requires c.binary_search_by_key.ensures.bound (subst (λ (p : Position). Found places found p.x p.y) c.place.view_is there)
