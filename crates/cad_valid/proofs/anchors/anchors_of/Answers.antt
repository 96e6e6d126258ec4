use Rattle.std.proofs.Common.{◌≡◌, ◌∙◌, sym, ap, ◌<◌, ℕ, ◌+◌, List, [], ◌∷◌, ◌++◌, length, map, take, get_or, arith}
use Rattle.std.specs.List.{enumerate_from}
use Rattle.std.proofs.lemmas.List.{map_more, take_all}
use Rattle.std.proofs.lemmas.List.FromFn.{length-enumerate_from, get_or-enumerate_from}
use Rattle.geo_exact.specs.Position.{Position}
use Rattle.cad_valid.specs.Anchors.{counted_at}
use Rattle.cad_valid.specs.declared.anchors.Anchor.{Anchor}
use Rattle.cad_valid.proofs.anchors.anchors_of.Goals as goal

-- the anchors at the positions before a place, and the one there
more : (positions : List Position) (anchors : List Anchor) (k : ℕ) (at : Position) → k < length positions → at ≡ get_or positions k at
    → anchors ≡ map (counted_at []) (take k (enumerate_from 0 positions))
    → anchors ++ counted_at [] (k, at) ∷ [] ≡ map (counted_at []) (take (k + 1) (enumerate_from 0 positions))
more positions anchors k at within is before =
    let placed = enumerate_from 0 positions in
    let long = length-enumerate_from 0 positions in
    let there : get_or placed k (k, at) ≡ (k, at) =
    get_or-enumerate_from 0 positions k (k, at) within ∙ ap (λ (n : ℕ). (n, get_or positions k at)) (omega arith) ∙ ap (λ (p : Position). (k, p)) (sym is) in
    ap (λ (l : List Anchor). l ++ counted_at [] (k, at) ∷ []) before
    ∙ sym (map_more (counted_at []) placed k (k, at) (omega (arith, long))
    ∙ ap (λ (p : ℕ × Position). map (counted_at []) (take k placed) ++ counted_at [] p ∷ []) there)

pub loop-place-preserved : goal.loop-place-preserved
loop-place-preserved c =
    c.in_ok-push.ensures.items ∙ more c.args.positions.now c.loop-place.anchors.items c.loop-place.place c.index-positions-place.result
    c.loop-place-test.true c.index-positions-place.is c.loop-place.invariant

pub returns : goal.returns
returns c =
    let placed : List (ℕ × Position) = enumerate_from 0 c.args.positions.now in
    let long = length-enumerate_from 0 c.args.positions.now in
    c.loop-place.invariant ∙ ap (map (counted_at [])) (take_all c.loop-place.place placed (omega (arith, long)))
