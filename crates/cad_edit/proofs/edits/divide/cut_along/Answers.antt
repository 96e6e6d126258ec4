use Rattle.std.proofs.Common.{refl, Some, sym, ap, subst, ◌≡◌, ◌∙◌}
use Rattle.std.specs.Prelude.{IsSome, option_map, find}
use Rattle.std.specs.Option.{option_copied}
use Rattle.cad_rings.specs.Cycle.{has_side, sides_of}
use Rattle.std.proofs.lemmas.Option.{same_Some}
use Rattle.cad_map.specs.Chain.{leaving}
use Rattle.cad_map.specs.Division.{place_of, ring_with}
use Rattle.cad_edit.proofs.CutRing.{ring-found, copied-some, told-by, told-ring, told-place, two-places}
use Rattle.cad_edit.proofs.edits.divide.cut_along.Goals.{After-ring_with, After-unwrap-cut, After-place_of, After-place_of-2}
use Rattle.cad_edit.proofs.edits.divide.cut_along.Goals as goal

-- what was told is the ring of the map that has the first corner's side
told : (c : goal.After-ring_with) → option_copied c.ring_with.result ≡ option_map (λ b. b.ring) (find (λ b. has_side (leaving c.args.first.now) (sides_of b.ring)) c.args.boundaries.now)
told c = told-by _ (leaving c.args.first.now) c.args.boundaries.now c.args.boundaries.now c.ring_with.result (ap leaving c.first.view_is) refl c.ring_with.ensures

cut : (c : goal.After-unwrap-cut) → option_copied c.ring_with.result ≡ option_map (λ b. b.ring) (find (λ b. has_side (leaving c.args.first.now) (sides_of b.ring)) c.args.boundaries.now) → c.unwrap-cut.result.now ≡ ring_with (leaving c.args.first.now) c.args.boundaries.now
cut c is = told-ring (leaving c.args.first.now) c.args.boundaries.now c.requires.first_there c.ring_with.result c.unwrap-cut.result is c.unwrap-cut.ensures

-- and in it the places of both corners' sides are found
start : (c : goal.After-place_of) → c.unwrap-cut.result.now ≡ ring_with (leaving c.args.first.now) c.args.boundaries.now → c.place_of.result ≡ Some (place_of (leaving c.args.first.now) (ring_with (leaving c.args.first.now) c.args.boundaries.now))
start c ring = told-place _ (leaving c.args.first.now) c.unwrap-cut.result.now (ring_with (leaving c.args.first.now) c.args.boundaries.now) ring (ap leaving c.first.view_is) c.requires.first_there c.place_of.result c.place_of.ensures

end : (c : goal.After-place_of-2) → c.unwrap-cut.result.now ≡ ring_with (leaving c.args.first.now) c.args.boundaries.now → c.place_of-2.result ≡ Some (place_of (leaving c.args.last.now) (ring_with (leaving c.args.first.now) c.args.boundaries.now))
end c ring = told-place _ (leaving c.args.last.now) c.unwrap-cut.result.now (ring_with (leaving c.args.first.now) c.args.boundaries.now) ring (ap leaving c.last.view_is) c.requires.last_there c.place_of-2.result c.place_of-2.ensures

pub unwrap-cut-requires : goal.unwrap-cut-requires
unwrap-cut-requires c =
    copied-some c.ring_with.result (ring_with (leaving c.args.first.now) c.args.boundaries.now) (told (goal.at.unwrap-cut-requires c).After-ring_with ∙ ring-found (leaving c.args.first.now) c.args.boundaries.now c.requires.first_there)

pub unwrap-start-requires : goal.unwrap-start-requires
unwrap-start-requires c =
    let at = goal.at.unwrap-start-requires c in
    subst IsSome (sym (start at.After-place_of (cut at.After-unwrap-cut (told at.After-ring_with)))) refl

pub unwrap-end-requires : goal.unwrap-end-requires
unwrap-end-requires c =
    let at = goal.at.unwrap-end-requires c in
    subst IsSome (sym (end at.After-place_of-2 (cut at.After-unwrap-cut (told at.After-ring_with)))) refl

pub cut_by_chain-requires : goal.cut_by_chain-requires
cut_by_chain-requires c =
    let at = goal.at.cut_by_chain-requires c in
    let ring = cut at.After-unwrap-cut (told at.After-ring_with) in
    let first = same_Some _ _ (sym c.unwrap-start.ensures ∙ start at.After-place_of ring) in
    let last = same_Some _ _ (sym c.unwrap-end.ensures ∙ end at.After-place_of-2 ring) in
    rw (first, last, ring) (two-places (leaving c.args.first.now) (leaving c.args.last.now) (ring_with (leaving c.args.first.now) c.args.boundaries.now) c.requires.first_there c.requires.last_there c.requires.apart)

pub returns-clause-left : goal.returns-clause-left
returns-clause-left c =
    let at = goal.at.returns-clause-left c in
    let ring = cut at.After-unwrap-cut (told at.After-ring_with) in
    let first = same_Some _ _ (sym c.unwrap-start.ensures ∙ start at.After-place_of ring) in
    rw (first, same_Some _ _ (sym c.unwrap-end.ensures ∙ end at.After-place_of-2 ring), ring) at c.cut_by_chain.ensures.left

pub returns-clause-right : goal.returns-clause-right
returns-clause-right c =
    let at = goal.at.returns-clause-right c in
    let ring = cut at.After-unwrap-cut (told at.After-ring_with) in
    let first = same_Some _ _ (sym c.unwrap-start.ensures ∙ start at.After-place_of ring) in
    rw (first, same_Some _ _ (sym c.unwrap-end.ensures ∙ end at.After-place_of-2 ring), ring) at c.cut_by_chain.ensures.right
