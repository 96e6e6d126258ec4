use Rattle.std.proofs.Common.{◌≡◌, ◌∙◌, ap, sym, subst, refl, Some}
use Rattle.std.specs.Prelude.{IsSome}
use Rattle.std.proofs.lemmas.Option.{same_Some}
use Rattle.cad_map.specs.Chain.{leaving}
use Rattle.cad_map.specs.Division.{place_of}
use Rattle.cad_edit.proofs.CutRing.{told-place, two-places}
use Rattle.cad_surgery.proofs.edits.crossing.left_of.Goals.{After-place_of, After-place_of-2}
use Rattle.cad_surgery.proofs.edits.crossing.left_of.Goals as goal

-- the places of both corners' sides are found in the ring
start : (c : goal.After-place_of) → c.place_of.result ≡ Some (place_of (leaving c.args.first.now) c.args.ring.now)
start c = told-place _ (leaving c.args.first.now) c.args.ring.now c.args.ring.now refl (ap leaving c.first.view_is) c.requires.has_first c.place_of.result c.place_of.ensures

end : (c : goal.After-place_of-2) → c.place_of-2.result ≡ Some (place_of (leaving c.args.last.now) c.args.ring.now)
end c = told-place _ (leaving c.args.last.now) c.args.ring.now c.args.ring.now refl (ap leaving c.last.view_is) c.requires.has_last c.place_of-2.result c.place_of-2.ensures

pub unwrap-start-requires : goal.unwrap-start-requires
unwrap-start-requires c =
    let at = goal.at.unwrap-start-requires c in
    subst IsSome (sym (start at.After-place_of)) refl

pub unwrap-end-requires : goal.unwrap-end-requires
unwrap-end-requires c =
    let at = goal.at.unwrap-end-requires c in
    subst IsSome (sym (end at.After-place_of-2)) refl

pub cut_by_chain-requires : goal.cut_by_chain-requires
cut_by_chain-requires c =
    let at = goal.at.cut_by_chain-requires c in
    let first = same_Some _ _ (sym c.unwrap-start.ensures ∙ start at.After-place_of) in
    let last = same_Some _ _ (sym c.unwrap-end.ensures ∙ end at.After-place_of-2) in
    rw (first, last) (two-places (leaving c.args.first.now) (leaving c.args.last.now) c.args.ring.now c.requires.has_first c.requires.has_last c.requires.apart)

pub returns : goal.returns
returns c =
    let at = goal.at.returns c in
    let first = same_Some _ _ (sym c.unwrap-start.ensures ∙ start at.After-place_of) in
    rw (first, same_Some _ _ (sym c.unwrap-end.ensures ∙ end at.After-place_of-2)) at c.in_ok-left.ensures.left
