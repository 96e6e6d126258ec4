use Rattle.std.proofs.Common.{◌≤◌, ◌∙◌, ap, sym, subst, length, Bool, List, [], ◌∷◌, ◌++◌, take, filter, append_assoc, if◌then◌else◌}
use Rattle.std.proofs.lemmas.List.{take_all, append-nil}
use Rattle.cad_rings.specs.Cycle.{Ring}
use Rattle.cad_map.specs.Outline.{is_outer}
use Rattle.cad_views.proofs.CutFacts.{few-at}
use Rattle.cad_views.proofs.JoinFacts.{filter-more-at, same-at}
use Rattle.cad_views.proofs.well_known.push_outlines.Goals as goal

pub loop-place-init : goal.loop-place-init
loop-place-init g c = sym (append-nil c.args.listed.now.items)

pub is_wanted-wanted-requires : goal.is_wanted-wanted-requires
is_wanted-wanted-requires g c =
    subst (λ (r : Ring). length r ≤ 400000) (sym c.index-rings-place.is) (few-at c.args.rings.now c.loop-place.place 400000 c.index-rings-place.result c.requires c.loop-place-test.true)

pub loop-place-preserved : goal.loop-place-preserved
loop-place-preserved g c =
    let p = is_outer (g.M.MapView.map c.args.map.now) c.args.outer in
    let rings = c.args.rings.now in
    let place = c.loop-place.place in
    let x = c.index-rings-place-in-loop-place.result in
    let same = same-at rings place c.index-rings-place.result x c.loop-place-test.true c.index-rings-place.is c.index-rings-place-in-loop-place.is in
    let old = c.args.listed.now.items in
    let one : Bool → List Ring = λ t. if t then x ∷ [] else [] in
    c.in_ok-push_wanted.ensures ∙ ap (λ (t : Bool). c.loop-place.listed.items ++ one t) (c.is_wanted-wanted.ensures ∙ ap p same)
    ∙ ap (λ (l : List Ring). l ++ one (p x)) c.loop-place.invariant ∙ append_assoc old (filter p (take place rings)) (one (p x))
    ∙ ap (λ (l : List Ring). old ++ l) (sym (filter-more-at p rings place x c.loop-place-test.true c.index-rings-place-in-loop-place.is))

pub returns : goal.returns
returns g c =
    c.loop-place.invariant ∙ ap (λ (l : List Ring). c.args.listed.now.items ++ filter (is_outer (g.M.MapView.map c.args.map.now) c.args.outer) l) (take_all c.loop-place.place c.args.rings.now c.loop-place-test.false)
