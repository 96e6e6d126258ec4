use Rattle.std.proofs.Common.{◌∙◌, ap, sym, Bool, List, [], ◌∷◌, ◌++◌, take, filter, append_assoc, if◌then◌else◌}
use Rattle.std.proofs.lemmas.List.{take_all, append-nil}
use Rattle.cad_rows.specs.declared.names.Name.{Name}
use Rattle.cad_views.specs.Differences.{is_listed}
use Rattle.cad_views.proofs.JoinFacts.{filter-more-at}
use Rattle.cad_views.proofs.differences.push_listed.Goals as goal

pub loop-place-init : goal.loop-place-init
loop-place-init c = sym (append-nil c.args.listed.now.items)

pub loop-place-preserved : goal.loop-place-preserved
loop-place-preserved c =
    let p = is_listed c.args.old.now c.args.new.now c.args.came in
    let names = c.args.names.now in
    let place = c.loop-place.place in
    let name = c.index-names-place.result in
    let old = c.args.listed.now.items in
    let one : Bool → List Name = λ t. if t then name ∷ [] else [] in
    c.in_ok-push_wanted.ensures ∙ ap (λ (t : Bool). c.loop-place.listed.items ++ one t) c.in_ok-wanted.ensures
    ∙ ap (λ (l : List Name). l ++ one (p name)) c.loop-place.invariant ∙ append_assoc old (filter p (take place names)) (one (p name))
    ∙ ap (λ (l : List Name). old ++ l) (sym (filter-more-at p names place name c.loop-place-test.true c.index-names-place.is))

pub returns : goal.returns
returns c =
    c.loop-place.invariant ∙ ap (λ (l : List Name). c.args.listed.now.items ++ filter (is_listed c.args.old.now c.args.new.now c.args.came) l) (take_all c.loop-place.place c.args.names.now c.loop-place-test.false)
