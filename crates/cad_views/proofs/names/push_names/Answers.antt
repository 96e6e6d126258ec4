use Rattle.std.proofs.Common.{◌≤◌, ◌∙◌, ap, sym, List, [], ◌∷◌, ◌++◌, length, take, append_assoc}
use Rattle.std.proofs.lemmas.List.{take_all, append-nil}
use Rattle.cad_rows.specs.declared.names.Name.{Name}
use Rattle.cad_map.proofs.CallerLemmas.{take-more}
use Rattle.cad_views.specs.Differences.{names_of_kind}
use Rattle.cad_views.proofs.names.push_names.Goals as goal

pub loop-place-init : goal.loop-place-init
loop-place-init c = sym (append-nil c.args.names.now.items)

pub loop-place-preserved : goal.loop-place-preserved
loop-place-preserved c =
    let all = names_of_kind c.args.map.now c.args.kind in
    let place = c.loop-place.place in
    let old = c.args.names.now.items in
    c.in_ok-push.ensures.items ∙ ap (λ (l : List Name). l ++ c.name_at.result ∷ []) c.loop-place.invariant ∙ append_assoc old (take place all) (c.name_at.result ∷ [])
    ∙ ap (λ (l : List Name). old ++ l) (take-more all place c.name_at.result c.name_at.ensures)

pub returns : goal.returns
returns c =
    let all = names_of_kind c.args.map.now c.args.kind in
    let past : length all ≤ c.loop-place.place = rw c.count_of-place-end.ensures at c.loop-place-test.false in
    c.loop-place.invariant ∙ ap (λ (l : List Name). c.args.names.now.items ++ l) (take_all c.loop-place.place all past)
