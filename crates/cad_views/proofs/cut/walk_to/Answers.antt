use Rattle.std.proofs.Common.{◌≤◌, ◌∙◌, sym, ap, subst, ℕ, List, ◌∷◌, [], ◌++◌, length}
use Rattle.cad_rings.specs.Cycle.{Ring}
use Rattle.cad_views.proofs.CutFacts.{walked-open, none-differs, inserted-last, since-then, since-two, since-closed}
use Rattle.cad_views.proofs.cut.walk_to.Goals as goal

pub from_points-requires : goal.from_points-requires
from_points-requires c =
    let some = sym c.get_index_of.ensures.index ∙ c.in-Some.is in
    let path = c.args.path.now.keys in
    subst (λ (l : List ℕ). 2 ≤ length l) (sym (since-then path c.args.point c.in-Some.place some c.as_slice.result.now c.as_slice.ensures.keys))
    (since-two path c.args.point c.in-Some.place some c.requires.0 c.args.pieces.now.items c.requires.1 c.requires.2)

pub returns-in_ok-push-in-Some : goal.returns-in_ok-push-in-Some
returns-in_ok-push-in-Some c = λ done w.
    let path = c.args.path.now.keys in
    let pieces = c.args.pieces.now.items in
    let p = c.args.point in
    let place = c.in-Some.place in
    let some = sym c.get_index_of.ensures.index ∙ c.in-Some.is in
    let two = since-two path p place some c.requires.0 pieces c.requires.1 c.requires.2 in
    let ring = c.in_ok-ring-in-Some.ensures ∙ since-then path p place some c.as_slice.result.now c.as_slice.ensures.keys in
    let new_pieces = c.in_ok-push-in-Some.ensures.items ∙ ap (λ (r : Ring). pieces ++ r ∷ []) ring in
    rw (new_pieces, c.truncate.ensures.keys) (since-closed path p place some done pieces w two)

pub returns-in_ok-insert-in-None : goal.returns-in_ok-insert-in-None
returns-in_ok-insert-in-None c = λ done w.
    let path = c.args.path.now.keys in
    let p = c.args.point in
    let none = sym c.get_index_of.ensures.index ∙ c.in-None.is in
    rw (c.in_ok-insert-in-None.ensures.keys ∙ inserted-last path p none) (walked-open done path c.args.pieces.now.items w p (none-differs path p none))
