use Rattle.std.proofs.Common.{◌≡◌, ◌∙◌, ◌+◌, ◌∷◌, [], ◌++◌, inr, sym, ap, subst, take, List, Option, Some}
use Rattle.std.proofs.lemmas.List.{take_more}
use Rattle.cad_map.specs.declared.stars.Spoke.{Spoke}
use Rattle.cad_files.proofs.SoleFollower.{IsSearched, search-passes, search-finds, search-two, searched-all, searched-some, searched-none}
use Rattle.cad_files.proofs.followers.searched_follower.Goals as goal
use Rattle.cad_files.proofs.followers.searched_follower.Goals.{then-may_follow+else-is_other, else-may_follow}

pub returns-then-is_other-clause-none : goal.returns-then-is_other-clause-none
returns-then-is_other-clause-none c =
    let ends = c.args.ends.now in
    inr (search-two c.args.side.now ends (take c.loop-i.i ends) c.index-ends-i.result c.loop-i.found c.loop-i.invariant
    (c.loop-i.i, c.loop-i-test.true, sym c.index-ends-i.is) (sym c.may_follow.ensures ∙ c.if-may_follow.true) (sym c.is_other.ensures ∙ c.if-is_other.true))

pub loop-i-preserved : goal.loop-i-preserved
loop-i-preserved c =
    let ends = c.args.ends.now in
    let side = c.args.side.now in
    let i = c.loop-i.i in
    let spoke = c.index-ends-i.result in
    let more : take (i + 1) ends ≡ take i ends ++ spoke ∷ [] = take_more ends i spoke c.loop-i-test.true ∙ ap (λ (u : Spoke). take i ends ++ u ∷ []) (sym c.index-ends-i.is) in
    elim c.if-may_follow.branch [
      | then-may_follow+else-is_other w ↦
          subst (λ (o : Option Spoke). IsSearched side ends (take (i + 1) ends) o) (sym w.found-is)
          (subst (λ (l : List Spoke). IsSearched side ends l (Some spoke)) (sym more)
          (search-finds side ends (take i ends) spoke c.loop-i.found c.loop-i.invariant (i, c.loop-i-test.true, sym c.index-ends-i.is) (sym c.may_follow.ensures ∙ w.if-may_follow.true) (sym w.is_other.ensures ∙ w.if-is_other.false)))
      | else-may_follow w ↦
          subst (λ (o : Option Spoke). IsSearched side ends (take (i + 1) ends) o) (sym w.found-is)
          (subst (λ (l : List Spoke). IsSearched side ends l c.loop-i.found) (sym more)
          (search-passes side ends (take i ends) spoke c.loop-i.found c.loop-i.invariant (sym c.may_follow.ensures ∙ w.if-may_follow.false)))
    ]

pub returns-clause-some : goal.returns-clause-some
returns-clause-some c = searched-some c.args.side.now c.args.ends.now c.loop-i.found (searched-all c.args.side.now c.args.ends.now c.loop-i.i c.loop-i.found c.loop-i-test.false c.loop-i.invariant)

pub returns-clause-none : goal.returns-clause-none
returns-clause-none c = searched-none c.args.side.now c.args.ends.now c.loop-i.found (searched-all c.args.side.now c.args.ends.now c.loop-i.i c.loop-i.found c.loop-i-test.false c.loop-i.invariant)
