use Rattle.std.proofs.Common.{sym, subst, ◌∙◌, List}
use Rattle.std.specs.List.{AllByRecursion}
use Rattle.cad_map.specs.declared.stars.Spoke.{Spoke}
use Rattle.cad_files.specs.Arrival.{IsPlacedSpoke}
use Rattle.cad_files.proofs.FollowerFacts.{star-seen, told-sole, told-one, told-either, told-none}
use Rattle.cad_files.proofs.followers.follower.Goals as goal

pub position_beyond-requires : goal.position_beyond-requires
position_beyond-requires c =
    subst (λ (l : List Spoke). AllByRecursion (IsPlacedSpoke c.args.plain.now) l) (sym (c.ends-ends.ensures ∙ c.requires.stars c.args.to)) (star-seen c.args.plain.now c.args.to)

pub position_beyond-requires-2 : goal.position_beyond-requires-2
position_beyond-requires-2 c =
    subst (λ (l : List Spoke). AllByRecursion (IsPlacedSpoke c.args.plain.now) l) (sym (c.ends.ensures ∙ c.requires.stars c.args.from)) (star-seen c.args.plain.now c.args.from)

pub returns-in-Some-clause-among : goal.returns-in-Some-clause-among
returns-in-Some-clause-among c = (c.in-Some.ensures c.args.plain.now c.requires.turns).among

pub returns-in-Some-clause-some : goal.returns-in-Some-clause-some
returns-in-Some-clause-some c = told-sole c.args.plain.now c.args.from c.args.to c.in-Some.spoke (c.in-Some.ensures c.args.plain.now c.requires.turns)

pub returns-in-Some-sole_follower-clause-some : goal.returns-in-Some-sole_follower-clause-some
returns-in-Some-sole_follower-clause-some c =
    told-one c.args.plain.now c.args.from c.args.to c.position_beyond.result c.position_beyond-2.result c.ends-ends.result.now c.position_beyond.ensures c.position_beyond-2.ensures
    (c.ends-ends.ensures ∙ c.requires.stars c.args.to) c.in-Some-sole_follower.spoke c.in-Some-sole_follower.ensures

pub returns-clause-some : goal.returns-clause-some
returns-clause-some c =
    told-either c.args.plain.now c.args.from c.args.to c.position_beyond.result c.position_beyond-2.result c.ends-ends.result.now c.position_beyond.ensures c.position_beyond-2.ensures
    (c.ends-ends.ensures ∙ c.requires.stars c.args.to) c.searched_follower.result c.searched_follower.ensures.some

pub returns-clause-none : goal.returns-clause-none
returns-clause-none c =
    told-none c.args.plain.now c.args.from c.args.to c.position_beyond.result c.position_beyond-2.result c.ends-ends.result.now c.position_beyond.ensures c.position_beyond-2.ensures
    (c.ends-ends.ensures ∙ c.requires.stars c.args.to) c.searched_follower.result c.searched_follower.ensures.none
