use Rattle.std.proofs.Common.{◌∙◌, sym}
use Rattle.cad_files.proofs.SoleFollower.{sole}
use Rattle.cad_files.proofs.followers.sole_follower.Goals as goal

pub returns-then-are_barred : goal.returns-then-are_barred
returns-then-are_barred c =
    sole c.args.side.now c.args.ends.now c.in_ok-to.to c.in_ok-to.ensures (sym c.may_follow.ensures ∙ c.if-may_follow.true) (sym c.are_barred.ensures ∙ c.if-are_barred.true)
