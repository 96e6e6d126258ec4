use Rattle.std.proofs.lemmas.Bool.{OnTrue_at}
use Rattle.cad_near.proofs.ManyStrings.{groups-more}
use Rattle.cad_near.proofs.many.put_if_apart.Goals as goal

pub returns-then-branch-clause-groups : goal.returns-then-branch-clause-groups
returns-then-branch-clause-groups g c =
    groups-more (g.M.MapView.map c.args.map.now) c.args.point c.args.items.now c.args.groups.now.items c.put_group.new.groups.items c.put_group.ensures.small
    (OnTrue_at c.if-branch.true c.in_ok-lead_apart.ensures) c.requires c.put_group.ensures.each
