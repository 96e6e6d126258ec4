use Rattle.std.proofs.Common.{◌≡◌, take}
use Rattle.std.proofs.lemmas.List.{take_all}
use Rattle.cad_views.specs.Differences.{difference_record}
use Rattle.cad_views.proofs.JoinFacts.{appended-map}
use Rattle.cad_views.proofs.differences.write_differences.Goals as goal

pub loop-place-preserved : goal.loop-place-preserved
loop-place-preserved c = appended-map (difference_record c.args.old.now c.args.new.now) c.args.names.now c.loop-place.place c.index-names-place.result c.loop-place-test.true c.index-names-place.is c.loop-place.invariant c.in_ok-write_difference.ensures

pub returns : goal.returns
returns c =
    let whole : take c.loop-place.place c.args.names.now ≡ c.args.names.now = take_all c.loop-place.place c.args.names.now c.loop-place-test.false in
    rw whole at c.loop-place.invariant
