use Rattle.std.proofs.Common.{◌≡◌, take}
use Rattle.std.proofs.lemmas.List.{take_all}
use Rattle.cad_views.specs.Tables.{string_row}
use Rattle.cad_views.proofs.JoinFacts.{appended-map}
use Rattle.cad_views.proofs.tables.write_strings.Goals as goal

pub loop-place-preserved : goal.loop-place-preserved
loop-place-preserved c = appended-map (string_row c.args.map.now) c.args.strings.now c.loop-place.place c.index-strings-place.result c.loop-place-test.true c.index-strings-place.is c.loop-place.invariant c.in_ok-write_string.ensures

pub returns : goal.returns
returns c =
    let whole : take c.loop-place.place c.args.strings.now ≡ c.args.strings.now = take_all c.loop-place.place c.args.strings.now c.loop-place-test.false in
    rw whole at c.loop-place.invariant
