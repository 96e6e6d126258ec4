use Rattle.std.proofs.Common.{◌≡◌, ◌<◌, ◌≤◌, sym, length, take}
use Rattle.std.proofs.lemmas.List.{take_all}
use Rattle.std.proofs.lemmas.Option.{get_or_from_slice_get}
use Rattle.cad_views.specs.Tables.{source_row}
use Rattle.cad_views.proofs.JoinFacts.{appended-map}
use Rattle.cad_views.proofs.numbers.write_sources.Goals as goal

pub loop-place-preserved : goal.loop-place-preserved
loop-place-preserved c =
    let rows = c.args.map.now.sources in
    let place = c.loop-place.place in
    let row = c.unwrap.result.now in
    let at = rw c.unwrap.ensures at c.source_at.ensures in
    let within : place < length rows = rw c.counts-place-end.ensures at c.loop-place-test.true in
    appended-map source_row rows place row within (sym (get_or_from_slice_get rows place row row (sym at))) c.loop-place.invariant c.in_ok-write_source.ensures

pub returns : goal.returns
returns c =
    let rows = c.args.map.now.sources in
    let past : length rows ≤ c.loop-place.place = rw c.counts-place-end.ensures at c.loop-place-test.false in
    let whole : take c.loop-place.place rows ≡ rows = take_all c.loop-place.place rows past in
    rw whole at c.loop-place.invariant
