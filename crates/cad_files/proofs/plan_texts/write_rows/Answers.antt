use Rattle.std.proofs.Common.{◌≡◌, ◌≤◌, ◌<◌, List, length, take}
use Rattle.std.proofs.lemmas.List.{take_all}
use Rattle.cad_files.specs.Texts.{Record, records_of}
use Rattle.cad_files.proofs.TextFacts.{appended-next}
use Rattle.cad_files.proofs.plan_texts.write_rows.Goals as goal

pub loop-place-preserved : goal.loop-place-preserved
loop-place-preserved g c =
    let records : List Record = records_of (g.M.MapView.map c.args.view.now) c.args.kind in
    let within : c.loop-place.place < length records = rw c.count_of-place-end.ensures at c.loop-place-test.true in
    appended-next records c.loop-place.place within c.loop-place.invariant c.in_ok-write_row.ensures

pub returns : goal.returns
returns g c =
    let records : List Record = records_of (g.M.MapView.map c.args.view.now) c.args.kind in
    let past : length records ≤ c.loop-place.place = rw c.count_of-place-end.ensures at c.loop-place-test.false in
    let whole : take c.loop-place.place records ≡ records = take_all c.loop-place.place records past in
    rw whole at c.loop-place.invariant
