use Rattle.std.proofs.Common.{◌≤◌, length, map, take}
use Rattle.csv.specs.Records.{fields_of}
use Rattle.cad_history.specs.History.{History}
use Rattle.cad_history.specs.Standing.{StandsFor, StandsForSome}
use Rattle.map_job.specs.Batches.{IsBatch}
use Rattle.map_job.proofs.serving.do_records.Given as goal

abbrev pub invariant-loop-record : goal.invariant-loop-record
invariant-loop-record g l =
    let map_of = g.M.MapView.map in
    let belongs = g.M.MapStore.belongs in
    StandsForSome map_of belongs l.editor
    × (length l.batch.lines.items ≤ l.record-index)
    × ((h : History) → StandsFor map_of belongs l.fn.editor h → (end : History)
    × IsBatch h (map fields_of (take l.record-index l.records)) l.batch.lines.items l.batch.answers.items end × StandsFor map_of belongs l.editor end)
