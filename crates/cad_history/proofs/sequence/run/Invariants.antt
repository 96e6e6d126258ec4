use Rattle.std.proofs.Common.{◌≡◌, length, take, ◌≤◌, vec_len}
use Rattle.std.specs.Vec.{vec_capacity}
use Rattle.cad_history.specs.Standing.{StandsForSome, GoesAlong}
use Rattle.cad_history.proofs.sequence.run.Given as goal

-- there is room for all answers, and the steps so far were a run
abbrev pub invariant-loop-command : goal.invariant-loop-command
invariant-loop-command g l =
    let map_of = g.M.MapView.map in
    let belongs = g.M.MapStore.belongs in
    record {
      room : length l.commands ≤ vec_capacity l.answers;
      each : vec_len l.answers ≡ l.command-index;
      some : StandsForSome map_of belongs l.editor;
      runs : GoesAlong map_of belongs l.fn.editor (take l.command-index l.commands) l.answers.items l.editor;
    }
