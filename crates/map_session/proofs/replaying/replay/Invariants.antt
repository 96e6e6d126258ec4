use Rattle.std.proofs.Common.{take}
use Rattle.cad_history.specs.History.{History}
use Rattle.cad_history.specs.Standing.{StandsFor, StandsForSome}
use Rattle.map_session.specs.Session.{Replays}
use Rattle.map_session.proofs.replaying.replay.Given as goal

abbrev pub invariant-loop-place : goal.invariant-loop-place
invariant-loop-place g l =
    let map_of = g.M.MapView.map in
    let belongs = g.M.MapStore.belongs in
    StandsForSome map_of belongs l.editor
    × ((h : History) → StandsFor map_of belongs l.fn.editor h → (end : History) × Replays h (take l.place l.lines) end × StandsFor map_of belongs l.editor end)
