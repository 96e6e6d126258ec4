use Rattle.std.proofs.Common.{subst, arith, sym}
use Rattle.cad_history.specs.Standing.{EditorState, StandsFor}
use Rattle.cad_history.proofs.Cut.{lent_some, lent_is}
use Rattle.cad_history.proofs.Moves.{pair_after}
use Rattle.cad_history.proofs.Calls.{goes-redo, goes-nothing_to_redo, goes-no_memory_to_redo}
use Rattle.cad_history.proofs.editor.Editor.redo.Goals as goal

pub returns-then-self-len : goal.returns-then-self-len
returns-then-self-len g c =
    let s = c.self.inside in
    rw (sym c.self.view_is) (goes-nothing_to_redo g.M.MapView.map g.M.MapStore.belongs s.store s.records.items s.place s.records.capacity (omega (arith, c.len.ensures.len)))

pub unwrap-record-requires : goal.unwrap-record-requires
unwrap-record-requires g c =
    let s = c.self.inside in
    lent_some c.get.result s.records.items s.place c.get.ensures (omega (arith, c.len.ensures.len))

pub forward-requires : goal.forward-requires
forward-requires g c =
    let s = c.self.inside in
    let map_of = g.M.MapView.map in
    let belongs = g.M.MapStore.belongs in
    let at = lent_is c.get.result c.unwrap-record.result s.records.items s.place c.get.ensures c.unwrap-record.ensures in
    let st = subst (λ (e : EditorState g.row.M.Denot g.row.M-Record.Denot). StandsFor map_of belongs e c.requires.0) (sym c.self.view_is) c.requires.1 in
    let pair = pair_after map_of belongs s.store s.records.items s.place s.records.capacity c.requires.0 c.unwrap-record.result.now st at in
    (pair.0, pair.2)

pub returns-in-Ok : goal.returns-in-Ok
returns-in-Ok g c =
    let s = c.self.inside in
    let map_of = g.M.MapView.map in
    let belongs = g.M.MapStore.belongs in
    let at = lent_is c.get.result c.unwrap-record.result s.records.items s.place c.get.ensures c.unwrap-record.ensures in
    rw (sym c.self.view_is)
    (goes-redo map_of belongs s.store c.forward.new.self s.records.items s.place s.records.capacity c.unwrap-record.result.now (omega (arith, c.len.ensures.len)) at c.in-Ok.ensures.after)

pub returns-in-Err : goal.returns-in-Err
returns-in-Err g c =
    let s = c.self.inside in
    let map_of = g.M.MapView.map in
    let belongs = g.M.MapStore.belongs in
    rw (sym c.self.view_is)
    (goes-no_memory_to_redo map_of belongs s.store c.forward.new.self s.records.items s.place s.records.capacity (omega (arith, c.len.ensures.len)) c.in-Err.ensures.err)
