use Rattle.std.proofs.Common.{subst, ◌-◌, ◌≤◌, length, arith, sym}
use Rattle.cad_history.specs.Standing.{EditorState, StandsFor}
use Rattle.cad_history.proofs.Cut.{lent_some, lent_is}
use Rattle.cad_history.proofs.Moves.{pair_before, within_records}
use Rattle.cad_history.proofs.Calls.{goes-undo, goes-nothing_to_undo, goes-no_memory_to_undo}
use Rattle.cad_history.proofs.editor.Editor.undo.Goals as goal

pub returns-then-self-eq0 : goal.returns-then-self-eq0
returns-then-self-eq0 g c =
    let s = c.self.inside in
    rw (sym c.self.view_is) (goes-nothing_to_undo g.M.MapView.map g.M.MapStore.belongs s.store s.records.items s.place s.records.capacity c.if-self-eq0.true)

pub unwrap-record-requires : goal.unwrap-record-requires
unwrap-record-requires g c =
    let s = c.self.inside in
    let place = within_records g.M.MapView.map g.M.MapStore.belongs c.args.self.now c.requires.0 c.requires.1 in
    let within : s.place ≤ length s.records.items = rw (sym c.self.view_is) at place in
    lent_some c.get.result s.records.items (s.place - 1) c.get.ensures (omega arith)

pub back-requires : goal.back-requires
back-requires g c =
    let s = c.self.inside in
    let map_of = g.M.MapView.map in
    let belongs = g.M.MapStore.belongs in
    let at = lent_is c.get.result c.unwrap-record.result s.records.items (s.place - 1) c.get.ensures c.unwrap-record.ensures in
    let st = subst (λ (e : EditorState g.row.M.Denot g.row.M-Record.Denot). StandsFor map_of belongs e c.requires.0) (sym c.self.view_is) c.requires.1 in
    let pair = pair_before map_of belongs s.store s.records.items s.place s.records.capacity c.requires.0 c.unwrap-record.result.now st (omega arith) at in
    (pair.0, pair.2)

pub returns-in-Ok : goal.returns-in-Ok
returns-in-Ok g c =
    let s = c.self.inside in
    let map_of = g.M.MapView.map in
    let belongs = g.M.MapStore.belongs in
    let at = lent_is c.get.result c.unwrap-record.result s.records.items (s.place - 1) c.get.ensures c.unwrap-record.ensures in
    rw (sym c.self.view_is)
    (goes-undo map_of belongs s.store c.back.new.self s.records.items s.place s.records.capacity c.unwrap-record.result.now (omega arith) at c.in-Ok.ensures.before)

pub returns-in-Err : goal.returns-in-Err
returns-in-Err g c =
    let s = c.self.inside in
    let map_of = g.M.MapView.map in
    let belongs = g.M.MapStore.belongs in
    rw (sym c.self.view_is)
    (goes-no_memory_to_undo map_of belongs s.store c.back.new.self s.records.items s.place s.records.capacity (omega arith) c.in-Err.ensures.err)
