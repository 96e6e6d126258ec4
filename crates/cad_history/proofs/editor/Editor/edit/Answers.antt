use Rattle.std.proofs.Common.{◌≡◌, Err, rules, sym}
use Rattle.cad_history.proofs.Moves.{shown_map-valid}
use Rattle.cad_history.proofs.Calls.{goes-edit, goes-refused}
use Rattle.cad_history.proofs.editor.Editor.edit.Goals as goal

pub apply-requires : goal.apply-requires
apply-requires g c = rw (sym c.self.view_is) at (shown_map-valid g.M.MapView.map g.M.MapStore.belongs c.args.self.now c.requires.0 c.requires.1)

pub returns-in_err-record : goal.returns-in_err-record
returns-in_err-record g c =
    let s = c.self.inside in
    let map_of = g.M.MapView.map in
    let belongs = g.M.MapStore.belongs in
    let told : c.from_residual.result ≡ Err c.in_err-record.field-0.0 = search rules in
    rw (sym c.self.view_is, told)
    (goes-refused map_of belongs s.store c.apply.new.self s.records.items s.place s.records.capacity c.args.edit.now _ c.in_err-record.ensures.refused c.in_err-record.ensures.err)

pub returns : goal.returns
returns g c =
    let s = c.self.inside in
    let map_of = g.M.MapView.map in
    let belongs = g.M.MapStore.belongs in
    let r = c.in_ok-record in
    rw (sym c.self.view_is)
    (rw (c.len-self-inside.ensures.len, c.push_back.ensures.items, c.truncate_back.ensures)
    (goes-edit map_of belongs s.store c.apply.new.self s.records.items s.place s.records.capacity c.args.edit.now r.record r.ensures.made r.ensures.recorded))
