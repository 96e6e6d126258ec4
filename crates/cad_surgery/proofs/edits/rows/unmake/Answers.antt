use Rattle.std.proofs.Common.{◌∙◌, ap}
use Rattle.std.proofs.lemmas.Result.{on_ok_weaker}
use Rattle.cad_map.specs.Changes.{change_parcel}
use Rattle.cad_map.specs.Effects.{after}
use Rattle.cad_map.specs.MapRows.{map_in}
use Rattle.cad_surgery.proofs.RowsMade.{source-back, point-came, point-back, dropped-gone, dropped-place, dropped-back, moved-there, moved-away, named-there, named-again, attached-there, attached-has, attached-back, detached-there, detached-place, detached-back}
use Rattle.cad_surgery.proofs.edits.rows.unmake.Goals as goal

pub take_point-requires : goal.take_point-requires
take_point-requires c =
    let it = c.in-AddPoint in
    let made = rw it.is at c.requires.made in
    point-came made.0 (map_in c.args.rows.now) it.point it.position made.2

pub put_point_back-requires-clause-absent : goal.put_point_back-requires-clause-absent
put_point_back-requires-clause-absent c =
    let it = c.in-DropPoint in
    let made = rw it.is at c.requires.made in
    dropped-gone made.0 (map_in c.args.rows.now) it.row.number made.2

pub put_point_back-requires-clause-place : goal.put_point_back-requires-clause-place
put_point_back-requires-clause-place c =
    let it = c.in-DropPoint in
    let made = rw it.is at c.requires.made in
    dropped-place made.0 (map_in c.args.rows.now) it.row it.place made.1 made.2

pub move_point-requires : goal.move_point-requires
move_point-requires c =
    let it = c.in-Move in
    let made = rw it.is at c.requires.made in
    moved-there made.0 (map_in c.args.rows.now) it.point it.from it.to made.1 made.2

pub detach-requires-clause-there : goal.detach-requires-clause-there
unfolding after
detach-requires-clause-there c =
    let it = c.in-Attach in
    let made = rw it.is at c.requires.made in
    attached-there made.0 (map_in c.args.rows.now) it.item it.source made.1 made.2

pub detach-requires-clause-attached : goal.detach-requires-clause-attached
unfolding after
detach-requires-clause-attached c =
    let it = c.in-Attach in
    let made = rw it.is at c.requires.made in
    attached-has made.0 (map_in c.args.rows.now) it.item it.source made.1 made.2

pub attach_at-requires-clause-there : goal.attach_at-requires-clause-there
unfolding after
attach_at-requires-clause-there c =
    let it = c.in-Detach in
    let made = rw it.is at c.requires.made in
    detached-there made.0 (map_in c.args.rows.now) it.item it.source it.place made.1 made.2

pub attach_at-requires-clause-place : goal.attach_at-requires-clause-place
unfolding after
attach_at-requires-clause-place c =
    let it = c.in-Detach in
    let made = rw it.is at c.requires.made in
    detached-place made.0 (map_in c.args.rows.now) it.item it.source it.place made.1 made.2

pub rename-requires : goal.rename-requires
rename-requires c =
    let it = c.in-Rename in
    let made = rw it.is at c.requires.made in
    named-there made.0 (map_in c.args.rows.now) it.parcel it.from it.to made.1 made.2

pub returns-in-AddSource-clause-ok : goal.returns-in-AddSource-clause-ok
returns-in-AddSource-clause-ok c m made is =
    let it = c.in-AddSource in
    c.take_source.ensures ∙ source-back m (map_in c.args.rows.now) it.row (rw it.is at made) (rw it.is at is)

pub returns-in-AddPoint-clause-ok : goal.returns-in-AddPoint-clause-ok
returns-in-AddPoint-clause-ok c m made is =
    let it = c.in-AddPoint in
    c.take_point.ensures.rows ∙ point-back m (map_in c.args.rows.now) it.point it.position (rw it.is at made) (rw it.is at is)

pub returns-in-DropPoint-clause-ok : goal.returns-in-DropPoint-clause-ok
returns-in-DropPoint-clause-ok c =
    let it = c.in-DropPoint in
    on_ok_weaker c.put_point_back.result
    (λ now m made is. now ∙ dropped-back m (map_in c.args.rows.now) it.row it.place (rw it.is at made) (rw it.is at is))
    c.put_point_back.ensures.ok

pub returns-in-Move-clause-ok : goal.returns-in-Move-clause-ok
returns-in-Move-clause-ok c m made is =
    let it = c.in-Move in
    c.move_point.ensures.rows ∙ moved-away m (map_in c.args.rows.now) it.point it.from it.to (rw it.is at made) (rw it.is at is)

pub returns-in_ok-detach-in-Attach-clause-ok : goal.returns-in_ok-detach-in-Attach-clause-ok
unfolding after
returns-in_ok-detach-in-Attach-clause-ok c m made is =
    let it = c.in-Attach in
    c.in_ok-detach-in-Attach.ensures.ok ∙ attached-back m (map_in c.args.rows.now) it.item it.source (rw it.is at made) (rw it.is at is)

pub returns-in-Detach-clause-ok : goal.returns-in-Detach-clause-ok
unfolding after
returns-in-Detach-clause-ok c =
    let it = c.in-Detach in
    on_ok_weaker c.attach_at.result
    (λ now m made is. now ∙ detached-back m (map_in c.args.rows.now) it.item it.source it.place (rw it.is at made) (rw it.is at is))
    c.attach_at.ensures.ok

pub returns-in_ok-copy-in-Rename-clause-ok : goal.returns-in_ok-copy-in-Rename-clause-ok
returns-in_ok-copy-in-Rename-clause-ok c m made is =
    let it = c.in-Rename in
    c.rename.ensures.rows
    ∙ ap (λ l. change_parcel it.parcel (λ r. record r { label = l }) (map_in c.args.rows.now)) c.in_ok-copy-in-Rename.ensures
    ∙ named-again m (map_in c.args.rows.now) it.parcel it.from it.to (rw it.is at made) (rw it.is at is)
