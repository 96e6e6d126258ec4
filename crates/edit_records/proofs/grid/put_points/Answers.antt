use Rattle.std.proofs.Common.{◌≤◌, length, sym, refl, rules}
use Rattle.cad_rows.specs.declared.rows.PointRow.{PointRow}
use Rattle.edit_records.specs.Gridded.{point_entry}
use Rattle.edit_records.proofs.GridRows.{just-none, just-all, just-more, not-yet, same-still}
use Rattle.edit_records.proofs.grid.put_points.Goals as goal

pub loop-place-init : goal.loop-place-init
loop-place-init c = record {
  points = just-none (λ (p : PointRow). p.number) point_entry c.args.map.now.points c.args.grid.now.points c.requires.none;
  strings = λ e. ((λ h. h), (λ h. h));
}

pub put_point-requires : goal.put_point-requires
put_point-requires c =
    let m = c.args.map.now in
    let at = rw c.unwrap-row.ensures at c.point_at.ensures in
    not-yet (λ (p : PointRow). p.number) point_entry m.points (λ p. refl) c.requires.sound.points.distinct c.loop-place.place c.unwrap-row.result.now (sym at)
    c.loop-place.grid.points c.loop-place.invariant.points

pub loop-place-preserved : goal.loop-place-preserved
loop-place-preserved c =
    let m = c.args.map.now in
    let at = rw c.unwrap-row.ensures at c.point_at.ensures in
    record {
      points = just-more (λ (p : PointRow). p.number) point_entry m.points (λ p. refl) c.requires.sound.points.distinct c.loop-place.place c.unwrap-row.result.now (sym at)
          c.loop-place.grid.points c.loop-place.invariant.points c.put_point.new.self.points c.in_ok-put_point.ensures.put;
      strings = same-still c.args.grid.now.strings c.loop-place.grid.strings c.put_point.new.self.strings c.loop-place.invariant.strings c.put_point.ensures.strings;
    }

pub returns-clause-points : goal.returns-clause-points
returns-clause-points c =
    let m = c.args.map.now in
    let past : length m.points ≤ c.loop-place.place = search rules in
    just-all (λ (p : PointRow). p.number) point_entry m.points c.loop-place.place c.loop-place.grid.points past c.loop-place.invariant.points
