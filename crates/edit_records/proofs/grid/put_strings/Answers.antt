use Rattle.std.proofs.Common.{◌≤◌, length, sym, refl, rules}
use Rattle.cad_rows.specs.declared.rows.StringRow.{StringRow}
use Rattle.edit_records.specs.Gridded.{string_entry}
use Rattle.edit_records.proofs.GridRows.{just-none, just-all, just-more, not-yet, same-still}
use Rattle.edit_records.proofs.grid.put_strings.Goals as goal

pub loop-place-init : goal.loop-place-init
loop-place-init c = record {
  strings = just-none (λ (s : StringRow). s.number) (string_entry c.args.map.now) c.args.map.now.strings c.args.grid.now.strings c.requires.none;
  points = λ e. ((λ h. h), (λ h. h));
}

pub put_string-requires : goal.put_string-requires
put_string-requires c =
    let m = c.args.map.now in
    let at = rw c.unwrap-row.ensures at c.string_at.ensures in
    rw (c.position-in-loop-place.ensures, c.position.ensures) (not-yet (λ (s : StringRow). s.number) (string_entry m) m.strings (λ s. refl) c.requires.sound.strings.distinct c.loop-place.place c.unwrap-row.result.now (sym at)
    c.loop-place.grid.strings c.loop-place.invariant.strings)

pub loop-place-preserved : goal.loop-place-preserved
loop-place-preserved c =
    let m = c.args.map.now in
    let at = rw c.unwrap-row.ensures at c.string_at.ensures in
    record {
      strings = just-more (λ (s : StringRow). s.number) (string_entry m) m.strings (λ s. refl) c.requires.sound.strings.distinct c.loop-place.place c.unwrap-row.result.now (sym at)
          c.loop-place.grid.strings c.loop-place.invariant.strings c.put_string.new.self.strings (rw (c.position-in-loop-place.ensures, c.position.ensures) at c.in_ok-put_string.ensures.put);
      points = same-still c.args.grid.now.points c.loop-place.grid.points c.put_string.new.self.points c.loop-place.invariant.points c.put_string.ensures.points;
    }

pub returns-clause-strings : goal.returns-clause-strings
returns-clause-strings c =
    let m = c.args.map.now in
    let past : length m.strings ≤ c.loop-place.place = search rules in
    just-all (λ (s : StringRow). s.number) (string_entry m) m.strings c.loop-place.place c.loop-place.grid.strings past c.loop-place.invariant.strings
