use Rattle.edit_records.specs.Gridded.{string_entries, point_entries}
use Rattle.edit_records.proofs.Exchanges.{can-leave, left}
use Rattle.edit_records.proofs.grid.withdraw.Goals as goal

pub take_all-requires-clause-strings : goal.take_all-requires-clause-strings
take_all-requires-clause-strings c =
    let r = c.requires in
    can-leave (string_entries r.0) (string_entries r.2) c.args.grid.now.strings c.args.gone.now.strings r.4.strings_gone r.3.strings

pub take_all-requires-clause-points : goal.take_all-requires-clause-points
take_all-requires-clause-points c =
    let r = c.requires in
    can-leave (point_entries r.0) (point_entries r.2) c.args.grid.now.points c.args.gone.now.points r.4.points_gone r.3.points

pub returns : goal.returns
returns c = λ old new come both x. record {
  strings = left (string_entries old) (string_entries new) c.args.grid.now.strings c.args.gone.now.strings x.strings_gone both.strings c.take_all.new.self.strings c.take_all.ensures.strings;
  points = left (point_entries old) (point_entries new) c.args.grid.now.points c.args.gone.now.points x.points_gone both.points c.take_all.new.self.points c.take_all.ensures.points;
}
