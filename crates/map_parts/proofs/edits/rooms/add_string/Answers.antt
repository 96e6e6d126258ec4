use Rattle.map_parts.proofs.Passing.Begun.{adds-one}
use Rattle.map_parts.proofs.edits.rooms.add_string.Goals as goal

pub add_loose-requires : goal.add_loose-requires
add_loose-requires g c = c.requires.new.0

pub returns-clause-adds : goal.returns-clause-adds
returns-clause-adds g c = adds-one c.args.string.now c.args.table.now.rows c.add_loose.new.self.rows c.in_ok-add_loose.ensures.adds
