use Rattle.std.proofs.Common.{◌∙◌, ap, arith}
use Rattle.half_table.specs.Count.{one_more}
use Rattle.map_parts.proofs.Passing.Begun.{second-free, adds-two}
use Rattle.map_parts.proofs.edits.rooms.add_path.Goals as goal

pub add_loose-requires : goal.add_loose-requires
add_loose-requires g c = c.requires.new.0

pub add_loose-requires-2 : goal.add_loose-requires-2
add_loose-requires-2 g c =
    second-free c.args.first.now c.args.second.now c.requires.differ c.args.table.now.rows c.add_loose.new.self.rows c.requires.new c.in_ok-add_loose.ensures.adds

pub returns-clause-adds : goal.returns-clause-adds
returns-clause-adds g c =
    adds-two c.args.first.now c.args.second.now c.requires.differ c.args.table.now.rows c.add_loose.new.self.rows c.add_loose-2.new.self.rows c.in_ok-add_loose.ensures.adds c.in_default.ensures.adds

pub returns-in-Err-clause-err_work : goal.returns-in-Err-clause-err_work
returns-in-Err-clause-err_work g c =
    (2, omega arith, c.remove_loose.ensures.work ∙ ap one_more (ap (λ t. t.work) c.in-Err.ensures.err ∙ c.in_ok-add_loose.ensures.work))
