use Rattle.std.proofs.Common.{◌≡◌, ◌∙◌, ◌+◌, length}
use Rattle.half_table.specs.Count.{ticked}
use Rattle.half_table.specs.Rows.{cycle}
use Rattle.map_parts.specs.Relabelled.{cycles_length}
use Rattle.map_parts.proofs.TicksAdded.{two-steps}
use Rattle.map_parts.proofs.RelabelledEach.{each-more, in-relabelled, length-same}
use Rattle.map_parts.proofs.edits.faces.relabel_path.Goals as goal

pub relabel-requires : goal.relabel-requires
relabel-requires g c = c.requires.within.0

pub relabel_each-requires-clause-within : goal.relabel_each-requires-clause-within
relabel_each-requires-clause-within g c =
    in-relabelled c.args.table.now.rows c.relabel.new.self.rows c.args.rest.now c.relabel.ensures.relabels.has c.requires.within.1

pub returns-clause-relabels : goal.returns-clause-relabels
returns-clause-relabels g c =
    each-more c.args.first.now c.args.rest.now c.args.face.now c.args.table.now.rows c.relabel.new.self.rows c.relabel_each.new.table.rows c.relabel.ensures.relabels c.relabel_each.ensures.relabels

pub returns-clause-work : goal.returns-clause-work
returns-clause-work g c =
    let old = c.args.table.now.rows in
    let rest = c.args.rest.now in
    let w = c.args.table.now.work in
    let p = length (cycle old c.args.first.now) in
    let q = cycles_length c.relabel.new.self.rows rest in
    let is_q : q ≡ cycles_length old rest = length-same old c.relabel.new.self.rows rest c.relabel.ensures.relabels.strings c.relabel.ensures.relabels.next in
    two-steps p q w c.relabel.ensures.work c.relabel_each.ensures.work ∙ (λ i. ticked (p + is_q i) w)
