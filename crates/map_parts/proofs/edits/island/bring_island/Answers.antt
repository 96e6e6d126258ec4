use Rattle.std.proofs.Common.{◌≡◌, ◌+◌, length, sym, ap, ◌∙◌}
use Rattle.half_table.specs.declared.half.Half.{Half}
use Rattle.half_table.specs.Half.{twin}
use Rattle.half_table.specs.Count.{ticked}
use Rattle.half_table.specs.Rows.{cycle}
use Rattle.half_paths.proofs.Along.{ticked-add}
use Rattle.map_parts.specs.Relabelled.{cycles_length}
use Rattle.map_parts.proofs.RelabelledEach.{both-ends, each-ends, ends-then, cycle-same, in-relabelled, length-same}
use Rattle.map_parts.proofs.IslandFits.{fits-with}
use Rattle.map_parts.proofs.edits.island.bring_island.Goals as goal

pub relabel-requires : goal.relabel-requires
relabel-requires g c = c.tie_ring.ensures.halves.has c.args.first.now ∙ c.requires.within.0

pub relabel-requires-2 : goal.relabel-requires-2
relabel-requires-2 g c =
    c.twin-back.ensures.inside ∙ c.relabel.ensures.relabels.has c.args.first.now ∙ c.tie_ring.ensures.halves.has c.args.first.now ∙ c.requires.within.0

pub relabel_each-requires-clause-within : goal.relabel_each-requires-clause-within
relabel_each-requires-clause-within g c =
    in-relabelled c.args.table.now.rows c.relabel-2.new.self.rows c.args.moved.now
    (λ h. c.relabel-2.ensures.relabels.has h ∙ c.relabel.ensures.relabels.has h ∙ c.tie_ring.ensures.halves.has h) c.requires.moved_in

pub returns-clause-halves : goal.returns-clause-halves
returns-clause-halves g c = ends-then (both-ends c.tie_ring.ensures.halves c.relabel.ensures.relabels c.relabel-2.ensures.relabels) (each-ends c.relabel_each.ensures.relabels)

pub returns-clause-island : goal.returns-clause-island
returns-clause-island g c = λ whole parted ring left right others rings parts it more along ends of fits.
    fits-with whole parted c.args.outer.now c.args.inner.now ring left right others it parts c.args.first.now c.args.rest.now more c.args.moved.now rings
    c.requires.different c.args.table.now.rows c.tie_ring.new.table.rows c.relabel.new.self.rows c.relabel-2.new.self.rows c.relabel_each.new.table.rows
    c.twin-back.result c.twin-back.ensures.is c.tie_ring.ensures.round c.tie_ring.ensures.elsewhere c.tie_ring.ensures.halves c.tie_ring.ensures.linked
    c.relabel.ensures.relabels c.relabel-2.ensures.relabels c.relabel_each.ensures.relabels c.relabel_each.ensures.linked along ends of fits

pub returns-clause-work : goal.returns-clause-work
returns-clause-work g c =
    let mid = c.tie_ring.new.table.rows in
    let one = c.relabel.new.self.rows in
    let two = c.relabel-2.new.self.rows in
    let last = c.relabel_each.new.table.rows in
    let a : Half = c.args.first.now in
    let moved = c.args.moved.now in
    let l = c.relabel.ensures.relabels in
    let l2 = c.relabel-2.ensures.relabels in
    let l3 = c.relabel_each.ensures.relabels in
    let w = c.args.table.now.work in
    let n = length c.args.rest.now + 1 in
    let p = length (cycle mid a) in
    let q = length (cycle one c.twin-back.result) in
    let r = cycles_length two moved in
    let is_p : p ≡ length (cycle last a) =
    λ i. length (sym (cycle-same mid last (l3.strings ∙ l2.strings ∙ l.strings) (λ h. l3.next h ∙ l2.next h ∙ l.next h)) i a) in
    let is_q : q ≡ length (cycle last (twin a)) =
    λ i. length (sym (cycle-same one last (l3.strings ∙ l2.strings) (λ h. l3.next h ∙ l2.next h)) i (c.twin-back.ensures.is i)) in
    let is_r : r ≡ cycles_length last moved = sym (length-same two last moved l3.strings l3.next) in
    c.relabel_each.ensures.work ∙ ap (ticked r) (c.relabel-2.ensures.work ∙ ap (ticked q) (c.relabel.ensures.work ∙ ap (ticked p) c.tie_ring.ensures.work))
    ∙ sym (ticked-add n (p + (q + r)) w ∙ ticked-add p (q + r) (ticked n w) ∙ ticked-add q r (ticked p (ticked n w)))
    ∙ (λ i. ticked (n + (is_p i + (is_q i + is_r i))) w)
