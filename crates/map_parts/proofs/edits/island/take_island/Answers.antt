use Rattle.std.proofs.Common.{◌≡◌, ◌+◌, ◌∷◌, length, sym, ap, ◌∙◌, subst}
use Rattle.half_table.specs.Half.{twin}
use Rattle.half_table.specs.Count.{ticked}
use Rattle.half_table.specs.Rows.{cycle}
use Rattle.half_paths.specs.Round.{IsRound}
use Rattle.half_paths.proofs.Along.{ticked-add}
use Rattle.map_parts.specs.Relabelled.{cycles_length}
use Rattle.map_parts.proofs.RelabelledEach.{cycle-same, in-relabelled}
use Rattle.map_parts.proofs.IslandFits.{fits-without, relabelled-faces}
use Rattle.map_parts.proofs.edits.island.take_island.Goals as goal

pub relabel-requires : goal.relabel-requires
relabel-requires g c = c.twin-back.ensures.inside ∙ c.relabel_each.ensures.relabels.has c.args.first.now ∙ c.requires.within.0

pub untie_ring-requires-clause-within : goal.untie_ring-requires-clause-within
untie_ring-requires-clause-within g c =
    in-relabelled c.args.table.now.rows c.relabel.new.self.rows (c.args.first.now ∷ c.args.rest.now)
    (λ h. c.relabel.ensures.relabels.has h ∙ c.relabel_each.ensures.relabels.has h) c.requires.within

pub untie_ring-requires-clause-round : goal.untie_ring-requires-clause-round
untie_ring-requires-clause-round g c =
    subst (λ n. IsRound n c.args.first.now c.args.rest.now) (λ i h. sym (c.relabel.ensures.relabels.next h ∙ c.relabel_each.ensures.relabels.next h) i) c.requires.round

pub returns-clause-halves : goal.returns-clause-halves
returns-clause-halves g c = record {
  has = λ h. c.untie_ring.ensures.halves.has h ∙ c.relabel.ensures.relabels.has h ∙ c.relabel_each.ensures.relabels.has h;
  origin = λ h. c.untie_ring.ensures.halves.origin h ∙ c.relabel.ensures.relabels.origin h ∙ c.relabel_each.ensures.relabels.origin h;
}

pub returns-clause-faces : goal.returns-clause-faces
returns-clause-faces g c = λ h.
    relabelled-faces c.args.outer.now c.args.inner.now c.args.first.now c.args.moved.now c.args.table.now.rows c.relabel_each.new.table.rows c.relabel.new.self.rows c.untie_ring.new.table.rows
    c.twin-back.result c.twin-back.ensures.is c.relabel_each.ensures.relabels c.relabel.ensures.relabels c.untie_ring.ensures.halves h

pub returns-clause-island : goal.returns-clause-island
returns-clause-island g c = λ whole parted ring left right others parts long it more along ends of fits.
    fits-without whole parted c.args.outer.now c.args.inner.now ring left right others it parts c.args.first.now c.args.rest.now more c.args.moved.now long
    c.args.table.now.rows c.relabel_each.new.table.rows c.relabel.new.self.rows c.untie_ring.new.table.rows c.twin-back.result c.twin-back.ensures.is
    c.relabel_each.ensures.relabels c.relabel.ensures.relabels c.untie_ring.ensures.halves c.untie_ring.ensures.elsewhere c.untie_ring.ensures.linked along ends of fits

pub returns-clause-work : goal.returns-clause-work
returns-clause-work g c =
    let old = c.args.table.now.rows in
    let one = c.relabel_each.new.table.rows in
    let all = c.relabel_each.ensures.relabels in
    let w = c.args.table.now.work in
    let n = length c.args.rest.now + 1 in
    let q = length (cycle one c.twin-back.result) in
    let r = cycles_length old c.args.moved.now in
    let is_q : q ≡ length (cycle old (twin c.args.first.now)) = λ i. length (cycle-same old one all.strings all.next i (c.twin-back.ensures.is i)) in
    c.untie_ring.ensures.work ∙ ap (ticked n) (c.relabel.ensures.work ∙ ap (ticked q) c.relabel_each.ensures.work)
    ∙ sym (ticked-add r (q + n) w ∙ ticked-add q n (ticked r w)) ∙ (λ i. ticked (r + (is_q i + n)) w)
