use Rattle.std.proofs.Common.{◌≡◌, ◌≤◌, ◌∙◌, sym, subst, length, false}
use Rattle.half_table.specs.Half.{is_half}
use Rattle.half_table.proofs.Relabelled.{begun, further, fewer, ended, relabelled-linked}
use Rattle.half_table.specs.Rows.{cycle}
use Rattle.half_table.proofs.Counted.{ticked-no-less}
use Rattle.half_table.proofs.changes.relabel_cycle.Goals as goal

pub loop-at-init : goal.loop-at-init
loop-at-init g c =
    begun c.args.rows.now c.set_face-at.new.rows c.args.h.now c.set_face-at.result c.args.face.now _ _ c.requires.linked c.requires.h_in
    c.set_face-at.ensures.changes c.tick.ensures c.set_face-at.ensures.next

pub set_face-at-requires-in-loop-at : goal.set_face-at-requires-in-loop-at
set_face-at-requires-in-loop-at g c = c.loop-at.invariant.relabels.has c.loop-at.at ∙ c.loop-at.invariant.at_in

pub loop-at-smaller : goal.loop-at-smaller
loop-at-smaller g c =
    let other : is_half c.loop-at.at c.args.h.now ≡ false = sym c.is_same.ensures ∙ c.loop-at-test.true in
    fewer _ _ _ _ _ _ _ c.loop-at.invariant c.set_face-at-in-loop-at.result c.set_face-at-in-loop-at.new.rows other c.set_face-at-in-loop-at.ensures.changes c.set_face-at-in-loop-at.ensures.next

pub loop-at-preserved : goal.loop-at-preserved
loop-at-preserved g c =
    let other : is_half c.loop-at.at c.args.h.now ≡ false = sym c.is_same.ensures ∙ c.loop-at-test.true in
    further _ _ _ _ _ _ _ c.loop-at.invariant c.set_face-at-in-loop-at.new.rows c.set_face-at-in-loop-at.result _ c.requires.linked other
    c.set_face-at-in-loop-at.ensures.changes c.tick-in-loop-at.ensures c.set_face-at-in-loop-at.ensures.next

pub returns-clause-relabels : goal.returns-clause-relabels
returns-clause-relabels g c = (ended _ _ _ _ _ _ _ c.loop-at.invariant (sym c.is_same.ensures ∙ c.loop-at-test.false)).0

pub returns-clause-linked : goal.returns-clause-linked
returns-clause-linked g c = relabelled-linked _ _ _ _ c.requires.linked c.loop-at.invariant.relabels

pub returns-clause-work : goal.returns-clause-work
returns-clause-work g c = (ended _ _ _ _ _ _ _ c.loop-at.invariant (sym c.is_same.ensures ∙ c.loop-at-test.false)).1

pub returns-clause-grows : goal.returns-clause-grows
returns-clause-grows g c =
    let work = (ended _ _ _ _ _ _ _ c.loop-at.invariant (sym c.is_same.ensures ∙ c.loop-at-test.false)).1 in
    subst (λ n. g.T.Tally.counted c.args.tally.now ≤ n) (sym work) (ticked-no-less (length (cycle c.args.rows.now c.args.h.now)) (g.T.Tally.counted c.args.tally.now) (g.met.T.Tally.within c.args.tally.now)).0
