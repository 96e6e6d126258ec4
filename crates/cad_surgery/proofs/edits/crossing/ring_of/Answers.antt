use Rattle.std.proofs.Common.{◌≡◌, ◌≤◌, ℕ, ap, sym, subst, ◌∙◌, true, List, ◌++◌, map, length}
use Rattle.std.proofs.lemmas.List.{append-nil}
use Rattle.half_table.specs.Rows.{has, origin_of, cycle}
use Rattle.half_paths.specs.Path.{AreIn}
use Rattle.map_parts.specs.Parts.{Parts, FitTogether}
use Rattle.cad_surgery.proofs.CrossedRing.{half-in, round-in, round-long}
use Rattle.cad_surgery.proofs.edits.crossing.ring_of.Goals as goal

pub walk-each-items-requires : goal.walk-each-items-requires
walk-each-items-requires g c =
    subst (λ (d : Parts). has d.table.rows c.args.half.now ≡ true) (sym c.draft.view_is)
    (half-in c.args.draft.now (subst FitTogether c.draft.view_is c.draft.invariant) c.args.half.now c.requires)

pub loop-each-init : goal.loop-each-init
loop-each-init g c =
    let d = c.args.draft.now in
    let fit = subst FitTogether c.draft.view_is c.draft.invariant in
    let told = c.into_iter-each-iterator.ensures.into_iter_gives ∙ c.walk-each-items.ensures.halves ∙ ap (λ (q : Parts). cycle q.table.rows c.args.half.now) c.draft.view_is in
    record {
      points = λ i. c.new-points.ensures.items i ++ map (origin_of d.table.rows) (told i);
      ahead = subst (AreIn d.table.rows) (sym told) (round-in d fit c.args.half.now c.requires);
    }

pub from_points-requires : goal.from_points-requires
from_points-requires g c =
    let d = c.args.draft.now in
    let fit = subst FitTogether c.draft.view_is c.draft.invariant in
    let none = rw c.in-None.is at c.next.ensures.steps in
    let all = sym (append-nil c.loop-each.points.items) ∙ (λ i. c.loop-each.points.items ++ map (origin_of d.table.rows) (sym none.0 i)) ∙ c.loop-each.invariant.points in
    subst (λ (l : List ℕ). 2 ≤ length l) (sym (c.as_slice.ensures.value ∙ all)) (round-long d fit c.args.half.now c.requires)
