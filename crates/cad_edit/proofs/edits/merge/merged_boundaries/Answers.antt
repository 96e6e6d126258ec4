use Rattle.std.proofs.Common.{◌≡◌, ◌∙◌, sym, subst, List, ◌++◌, map, filter, not}
use Rattle.cad_rings.specs.Cycle.{Ring}
use Rattle.cad_map.specs.declared.boundary.Boundary.{Boundary}
use Rattle.cad_map.specs.Division.{ring_with}
use Rattle.cad_map.specs.Merger.{is_taken_out, handed_over}
use Rattle.cad_edit.specs.Merging.{kept_side, ended_side, CanBeJoined, rings_joined}
use Rattle.cad_edit.proofs.CutRing.{ring-found, copied-some, told-by, told-ring}
use Rattle.cad_edit.proofs.SharedRings.{its-rings}
use Rattle.cad_edit.proofs.edits.merge.merged_boundaries.Goals.{After-unwrap-first, After-unwrap-second}
use Rattle.cad_edit.proofs.edits.merge.merged_boundaries.Goals as goal

pub unwrap-first-requires : goal.unwrap-first-requires
unwrap-first-requires c =
    let m = c.args.map.now in
    let chain = c.args.chain.now in
    let its = its-rings m c.requires.valid c.args.kept.now c.args.ended.now chain c.requires.shared in
    copied-some c.ring_with.result (ring_with (kept_side chain) m.boundaries)
    (told-by c.kept_side-from.result (kept_side chain) c.boundaries.result.now m.boundaries c.ring_with.result c.kept_side-from.ensures c.boundaries.ensures c.ring_with.ensures
    ∙ ring-found (kept_side chain) m.boundaries its.has_kept)

pub unwrap-second-requires : goal.unwrap-second-requires
unwrap-second-requires c =
    let m = c.args.map.now in
    let chain = c.args.chain.now in
    let its = its-rings m c.requires.valid c.args.kept.now c.args.ended.now chain c.requires.shared in
    copied-some c.ring_with-2.result (ring_with (ended_side chain) m.boundaries)
    (told-by c.ended_side-from.result (ended_side chain) c.boundaries-2.result.now m.boundaries c.ring_with-2.result c.ended_side-from.ensures c.boundaries-2.ensures c.ring_with-2.ensures
    ∙ ring-found (ended_side chain) m.boundaries its.has_ended)

-- the two rings are those of the map that have the chain's sides
first : (c : goal.After-unwrap-first) → c.unwrap-first.result.now ≡ ring_with (kept_side c.args.chain.now) c.args.map.now.boundaries
first c =
    let m = c.args.map.now in
    let side = kept_side c.args.chain.now in
    told-ring side m.boundaries (its-rings m c.requires.valid c.args.kept.now c.args.ended.now c.args.chain.now c.requires.shared).has_kept c.ring_with.result c.unwrap-first.result
    (told-by c.kept_side-from.result side c.boundaries.result.now m.boundaries c.ring_with.result c.kept_side-from.ensures c.boundaries.ensures c.ring_with.ensures) c.unwrap-first.ensures

second : (c : goal.After-unwrap-second) → c.unwrap-second.result.now ≡ ring_with (ended_side c.args.chain.now) c.args.map.now.boundaries
second c =
    let m = c.args.map.now in
    let side = ended_side c.args.chain.now in
    told-ring side m.boundaries (its-rings m c.requires.valid c.args.kept.now c.args.ended.now c.args.chain.now c.requires.shared).has_ended c.ring_with-2.result c.unwrap-second.result
    (told-by c.ended_side-from.result side c.boundaries-2.result.now m.boundaries c.ring_with-2.result c.ended_side-from.ensures c.boundaries-2.ensures c.ring_with-2.ensures) c.unwrap-second.ensures

pub joined_rings-requires : goal.joined_rings-requires
joined_rings-requires c =
    let at = goal.at.joined_rings-requires c in
    subst (λ (p : Ring × Ring). CanBeJoined c.args.chain.now p.0 p.1) (λ i. (sym (first at.After-unwrap-first) i, sym (second at.After-unwrap-second) i))
    (its-rings c.args.map.now c.requires.valid c.args.kept.now c.args.ended.now c.args.chain.now c.requires.shared).can

pub returns : goal.returns
returns c =
    let at = goal.at.returns c in
    let m = c.args.map.now in
    let kept = c.args.kept.now in
    let ended = c.args.ended.now in
    let one = first at.After-unwrap-first in
    let other = second at.After-unwrap-second in
    let rest : Ring × Ring → List Boundary → List Boundary = λ p bs. map (handed_over kept ended) (filter (λ b. not (is_taken_out kept ended p.0 p.1 b)) bs) in
    c.in_ok-append_others.ensures ∙ (λ i. c.in_ok-made.ensures i ++ rest (c.unwrap-first.result.now, c.unwrap-second.result.now) (c.boundaries-3.ensures i))
    ∙ (λ i. rings_joined kept (one i) (other i) c.args.chain.now ++ rest (one i, other i) m.boundaries)
    ∙ (its-rings m c.requires.valid kept ended c.args.chain.now c.requires.shared).merged
