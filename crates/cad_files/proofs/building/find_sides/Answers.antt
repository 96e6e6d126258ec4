use Rattle.std.proofs.Common.{◌≡◌, ◌≢◌, ◌∙◌, sym, ap, subst, List, map, None}
use Rattle.std.specs.Prelude.{option_map}
use Rattle.cad_map.specs.Valid.{EachPair}
use Rattle.cad_files.specs.Building.{twice_numbered, unknown_name, dangling, bad_corner, other_label, map_of, first_fault}
use Rattle.cad_files.specs.Corners.{labelled}
use Rattle.cad_files.specs.Cycles.{plan_side_of}
use Rattle.cad_files.specs.Follower.{labelled_sides}
use Rattle.cad_files.specs.Rows.{Rows}
use Rattle.cad_files.specs.declared.faults.PlanFault.TheVariants as faults
use Rattle.cad_files.specs.declared.sides.PlanSide.{PlanSide}
use Rattle.cad_files.proofs.FaultFacts.{labels-left}
use Rattle.cad_files.proofs.LabelFacts.{other_label-is, sides-of, none-twice}
use Rattle.cad_files.proofs.building.find_sides.Goals.{After-first_other_label}
use Rattle.cad_files.proofs.building.find_sides.Goals as goal

pub first_other_label-requires-clause-once : goal.first_other_label-requires-clause-once
first_other_label-requires-clause-once c =
    let here = ap (λ (r : Rows). r.strings) c.rows.view_is in
    let same : map labelled c.in_ok-sides.sides.items ≡ labelled_sides c.args.rows.now.strings = rw (c.as_slice-2.ensures.value, here) at c.in_ok-sides.ensures.sides in
    let none : bad_corner c.args.plain.now c.args.rows.now.strings ≡ None = rw (c.as_slice-2.ensures.value, here) at c.in_ok-sides.ensures.free in
    subst (λ (l : List PlanSide). EachPair (λ a b. a ≢ b) (map plan_side_of l)) (sym c.as_slice-3.ensures.value) (none-twice c.args.plain.now c.args.rows.now.strings c.in_ok-sides.sides.items same none)

-- with no other fault the first is that of the labels
labels : (c : goal.After-first_other_label) → first_fault c.args.rows.now ≡ option_map (λ n. faults.Labels n) c.first_other_label.result
labels c =
    let rows = c.args.rows.now in
    let m = map_of rows in
    let here = ap (λ (r : Rows). r.strings) c.rows.view_is in
    let u : unknown_name rows ≡ None = rw c.requires.map at (sym c.missing_row.ensures ∙ c.in_default.is) in
    let d : dangling m rows.strings ≡ None = rw (c.requires.map, c.as_slice.ensures.value, here) at (sym (c.first_dangling.ensures c.args.plain.now c.requires.stars) ∙ c.in_default-first_dangling.is) in
    let b : bad_corner m rows.strings ≡ None = rw (c.requires.map, c.as_slice-2.ensures.value, here) at c.in_ok-sides.ensures.free in
    let same = rw (c.as_slice-2.ensures.value, here) at c.in_ok-sides.ensures.sides in
    let told = rw c.as_slice-3.ensures.value at c.first_other_label.ensures in
    let l : other_label m rows.strings ≡ c.first_other_label.result = rw c.requires.map at (sym (other_label-is c.args.plain.now rows.strings c.in_ok-sides.sides.items c.in_ok-sides.ensures.each same) ∙ sym told) in
    labels-left (twice_numbered rows) (unknown_name rows) (dangling m rows.strings) (bad_corner m rows.strings) (other_label m rows.strings) c.requires.free u d b ∙ ap (option_map (λ n. faults.Labels n)) l

pub returns-in-Some-first_other_label-clause-err : goal.returns-in-Some-first_other_label-clause-err
returns-in-Some-first_other_label-clause-err c = λ nm.
    labels (goal.at.returns-in-Some-first_other_label-clause-err c).After-first_other_label ∙ ap (option_map (λ n. faults.Labels n)) c.in-Some-first_other_label.is

pub returns-clause-faultless : goal.returns-clause-faultless
returns-clause-faultless c =
    labels (goal.at.returns-clause-faultless c).After-first_other_label ∙ ap (option_map (λ n. faults.Labels n)) c.in_default-first_other_label.is

pub returns-clause-sides : goal.returns-clause-sides
returns-clause-sides c =
    let here = ap (λ (r : Rows). r.strings) c.rows.view_is in
    sides-of c.args.plain.now c.args.rows.now.strings c.in_ok-sides.sides.items c.in_ok-sides.ensures.each (rw (c.as_slice-2.ensures.value, here) at c.in_ok-sides.ensures.sides)
