use Rattle.std.proofs.Common.{◌≡◌, ◌∙◌, sym, subst, List, length}
use Rattle.std.proofs.lemmas.Bool.{OnTrue_at, OnTrue_from}
use Rattle.sweep.specs.Extents.{AllThatOverlapPass}
use Rattle.sweep.specs.Parts.{AllOfTwoGroupsPass}
use Rattle.cad_valid.specs.declared.placed.Placed.{Placed}
use Rattle.cad_valid.specs.Swept.{passes_at, have_no_crossing}
use Rattle.cad_valid.specs.Hubs.{AreGroupsOf}
use Rattle.cad_valid.proofs.HubFacts.{all-pass}
use Rattle.cad_valid.proofs.swept.are_uncrossed.Goals as goal

pub returns-clause-passed : goal.returns-clause-passed
returns-clause-passed c =
    let m = c.args.map.now in
    let boxes = c.args.boxes.items in
    let groups = c.in_ok-groups.groups.items in
    let answer = c.in_ok-all_of_two_groups_pass.field-0 in
    let count : length groups ≡ length boxes = c.in_ok-groups.ensures.count ∙ c.len.ensures ∙ c.args.boxes.ok.0 in
    let are : AreGroupsOf m groups = c.in_ok-groups.ensures.groups in
    OnTrue_from answer _ (λ is.
    let two = subst (λ (l : List Placed). AllOfTwoGroupsPass (passes_at have_no_crossing l) boxes groups) c.requires.items (OnTrue_at is c.in_ok-all_of_two_groups_pass.ensures.passed) in
    subst (λ (l : List Placed). AllThatOverlapPass (passes_at have_no_crossing l) boxes) (sym c.requires.items) (all-pass m c.requires.rows boxes groups count are two))
