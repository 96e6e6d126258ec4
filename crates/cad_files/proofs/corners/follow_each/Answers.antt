use Rattle.std.proofs.Common.{◌≡◌, ◌∙◌, sym, ap, subst, ℕ, List, ◌∷◌, [], ◌++◌, map, slice_get, Some}
use Rattle.cad_map.proofs.CallerLemmas.{All-push}
use Rattle.cad_files.specs.Follower.{labelled_sides}
use Rattle.cad_files.specs.Corners.{labelled, HasFollower, AreLinkedIn, IsStop}
use Rattle.cad_files.specs.declared.sides.PlanSide.{PlanSide}
use Rattle.cad_files.specs.declared.rows.PlanString.{PlanString}
use Rattle.cad_files.proofs.StringSides.{spoke-at, spoke-of, stop-right, both-passed}
use Rattle.cad_files.proofs.corners.follow_each.Goals as goal

-- its next side stands at the place that it tells
abbrev IsLinked : List PlanString → PlanSide → Type 0
IsLinked strings s = slice_get (map (λ l. l.side) (labelled_sides strings)) s.next ≡ Some (s.to, s.after)

pub place_along-next-requires : goal.place_along-next-requires
place_along-next-requires c = spoke-of c.args.plain.now c.args.strings.now c.requires.rows c.index-strings-i.result.row.to c.in-Some.left c.in-Some.ensures.among

pub place_along-next-requires-in-loop-i : goal.place_along-next-requires-in-loop-i
place_along-next-requires-in-loop-i c =
    spoke-of c.args.plain.now c.args.strings.now c.requires.rows c.index-strings-i.result.row.from c.in-Some-follower.right c.in-Some-follower.ensures.among

pub returns-in_default-follower-clause-linked : goal.returns-in_default-follower-clause-linked
returns-in_default-follower-clause-linked c =
    let strings = c.args.strings.now in
    let at = spoke-at c.args.plain.now strings c.requires.rows c.index-strings-i.result.row.to c.in-Some.left c.in-Some.ensures.among in
    let linked = subst (IsLinked strings) (sym c.plan_side.ensures) (c.place_along-next.ensures ∙ ap (λ (p : ℕ). Some (p, c.in-Some.left.far)) at) in
    subst (λ (l : List PlanSide). AreLinkedIn strings l) (sym c.in_ok-push.ensures.items) (All-push (IsLinked strings) c.loop-i.passed.items c.plan_side.result c.loop-i.invariant.linked linked)

pub returns-in_default-follower-clause-stop : goal.returns-in_default-follower-clause-stop
returns-in_default-follower-clause-stop c =
    let string = c.index-strings-i.result in
    subst (λ (l : List PlanSide). IsStop c.args.plain.now c.args.strings.now l string.row.from) (sym c.in_ok-push.ensures.items)
    (stop-right c.args.plain.now c.args.strings.now c.loop-i.i string c.loop-i-test.true c.index-strings-i.is c.loop-i.passed.items c.loop-i.invariant.sides c.plan_side.result (ap labelled c.plan_side.ensures) c.in_default-follower.ensures.none)

pub loop-i-preserved : goal.loop-i-preserved
loop-i-preserved c =
    let m = c.args.plain.now in
    let strings = c.args.strings.now in
    let string = c.index-strings-i.result in
    let left = c.plan_side.result in
    let right = c.plan_side-in-loop-i.result in
    let before : List PlanSide = c.loop-i.passed.items in
    let items : c.push-in-loop-i.new.self.items ≡ (before ++ left ∷ []) ++ right ∷ [] = c.in_ok-push-2.ensures.items ∙ ap (λ (l : List PlanSide). l ++ right ∷ []) c.in_ok-push.ensures.items in
    let left_at = spoke-at m strings c.requires.rows string.row.to c.in-Some.left c.in-Some.ensures.among in
    let right_at = spoke-at m strings c.requires.rows string.row.from c.in-Some-follower.right c.in-Some-follower.ensures.among in
    let left_linked = subst (IsLinked strings) (sym c.plan_side.ensures) (c.place_along-next.ensures ∙ ap (λ (p : ℕ). Some (p, c.in-Some.left.far)) left_at) in
    let right_linked = subst (IsLinked strings) (sym c.plan_side-in-loop-i.ensures) (c.place_along-next-in-loop-i.ensures ∙ ap (λ (p : ℕ). Some (p, c.in-Some-follower.right.far)) right_at) in
    let left_follows = subst (HasFollower m) (sym c.plan_side.ensures) c.in-Some.ensures.some in
    let right_follows = subst (HasFollower m) (sym c.plan_side-in-loop-i.ensures) c.in-Some-follower.ensures.some in
    rw items (record {
      each = All-push (HasFollower m) (before ++ left ∷ []) right (All-push (HasFollower m) before left c.loop-i.invariant.each left_follows) right_follows;
      linked = All-push (IsLinked strings) (before ++ left ∷ []) right (All-push (IsLinked strings) before left c.loop-i.invariant.linked left_linked) right_linked;
      sides = both-passed m strings c.loop-i.i string c.loop-i-test.true c.index-strings-i.is before c.loop-i.invariant.sides left (ap labelled c.plan_side.ensures) right (ap labelled c.plan_side-in-loop-i.ensures);
    })
