use Rattle.std.proofs.Common.{◌∙◌, sym}
use Rattle.cad_near.specs.Near.{AreUncrossed, touched_of}
use Rattle.cad_near.proofs.NearStrings.{near-strings}
use Rattle.cad_near.proofs.Candidates.{first-decides, second-decides}
use Rattle.cad_near.proofs.has_no_crossing.Goals as goal
use Rattle.cad_near.proofs.has_no_crossing.Goals.{then-are_seen_uncrossed, else-are_seen_uncrossed}

pub returns-then-are_many_uncrossed : goal.returns-then-are_many_uncrossed
returns-then-are_many_uncrossed g c =
    let from = c.requires.touched in
    let m = g.M.MapView.map c.args.map.now in
    let t = touched_of c.args.touched.now in
    let seen : AreUncrossed m t = elim c.if-are_seen_uncrossed.branch [
      | then-are_seen_uncrossed w ↦ c.are_seen_uncrossed.ensures t c.requires.seen w.if-are_seen_uncrossed.true
      | else-are_seen_uncrossed w ↦ w.are_many_uncrossed.ensures (sym w.value-is ∙ c.if-are_many_uncrossed.true)
    ] in
    ((λ _. (near-strings from.before m t from.valid c.requires.rows.v1 from.touched).0 (seen.strings, seen.points)), (λ _. c.if-are_many_uncrossed.true))

pub returns-then-are_uncrossed : goal.returns-then-are_uncrossed
returns-then-are_uncrossed g c =
    let from = c.requires.touched in
    let halves = near-strings from.before (g.M.MapView.map c.args.map.now) (touched_of c.args.touched.now) from.valid c.requires.rows.v1 from.touched in
    second-decides halves _ (rw c.as_slice.ensures.value at c.are_uncrossed.ensures) _ (rw c.as_slice-then-are_uncrossed.ensures.value at c.lie_at_ends.ensures) c.if-are_uncrossed.true

pub returns-else-are_uncrossed : goal.returns-else-are_uncrossed
returns-else-are_uncrossed g c =
    let from = c.requires.touched in
    let halves = near-strings from.before (g.M.MapView.map c.args.map.now) (touched_of c.args.touched.now) from.valid c.requires.rows.v1 from.touched in
    first-decides halves _ (rw c.as_slice.ensures.value at c.are_uncrossed.ensures) c.if-are_uncrossed.false
