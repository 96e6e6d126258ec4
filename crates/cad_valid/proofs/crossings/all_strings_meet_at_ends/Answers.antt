use Rattle.std.proofs.Common.{ℕ, ◌≤◌, sym, ap, subst, length}
use Rattle.std.proofs.lemmas.Bool.{iff_false}
use Rattle.cad_map.specs.Valid.{MeetAtEnds}
use Rattle.cad_valid.proofs.Decisions.{stepwise-pairs, goes, stops, ends}
use Rattle.cad_map.proofs.CallerLemmas.{placed-at}
use Rattle.cad_valid.proofs.crossings.all_strings_meet_at_ends.Goals as goal

pub loop-place-init : goal.loop-place-init
loop-place-init g c = ((λ h. h), (λ h. h))

pub meets_later_at_ends-requires-clause-placed : goal.meets_later_at_ends-requires-clause-placed
meets_later_at_ends-requires-clause-placed g c =
    let at = rw c.unwrap-string.ensures at c.string_at.ensures in
    placed-at (g.M.MapView.map c.args.map.now) c.requires c.loop-place.place _ (sym at)

pub returns-then-not-meets_later_at_ends : goal.returns-then-not-meets_later_at_ends
returns-then-not-meets_later_at_ends g c =
    let m = g.M.MapView.map c.args.map.now in
    let at = rw c.unwrap-string.ensures at c.string_at.ensures in
    stops (stepwise-pairs (MeetAtEnds m)) m.strings m.strings c.loop-place.place c.loop-place.invariant _ (sym at) (iff_false c.meets_later_at_ends.ensures c.if-not-meets_later_at_ends.true)

pub loop-place-preserved : goal.loop-place-preserved
loop-place-preserved g c =
    let m = g.M.MapView.map c.args.map.now in
    let at = rw c.unwrap-string.ensures at c.string_at.ensures in
    goes (stepwise-pairs (MeetAtEnds m)) m.strings m.strings c.loop-place.place c.loop-place.invariant _ (sym at) (c.meets_later_at_ends.ensures.0 c.if-not-meets_later_at_ends.false)

pub returns : goal.returns
returns g c =
    let m = g.M.MapView.map c.args.map.now in
    let past : length m.strings ≤ c.loop-place.place = subst (λ (n : ℕ). n ≤ c.loop-place.place) (ap (λ r. r.strings) c.counts-place-end.ensures) c.loop-place-test.false in
    ends (stepwise-pairs (MeetAtEnds m)) m.strings m.strings c.loop-place.place c.loop-place.invariant past
