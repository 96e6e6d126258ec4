use Rattle.std.proofs.Common.{ℕ, ◌≤◌, sym, ap, subst, length, drop}
use Rattle.std.proofs.lemmas.Bool.{iff_false}
use Rattle.cad_map.specs.Valid.{MeetAtEnds}
use Rattle.cad_valid.proofs.Decisions.{stepwise-all, goes, stops, ends}
use Rattle.cad_map.proofs.CallerLemmas.{placed-at}
use Rattle.cad_valid.proofs.PlacedStrings.{meets-by}
use Rattle.cad_valid.proofs.crossings.meets_later_at_ends.Goals as goal

pub loop-place-init : goal.loop-place-init
loop-place-init g c = ((λ h. h), (λ h. h))

pub returns-then-not-meet_at_ends : goal.returns-then-not-meet_at_ends
returns-then-not-meet_at_ends g c =
    let m = g.M.MapView.map c.args.map.now in
    let at = rw c.unwrap-other.ensures at c.string_at.ensures in
    let met = meets-by m c.requires.rows c.args.string.now c.unwrap-other.result.now c.requires.placed (placed-at m c.requires.rows c.loop-place.place _ (sym at)) _ _ _ c.placed_string-first.ensures c.placed_string.ensures c.meet_at_ends.ensures in
    stops (stepwise-all (MeetAtEnds m c.args.string.now)) (drop c.args.from m.strings) m.strings c.loop-place.place c.loop-place.invariant _ (sym at) (iff_false met c.if-not-meet_at_ends.true)

pub loop-place-preserved : goal.loop-place-preserved
loop-place-preserved g c =
    let m = g.M.MapView.map c.args.map.now in
    let at = rw c.unwrap-other.ensures at c.string_at.ensures in
    let met = meets-by m c.requires.rows c.args.string.now c.unwrap-other.result.now c.requires.placed (placed-at m c.requires.rows c.loop-place.place _ (sym at)) _ _ _ c.placed_string-first.ensures c.placed_string.ensures c.meet_at_ends.ensures in
    goes (stepwise-all (MeetAtEnds m c.args.string.now)) (drop c.args.from m.strings) m.strings c.loop-place.place c.loop-place.invariant _ (sym at) (met.0 c.if-not-meet_at_ends.false)

pub returns : goal.returns
returns g c =
    let m = g.M.MapView.map c.args.map.now in
    let past : length m.strings ≤ c.loop-place.place = subst (λ (n : ℕ). n ≤ c.loop-place.place) (ap (λ r. r.strings) c.counts-place-end.ensures) c.loop-place-test.false in
    ends (stepwise-all (MeetAtEnds m c.args.string.now)) (drop c.args.from m.strings) m.strings c.loop-place.place c.loop-place.invariant past
