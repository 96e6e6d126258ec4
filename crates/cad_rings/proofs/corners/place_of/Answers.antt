use Rattle.std.proofs.Common.{◌≡◌, ◌+◌, refl, sym, ap, ◌∙◌, List, ◌∷◌, length, drop, Bool, true, false, arith}
use Rattle.std.specs.Prelude.{nat_lt}
use Rattle.std.specs.List.{position_or_len}
use Rattle.std.proofs.lemmas.Bool.Decides.{nat_tests}
use Rattle.cad_rings.specs.Cycle.{Side, is_side, sides_of}
use Rattle.cad_rings.proofs.SideLemmas.{length-sides_of}
use Rattle.cad_rings.proofs.CanonicalSteps.{nothing_left}
use Rattle.cad_rings.proofs.corners.place_of.Goals as goal

-- the first place at which the test passes is here, or further on
first-here : (test : Side → Bool) (s : Side) (sides : List Side) → test s ≡ true → position_or_len test (s ∷ sides) ≡ 0
first-here test s sides is = rw is refl

first-later : (test : Side → Bool) (s : Side) (sides : List Side) → test s ≡ false → position_or_len test (s ∷ sides) ≡ 1 + position_or_len test sides
first-later test s sides is = rw is refl

pub loop-place-init : goal.loop-place-init
loop-place-init c = omega arith

pub returns-then-is_side : goal.returns-then-is_side
returns-then-is_side c =
    let points = c.args.points.now in
    let test = is_side (c.args.from, c.args.to) in
    let n = length-sides_of points in
    let here = ap (position_or_len test) c.side_at.ensures ∙ first-here test c.side_at.result (drop (c.loop-place.place + 1) (sides_of points)) (sym c.is_side.ensures ∙ c.if-is_side.true) in
    let so_far = c.loop-place.invariant in
    let at : position_or_len test (sides_of points) ≡ c.loop-place.place = omega (arith, so_far, here) in
    let low = c.loop-place-test.true in
    let within : nat_lt c.loop-place.place (length (sides_of points)) ≡ true = grind (arith, nat_tests, n, low) in
    rw (at, within) refl

pub loop-place-preserved : goal.loop-place-preserved
loop-place-preserved c =
    let points = c.args.points.now in
    let test = is_side (c.args.from, c.args.to) in
    let here = ap (position_or_len test) c.side_at.ensures ∙ first-later test c.side_at.result (drop (c.loop-place.place + 1) (sides_of points)) (sym c.is_side.ensures ∙ c.if-is_side.false) in
    let so_far = c.loop-place.invariant in
    omega (arith, so_far, here)

pub returns : goal.returns
returns c =
    let points = c.args.points.now in
    let test = is_side (c.args.from, c.args.to) in
    let n = length-sides_of points in
    let past = c.loop-place-test.false in
    let left = ap (position_or_len test) (nothing_left (sides_of points) c.loop-place.place (omega (arith, n, past))) in
    let so_far = c.loop-place.invariant in
    let at : position_or_len test (sides_of points) ≡ c.loop-place.place = omega (arith, so_far, left) in
    let within : nat_lt c.loop-place.place (length (sides_of points)) ≡ false = grind (arith, nat_tests, n, past) in
    rw (at, within) refl
