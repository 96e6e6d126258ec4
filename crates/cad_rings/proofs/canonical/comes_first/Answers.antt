use Rattle.std.proofs.Common.{sym, ◌∙◌, drop, ◌+◌}
use Rattle.std.specs.Prelude.{slice_index}
use Rattle.cad_rings.proofs.CanonicalSteps.{ended, left_from, nothing_left}
use Rattle.cad_rings.proofs.canonical.comes_first.Goals as goal

pub returns-then-b-place : goal.returns-then-b-place
returns-then-b-place c =
    let a = c.args.a.now in
    let b = c.args.b.now in
    let i = c.loop-place.place in
    sym (c.loop-place.invariant ∙ ended (drop i a) (drop i b) (drop (i + 1) a) (slice_index a i) (left_from a i c.loop-place-test.true) (nothing_left b i c.if-b-place.true))
