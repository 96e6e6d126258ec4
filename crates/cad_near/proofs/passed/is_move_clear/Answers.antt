use Rattle.std.proofs.Common.{◌∙◌, ap, subst, sym}
use Rattle.std.specs.List.{AllByRecursion}
use Rattle.std.specs.Option.{option_copied}
use Rattle.std.specs.Prelude.{IsTrue}
use Rattle.cad_map.specs.Map.{is_end}
use Rattle.cad_map.specs.Touched.{Moved}
use Rattle.cad_near.specs.Near.{OfString, touched_of}
use Rattle.cad_near.specs.Triangles.{TouchesAlone}
use Rattle.cad_near.proofs.PassedTriangles.{points-apart, no-crossing}
use Rattle.cad_near.proofs.passed.is_move_clear.Goals as goal

pub moves_clear-requires-clause-own : goal.moves_clear-requires-clause-own
moves_clear-requires-clause-own g c =
    let m = g.M.MapView.map c.args.map.now in
    let t = touched_of c.args.touched.now in
    let alone = subst (λ (w : Moved). TouchesAlone m t w.point) c.moved.view_is (c.touches_alone.ensures c.if-touches_alone.true) in
    subst (AllByRecursion (OfString m (λ s. IsTrue (is_end s c.in-Some.moved.now.point)))) (sym c.as_slice.ensures.value) alone.strings

pub returns-then-touches_alone : goal.returns-then-touches_alone
returns-then-touches_alone g c =
    let m = g.M.MapView.map c.args.map.now in
    let t = touched_of c.args.touched.now in
    let v = c.in-Some.moved.now in
    let come = c.requires.touched in
    let one = sym c.as_ref.ensures.value ∙ ap option_copied c.in-Some.is in
    let alone = subst (λ (w : Moved). TouchesAlone m t w.point) c.moved.view_is (c.touches_alone.ensures c.if-touches_alone.true) in
    record {
      distinct = λ clear. points-apart come.before m t v come.valid c.requires.sound c.requires.two come.touched one alone (c.moves_clear.ensures clear);
      uncrossed = λ clear. no-crossing come.before m t v come.valid c.requires.sound c.requires.two come.touched one alone (c.moves_clear.ensures clear);
    }
