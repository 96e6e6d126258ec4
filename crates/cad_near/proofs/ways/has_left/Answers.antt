use Rattle.std.proofs.Common.{◌≡◌, ℤ, true, not, true≢false, refl, sym, subst, ap, ◌∙◌, rules, tests, arith}
use Rattle.std.proofs.lemmas.Int.{ints}
use Rattle.std.proofs.lemmas.Iterator.{cases_from_all}
use Rattle.std.proofs.lemmas.Iterator.Consumers.{YieldsList-from_first}
use Rattle.std.specs.Ordering.{int_eq}
use Rattle.std.specs.Prelude.{IsTrue}
use Rattle.geo_exact.specs.Position.{Position}
use Rattle.geo_exact.specs.SignTest.{boxes_overlap}
use Rattle.cell_grid.specs.declared.entry.HeldPoint.{HeldPoint}
use Rattle.cad_map.specs.Touched.{Moved}
use Rattle.cad_map.specs.Valid.{is_same_position}
use Rattle.cad_near.specs.Moves.{lies_elsewhere}
use Rattle.cad_near.proofs.ClearWays.{box-itself}
use Rattle.cad_near.proofs.Candidates.{passed-other}
use Rattle.cad_near.proofs.ways.has_left.Goals as goal

pub returns : goal.returns
returns c = λ t n q held other same.
    let v = c.args.moved.now in
    let P = λ (h : HeldPoint). IsTrue (lies_elsewhere v h) in
    let passed =
    cases_from_all _ _ _ P (λ h. ¬ P h) c.all.ensures.ran (YieldsList-from_first (λ x. x) (λ w. w) c.point_candidates.result refl)
    (λ x q k. search (rules, tests)) (λ x q k. search (rules, tests)) in
    let from = ap (λ (w : Moved). w.from) c.moved.view_is in
    let over = subst (λ (z : Position). IsTrue (boxes_overlap z z q q)) (sym from) (subst (λ (z : Position). IsTrue (boxes_overlap v.from v.from z z)) (sym same) (box-itself v.from)) in
    let elsewhere = passed-other v.point (λ h. not (is_same_position h.position v.from)) c.point_candidates.result _ passed t (record { point = n; position = q }) other (c.point_candidates.ensures.all n q held over) in
    true≢false (sym elsewhere ∙ ap not (subst (λ (z : Position). is_same_position z v.from ≡ true) (sym same) (itself v.from)))
  where
    same_number : (x : ℤ) → int_eq x x ≡ true
    same_number x = grind (arith, ints)

    itself : (z : Position) → is_same_position z z ≡ true
    itself z = rw (same_number z.x, same_number z.y) refl
