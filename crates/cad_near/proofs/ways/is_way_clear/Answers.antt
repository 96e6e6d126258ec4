use Rattle.std.proofs.Common.{sym, ◌∙◌, true≢false, refl, rules, tests}
use Rattle.std.proofs.lemmas.Bool.{false_from_ne_true}
use Rattle.std.proofs.lemmas.Iterator.{cases_from_all}
use Rattle.std.proofs.lemmas.Iterator.Consumers.{YieldsList-from_first}
use Rattle.std.specs.Prelude.{IsTrue}
use Rattle.geo_exact.specs.SignTest.{boxes_overlap}
use Rattle.cell_grid.specs.declared.entry.HeldString.{HeldString}
use Rattle.cad_map.specs.Map.{is_end, position_of}
use Rattle.cad_near.specs.Near.{OfString}
use Rattle.cad_near.proofs.Candidates.{passed-each}
use Rattle.cad_near.proofs.ways.is_way_clear.Goals as goal

pub returns : goal.returns
unfolding OfString
returns g c = λ t s there off.
    let m = g.M.MapView.map c.args.map.now in
    let P = λ (h : HeldString). OfString m (λ s. IsTrue (is_end s c.args.point)) h.string in
    let passed =
    cases_from_all _ _ _ P (λ h. ¬ P h) c.all.ensures.ran (YieldsList-from_first (λ x. x) (λ w. w) c.candidates.result refl)
    (λ x q k. search (rules, tests)) (λ x q k. search (rules, tests)) in
    let each = (passed-each P c.candidates.result _ passed).0 t in
    false_from_ne_true (boxes_overlap c.args.from c.args.to (position_of m s.from) (position_of m s.to)) (λ over.
    true≢false (sym (each (record { string = s.number; from = position_of m s.from; to = position_of m s.to })
    (c.candidates.ensures.all s.number (position_of m s.from) (position_of m s.to) (c.requires.held.strings s there) over) s there refl) ∙ off))
