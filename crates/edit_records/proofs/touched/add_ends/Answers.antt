use Rattle.std.proofs.Common.{◌∷◌, [], List, sym, subst, inl, inr, arith}
use Rattle.std.specs.List.{Contains}
use Rattle.std.proofs.lemmas.List.Elements.{Contains-append_cases}
use Rattle.cad_rings.specs.Cycle.{Side, opposite}
use Rattle.cad_map.specs.Views.{HasSide}
use Rattle.cad_map.specs.Walk.{walking}
use Rattle.cad_map.proofs.CallerLemmas.{walked, walked-all, Contains-cases}
use Rattle.edit_records.proofs.touched.add_ends.Goals as goal

pub loop-from-preserved : goal.loop-from-preserved
loop-from-preserved g c =
    let side : Side = (c.in-Some.from, c.in-Some.to) in
    let before = c.loop-from.invariant in
    let added = c.in_ok-add_both_if.ensures in
    record {
      keeps = λ p h. added.keeps p (before.keeps p h);
      ends = λ s among has. elim (Contains-append_cases c.loop-from.yielded (side ∷ []) s among) [
        | inl earlier ↦ let two = before.ends s earlier has in (added.keeps s.0 two.0, added.keeps s.1 two.1)
        | inr last ↦ elim (Contains-cases side [] s last) [
          | inl same ↦ subst (λ (t : Side). Contains c.add_both_if.new.points.items t.0 × Contains c.add_both_if.new.points.items t.1) same
              (added.both (c.is_behind-is_shared.ensures.some (subst (λ (t : Side). HasSide (g.M.MapView.map c.args.map.now) c.args.other.now (opposite t)) (sym same) has)))
          | inr none ↦ let low = none.1 in absurd (omega arith)
        ]
      ];
    }

pub returns-clause-ends : goal.returns-clause-ends
returns-clause-ends g c s among has =
    let m = g.M.MapView.map c.args.map.now in
    let bs = g.M.MapView.rings c.args.map.now in
    let at = walking g.M.MapView.map g.M.MapView.view_next in
    let told = c.of_ring-from-items.ensures in
    let on = walked m bs c.requires.whole told.canonical_order told.two c.args.face.now c.args.place c.requires.there at c.of_ring-from-items.result c.into_iter-from-iterator.result
    c.into_iter-from-iterator.ensures.into_iter_gives told.along c.loop-from.yielded c.loop-from.from-iterator c.loop-from.yielded_by in
    let none = rw c.in-None.is at c.next.ensures.steps in
    let all = walked-all m bs c.requires.whole told.canonical_order told.two c.args.face.now c.args.place c.requires.there c.loop-from.yielded (at c.loop-from.from-iterator) on none.first.0 in
    c.loop-from.invariant.ends s (subst (λ (l : List Side). Contains l s) (sym all) among) has
