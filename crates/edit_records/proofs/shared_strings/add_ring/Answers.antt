use Rattle.std.proofs.Common.{◌≡◌, ◌∷◌, [], List, ap, sym, subst, inl, inr, filter, length, arith}
use Rattle.std.specs.List.{Contains}
use Rattle.std.proofs.lemmas.List.Elements.{Contains-append_cases}
use Rattle.cad_rings.specs.Cycle.{Side, opposite, sides_of}
use Rattle.cad_map.specs.Steps.{has_twin_in}
use Rattle.cad_map.specs.Views.{HasSide}
use Rattle.cad_map.specs.Rings.{ring_at}
use Rattle.cad_map.specs.Spans.{span_of}
use Rattle.cad_map.specs.Walk.{walking, sides_ahead}
use Rattle.cad_map.proofs.CallerLemmas.{walked, walked-all, whole_valid, Contains-cases}
use Rattle.edit_records.specs.GridLists.{LeadsBetween}
use Rattle.edit_records.proofs.SharedStrings.{count-more}
use Rattle.edit_records.proofs.shared_strings.add_ring.Goals.{After-next}
use Rattle.edit_records.proofs.shared_strings.add_ring.Goals as goal

pub loop-from-preserved : goal.loop-from-preserved
loop-from-preserved g c =
    let m = g.M.MapView.map c.args.map.now in
    let side : Side = (c.in-Some.from, c.in-Some.to) in
    let before = c.loop-from.invariant in
    let added = c.in_ok-add_if.ensures in
    record {
      keeps = λ s h. added.keeps s (before.keeps s h);
      strings = λ t s among has there leads. elim (Contains-append_cases c.loop-from.yielded (side ∷ []) t among) [
        | inl earlier ↦ added.keeps (span_of s) (before.strings t s earlier has there leads)
        | inr last ↦ elim (Contains-cases side [] t last) [
          | inl same ↦ added.string (c.is_behind-is_shared.ensures.some (subst (λ (u : Side). HasSide m c.args.other.now (opposite u)) (sym same) has)) s there
              (subst (LeadsBetween s) (sym same) leads)
          | inr none ↦ let low = none.1 in absurd (omega arith)
        ]
      ];
      few = count-more (has_twin_in m c.args.other.now) c.loop-from.yielded side _ _ _ c.is_behind-is_shared.result c.is_behind-is_shared.ensures.only before.few added.few;
    }

pub of_ring-from-items-requires-clause-whole : goal.of_ring-from-items-requires-clause-whole
of_ring-from-items-requires-clause-whole g c = whole_valid (g.M.MapView.map c.args.map.now) c.requires.valid

pub is_behind-is_shared-requires : goal.is_behind-is_shared-requires
is_behind-is_shared-requires g c = whole_valid (g.M.MapView.map c.args.map.now) c.requires.valid

-- all sides of the ring
all : (g : _) (c : goal.After-next g) → sides_ahead (walking g.M.MapView.map g.M.MapView.view_next c.loop-from.from-iterator) ≡ []
    → c.loop-from.yielded ≡ sides_of (ring_at (g.M.MapView.rings c.args.map.now) c.args.face.now c.args.place)
all g c none =
    let m = g.M.MapView.map c.args.map.now in
    let bs = g.M.MapView.rings c.args.map.now in
    let at = walking g.M.MapView.map g.M.MapView.view_next in
    let whole = whole_valid m c.requires.valid in
    let told = c.of_ring-from-items.ensures in
    let on = walked m bs whole told.canonical_order told.two c.args.face.now c.args.place c.requires.there at c.of_ring-from-items.result c.into_iter-from-iterator.result
    c.into_iter-from-iterator.ensures.into_iter_gives told.along c.loop-from.yielded c.loop-from.from-iterator c.loop-from.yielded_by in
    walked-all m bs whole told.canonical_order told.two c.args.face.now c.args.place c.requires.there c.loop-from.yielded (at c.loop-from.from-iterator) on none

pub returns-clause-strings : goal.returns-clause-strings
returns-clause-strings g c t s among has there leads =
    let none = rw c.in-None.is at c.next.ensures.steps in
    let is = all g (goal.at.returns-clause-strings g c).After-next none.first.0 in
    c.loop-from.invariant.strings t s (subst (λ (l : List Side). Contains l t) (sym is) among) has there leads

pub returns-clause-few : goal.returns-clause-few
returns-clause-few g c =
    let m = g.M.MapView.map c.args.map.now in
    let none = rw c.in-None.is at c.next.ensures.steps in
    let is = all g (goal.at.returns-clause-few g c).After-next none.first.0 in
    let same = ap (λ (l : List Side). length (filter (has_twin_in m c.args.other.now) l)) is in
    let few = c.loop-from.invariant.few in
    omega (arith, same, few)
