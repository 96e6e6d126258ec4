use Rattle.std.proofs.Common.{◌≡◌, ap, sym, refl, ◌∙◌, ◌++◌, ◌∷◌, [], map, take}
use Rattle.std.proofs.lemmas.List.{take_all}
use Rattle.std.proofs.lemmas.Option.{slice_get_read}
use Rattle.cad_map.specs.declared.span.Span.{Span}
use Rattle.cad_map.specs.Map.{position_of}
use Rattle.cad_map.proofs.CallerLemmas.{take-more}
use Rattle.cell_grid.specs.Grid.{entry_of}
use Rattle.edit_records.proofs.GridLists.{entries-of, merge-gone}
use Rattle.edit_records.proofs.GridRows.{map-last}
use Rattle.edit_records.proofs.grid_lists.several_strings.Goals as goal

pub loop-span-preserved : goal.loop-span-preserved
loop-span-preserved g c =
    let m = g.M.MapView.map c.args.map.now in
    let entry = λ (s : Span). entry_of s.string (position_of m s.from) (position_of m s.to) in
    let spans = c.args.spans.now in
    let i = c.loop-span.span-index in
    let span = c.span-item.result in
    let at = slice_get_read spans _ i span refl c.loop-span-test.true c.span-item.is in
    let here : entry_of span.string c.position-from.result c.position-to.result ≡ entry span =
    λ k. entry_of span.string (c.position-from.ensures k) (c.position-to.ensures k) in
    record {
      strings = c.in_ok-add_string.ensures.added ∙ (λ k. c.loop-span.invariant.strings k ++ here k ∷ [])
          ∙ sym (map-last entry (take i spans) span) ∙ ap (map entry) (take-more spans i span at);
      points = c.add_string.ensures.points ∙ c.loop-span.invariant.points;
    }

pub returns : goal.returns
returns g c = λ b kept ended beside perm.
    let m = g.M.MapView.map c.args.map.now in
    let spans = c.args.spans.now in
    entries-of _ c.loop-span.entries _
    (c.loop-span.invariant.strings ∙ ap (map (λ (s : Span). entry_of s.string (position_of m s.from) (position_of m s.to))) (take_all c.loop-span.span-index spans c.loop-span-test.false))
    c.loop-span.invariant.points (merge-gone m b kept ended beside spans perm)
