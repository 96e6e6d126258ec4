use Rattle.std.proofs.Common.{◌∙◌, ◌++◌, ap, sym, length, append_assoc, ◌≤◌, List, drop, ◌+◌}
use Rattle.std.proofs.lemmas.List.{append-nil, drop_all}
use Rattle.std.specs.List.{flat_map, enumerate_from}
use Rattle.key_lists.specs.Held.{items_at}
use Rattle.cad_map.specs.declared.stars.Spoke.{Spoke}
use Rattle.cad_map.specs.Stars.{spokes_at}
use Rattle.cad_map.proofs.Ends.MarkedStars.{marked_append, marked_none}
use Rattle.cad_map.proofs.Lists.EachElement.{drop-at}
use Rattle.cad_map.proofs.stars.Stars.with_room.Goals as goal

pub loop-place-preserved : goal.loop-place-preserved
loop-place-preserved g c p =
    let m = g.M.MapView.map c.args.map.now in
    let place = c.loop-place.place in
    let at = rw c.unwrap-string.ensures at c.string_at.ensures in
    let next = drop-at m.strings place _ (sym at) in
    let before = rw next at c.loop-place.invariant p in
    let rest : List Spoke = flat_map (λ e. spokes_at m e.0 e.1) (enumerate_from (place + 1) (drop (place + 1) m.strings)) in
    let parted = marked_append c.args.marks.now p (spokes_at m place c.unwrap-string.result.now) rest in
    rw (c.in_ok-put_spokes.ensures p, append_assoc, parted) before

pub returns : goal.returns
returns g c p =
    let m = g.M.MapView.map c.args.map.now in
    let past : length m.strings ≤ c.loop-place.place = rw c.counts-place-end.ensures at c.loop-place-test.false in
    let left = rw (drop_all c.loop-place.place m.strings past) at c.loop-place.invariant p in
    sym (append-nil (items_at c.loop-place.spokes p)) ∙ ap (λ (l : List Spoke). items_at c.loop-place.spokes p ++ l) (sym (marked_none c.args.marks.now p)) ∙ left
