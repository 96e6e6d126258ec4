use Rattle.std.proofs.Common.{◌≡◌, sym, ◌∙◌, [], ◌∷◌, ◌++◌, map}
use Rattle.cad_rows.specs.declared.rows.StringRow.{StringRow}
use Rattle.cad_rings.specs.Surgery.{without}
use Rattle.cad_map.specs.Boundaries.{bounding, canonical_order}
use Rattle.cad_map.specs.Map.{strings_at}
use Rattle.numbered_rows.specs.Rows.{without_row}
use Rattle.cad_map.specs.Changes.{by_number, string_joining}
use Rattle.cad_map.proofs.CallerLemmas.{none-filter, meet-at, left-is, room-without}
use Rattle.cad_edit.proofs.edits.join.join.Goals as goal

pub rings_without-requires : goal.rings_without-requires
rings_without-requires c =
    let two = meet-at c.args.map.now c.args.point c.requires.two in
    room-without c.args.map.now c.requires.valid c.args.point two.first two.second two.are

pub put_string-requires : goal.put_string-requires
put_string-requires c =
    rw (c.take_point.ensures, c.take_string-2.ensures, c.take_string.ensures)
    (none-filter (λ (r : StringRow). r.number) _ c.args.string _ (none-filter (λ (r : StringRow). r.number) _ c.args.string c.args.map.now.strings c.requires.new))

pub returns : goal.returns
returns c =
    let m = c.args.map.now in
    let p = c.args.point in
    let s = c.in_ok-first.first in
    let t = c.in_ok-second.second in
    let are : by_number (strings_at m p) ≡ s ∷ t ∷ [] = c.two_found.ensures ∙ (λ i. sym c.in_ok-first.ensures i ∷ sym c.in_ok-second.ensures i ∷ []) in
    rw (c.set_boundaries.ensures, c.in_ok-put_string.ensures.ok, c.take_point.ensures, c.take_string-2.ensures, c.take_string.ensures, c.in_ok-boundaries.ensures, c.in_ok-both_sources.ensures, c.far_end.ensures, c.far_end-2.ensures)
    (λ i. record m {
      points = without_row (λ r. r.number) p m.points;
      strings = left-is m c.requires.valid p s t are i ++ string_joining p c.args.string (sym are i);
      boundaries = canonical_order (map (λ b. bounding b.face (without p b.ring)) m.boundaries);
    })
