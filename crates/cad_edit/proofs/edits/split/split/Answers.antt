use Rattle.std.proofs.Common.{sym, [], ◌∷◌, ◌++◌, map, append_assoc}
use Rattle.cad_rows.specs.declared.rows.StringRow.{StringRow}
use Rattle.cad_rings.specs.Surgery.{put_on}
use Rattle.cad_map.specs.Boundaries.{bounding, canonical_order}
use Rattle.numbered_rows.specs.Rows.{without_row}
use Rattle.cad_map.proofs.CallerLemmas.{none-filter, none-push}
use Rattle.cad_edit.proofs.edits.split.split.Goals as goal

pub put_string-requires : goal.put_string-requires
put_string-requires c =
    rw (c.in_ok-put_point.ensures.ok, c.take_string.ensures) (none-filter (λ (r : StringRow). r.number) _ c.args.halves.now.first c.args.map.now.strings c.requires.first)

pub put_string-requires-2 : goal.put_string-requires-2
put_string-requires-2 c =
    rw (c.in_ok-put_string.ensures.ok, c.in_ok-put_point.ensures.ok, c.take_string.ensures)
    (none-push (λ (r : StringRow). r.number) c.args.halves.now.second _ _ c.requires.two (none-filter (λ (r : StringRow). r.number) _ c.args.halves.now.second c.args.map.now.strings c.requires.second))

pub returns : goal.returns
returns c =
    let found = sym c.in-Some.ensures in
    let m = c.args.map.now in
    let row = c.in-Some.row.now in
    let p = c.args.halves.now.point in
    let one : StringRow = record { number = c.args.halves.now.first; from = row.from; to = p; sources = row.sources } in
    let other : StringRow = record { number = c.args.halves.now.second; from = p; to = row.to; sources = row.sources } in
    rw (c.set_boundaries.ensures, c.in_ok-put_string-2.ensures.ok, c.in_ok-put_string.ensures.ok, c.in_ok-put_point.ensures.ok, c.take_string.ensures, c.in_ok-boundaries.ensures, c.in_ok-sources.ensures, c.new-sources.ensures, c.in_ok-row.ensures, found)
    (λ i. record m {
      points = m.points ++ record { number = p; position = c.args.halves.now.position; sources = [] } ∷ [];
      strings = append_assoc (without_row (λ r. r.number) row.number m.strings) (one ∷ []) (other ∷ []) i;
      boundaries = canonical_order (map (λ b. bounding b.face (put_on (row.to, row.from) p (put_on (row.from, row.to) p b.ring))) m.boundaries);
    })
