use Rattle.std.proofs.Common.{sym, ◌∙◌}
use Rattle.map_parts.proofs.StringsAdded.{next-free, next-ends, strings-more}
use Rattle.map_parts.proofs.building.add_strings.Goals as goal

pub add_string-requires : goal.add_string-requires
add_string-requires g c =
    let at = rw c.unwrap-row.ensures at c.string_at.ensures in
    record { free = next-free c.args.map.now c.requires.whole c.loop-place.place c.loop-place.table.rows c.loop-place.stars c.loop-place.invariant c.unwrap-row.result.now (sym at) }

pub loop-place-init : goal.loop-place-init
loop-place-init g c =
    let none = c.requires.none in
    record { linked = none.linked; has = none.has; ends = none.ends; stars = λ p. c.in_ok-make_star_room.ensures p ∙ none.stars p }

pub loop-place-preserved : goal.loop-place-preserved
loop-place-preserved g c =
    let at = rw c.unwrap-row.ensures at c.string_at.ensures in
    let row = c.unwrap-row.result.now in
    strings-more c.args.map.now c.requires.whole c.loop-place.place c.loop-place.table.rows c.loop-place.stars c.loop-place.invariant row (sym at) c.add_string.new.table.rows c.add_string.new.stars
    c.in_ok-add_string.ensures.adds c.in_ok-add_string.ensures.linked (c.in_ok-add_string.ensures.stars (next-ends c.args.map.now c.requires.whole c.loop-place.place c.loop-place.table.rows c.loop-place.stars c.loop-place.invariant row (sym at)))
