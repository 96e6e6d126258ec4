use Rattle.std.proofs.Common.{◌+◌, ◌∙◌, sym}
use Rattle.map_parts.specs.Labels.{side_at}
use Rattle.map_parts.proofs.Rounds.{first-in, first-follows, at-next}
use Rattle.map_parts.proofs.Strings.{strings-kept}
use Rattle.map_parts.proofs.Linking.{link-both}
use Rattle.map_parts.proofs.building.link.Goals as goal

pub half_on-after-requires-clause-stars : goal.half_on-after-requires-clause-stars
half_on-after-requires-clause-stars g c = (c.args.table.now.rows, c.requires.strings)

pub link_half-requires : goal.link_half-requires
link_half-requires g c = (c.requires.here c.args.table.now.rows c.requires.strings).there

pub returns : goal.returns
returns g c =
    let m = c.args.map.now in
    let whole = c.requires.whole in
    let rows = c.args.table.now.rows in
    let strings = c.requires.strings in
    let new = c.link_half.new.table.rows in
    let b = c.args.boundary.now in
    let i = c.args.place in
    let there = c.requires.there in
    let goes = first-follows m whole b there i ∙ sym (at-next m whole b there i c.requires.place) in
    let it =
    link-both m whole rows new c.args.stars.now strings
    b there c.requires.before.0 (side_at i b.ring) (side_at (i + 1) b.ring) (first-in m whole b there i) c.requires.before.1 goes
    c.args.before.now c.args.here.now c.half_on-after.result (c.requires.before.2 rows strings) (c.requires.here rows strings) (c.half_on-after.ensures rows strings)
    c.link_half.ensures in
    record {
      after = c.half_on-after.ensures;
      strings = strings-kept m whole rows c.args.stars.now strings new c.link_half.ensures.has c.link_half.ensures.origin c.link_half.ensures.strings;
      linked = it.0;
      keeps = it.1;
    }
