use Rattle.std.proofs.Common.{◌≤◌, ◌<◌, ◌-◌, ◌∙◌, length, rules, sym, subst, arith}
use Rattle.std.specs.List.{Contains}
use Rattle.cad_rings.specs.Cycle.{sides_of}
use Rattle.map_parts.specs.Labels.{side_at}
use Rattle.map_parts.proofs.Rounds.{first-in, first-follows, at-next, last-first, links-more, links-all}
use Rattle.map_parts.proofs.building.link_ring.Goals as goal

pub loop-place-init : goal.loop-place-init
loop-place-init g c =
    let m = c.args.map.now in
    let b = c.args.boundary.now in
    record {
      strings = c.requires.strings;
      before = (side_at (length b.ring - 1) b.ring, last-first m c.requires.whole b c.requires.there, rw c.len-sides.ensures.value at c.half_on-before.ensures);
      here = c.half_on-first.ensures;
      linked = λ i less. absurd (omega (arith, less));
      keeps = λ d s there on made. made;
    }

pub loop-place-preserved : goal.loop-place-preserved
loop-place-preserved g c =
    let m = c.args.map.now in
    let b = c.args.boundary.now in
    let there = c.requires.there in
    let i = c.loop-place.place in
    let low : i < length b.ring = search rules in
    record {
      strings = c.link-after.ensures.strings;
      before = (side_at i b.ring, first-follows m c.requires.whole b there i ∙ sym (at-next m c.requires.whole b there i low), c.loop-place.invariant.here);
      here = c.link-after.ensures.after;
      linked = links-more m c.requires.whole b there c.loop-place.table.rows c.link-after.new.table.rows i c.link-after.ensures.keeps c.link-after.ensures.linked c.loop-place.invariant.linked;
      keeps = λ d s at on made. c.link-after.ensures.keeps d s at on (c.loop-place.invariant.keeps d s at on made);
    }

pub returns-clause-first : goal.returns-clause-first
returns-clause-first g c rows strings =
    let along = c.half_on-first.ensures rows strings in
    let b = c.args.boundary.now in
    record {
      shown = along.shown;
      side = subst (Contains (sides_of b.ring)) (sym along.side) (first-in c.args.map.now c.requires.whole b c.requires.there 0);
    }

pub returns-clause-linked : goal.returns-clause-linked
returns-clause-linked g c =
    let past : length c.args.boundary.now.ring ≤ c.loop-place.place = search rules in
    links-all c.args.map.now c.requires.whole c.args.boundary.now c.requires.there c.loop-place.table.rows c.loop-place.place past c.loop-place.invariant.linked
