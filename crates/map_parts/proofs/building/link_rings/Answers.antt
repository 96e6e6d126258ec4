use Rattle.std.proofs.Common.{◌≤◌, ◌<◌, ◌∙◌, ◌++◌, ◌∷◌, [], ap, sym, subst, take, length, rules, Some, arith}
use Rattle.std.proofs.lemmas.Option.{slice_get-get_or}
use Rattle.std.proofs.lemmas.List.{take_more, take_all}
use Rattle.cad_map.specs.declared.boundary.Boundary.{Boundary}
use Rattle.half_table.specs.declared.half.Half.{Half}
use Rattle.key_lists.specs.Held.{Held}
use Rattle.map_parts.specs.Labels.{HoldsRings}
use Rattle.map_parts.proofs.KeptHalves.{holds-more}
use Rattle.map_parts.proofs.Rounds.{rings-more, rings-all}
use Rattle.map_parts.proofs.Linking.{all-linked, all-local, all-labelled}
use Rattle.map_parts.proofs.building.link_rings.Goals as goal

pub loop-boundary-init : goal.loop-boundary-init
loop-boundary-init g c = record {
  strings = c.requires.strings;
  linked = λ i b less is. absurd (omega (arith, less));
  kept = λ rows strings. subst (λ (k : Held Half). HoldsRings c.args.map.now rows k []) (sym c.in_ok-kept.ensures.none) (λ n. tt);
}

pub loop-boundary-preserved : goal.loop-boundary-preserved
loop-boundary-preserved g c =
    let is = rw c.boundaries-boundary-items.ensures at c.boundary-item.is in
    let low : c.loop-boundary.boundary-index < length c.args.map.now.boundaries = search rules in
    let at = slice_get-get_or c.args.map.now.boundaries c.loop-boundary.boundary-index c.boundary-item.result low ∙ ap Some (sym is) in
    let b = c.boundary-item.result in
    let front = take c.loop-boundary.boundary-index c.args.map.now.boundaries in
    let more = take_more c.args.map.now.boundaries c.loop-boundary.boundary-index b low ∙ ap (λ (d : Boundary). front ++ d ∷ []) (sym is) in
    record {
      strings = c.link_ring-half.ensures.strings;
      linked = rings-more c.args.map.now c.loop-boundary.table.rows c.link_ring-half.new.table.rows c.loop-boundary.boundary-index b at c.link_ring-half.ensures.keeps c.link_ring-half.ensures.linked c.loop-boundary.invariant.linked;
      kept = λ rows strings. subst (HoldsRings c.args.map.now rows c.keep_half.new.kept) (sym more)
          (holds-more c.args.map.now rows c.loop-boundary.kept c.keep_half.new.kept front b c.link_ring-half.result
          (c.loop-boundary.invariant.kept rows strings) (c.link_ring-half.ensures.first rows strings)
          c.in_ok-keep_half.ensures.here c.in_ok-keep_half.ensures.others);
    }

pub returns : goal.returns
returns g c =
    let m = c.args.map.now in
    let table = c.loop-boundary.table.rows in
    let strings = c.loop-boundary.invariant.strings in
    let past : length m.boundaries ≤ c.loop-boundary.boundary-index = search rules in
    let linked = rings-all m table c.loop-boundary.boundary-index past c.loop-boundary.invariant.linked in
    record {
      strings = strings;
      linked = all-linked m c.requires.whole table c.args.stars.now strings linked;
      local = all-local m c.requires.whole table c.args.stars.now strings linked;
      labelled = all-labelled m c.requires.whole table c.args.stars.now strings linked;
      kept = λ rows strings.
          subst (HoldsRings m rows c.loop-boundary.kept) (take_all c.loop-boundary.boundary-index m.boundaries past) (c.loop-boundary.invariant.kept rows strings);
    }
