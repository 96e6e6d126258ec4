use Rattle.std.proofs.Common.{◌≡◌, ◌∙◌, ◌∷◌, ◌+◌, true, length, ap, arith}
use Rattle.half_table.specs.Count.{ticked}
use Rattle.half_table.specs.declared.half.Half.{Half}
use Rattle.half_table.specs.Rows.{has, next}
use Rattle.half_paths.proofs.Along.{keeps-on, in-kept}
use Rattle.half_paths.proofs.Exchanged.{last-all}
use Rattle.cad_laws.specs.Local.{side_by}
use Rattle.map_parts.proofs.TicksAdded.{two-steps}
use Rattle.map_parts.proofs.IslandTable.{more-away, more-old}
use Rattle.map_parts.proofs.ChainTable.{chain-goes}
use Rattle.map_parts.proofs.ChainAcross.{first-along, last-along}
use Rattle.map_parts.proofs.ChainCut.{mid-strung, taken-out}
use Rattle.map_parts.proofs.edits.chain.take_chain.Goals as goal

pub cut_path-requires-clause-last_in : goal.cut_path-requires-clause-last_in
cut_path-requires-clause-last_in g c =
    ap (has c.args.table.now.rows) c.last_half-last.ensures
    ∙ last-all (λ h. has c.args.table.now.rows h ≡ true) c.args.first.now c.args.rest.now c.requires.within

pub loosen-requires-clause-within : goal.loosen-requires-clause-within
loosen-requires-clause-within g c = in-kept c.args.table.now.rows c.cut_path.new.table.rows (c.args.first.now ∷ c.args.rest.now) c.cut_path.ensures.halves c.requires.within

pub loosen-requires-clause-strung : goal.loosen-requires-clause-strung
loosen-requires-clause-strung g c =
    mid-strung c.args.table.now.rows c.requires.linked c.args.first.now c.args.rest.now c.requires.different c.requires.tied.strung c.requires.tied.on_away c.requires.tied.back_away c.last_half-last.result c.last_half-last.ensures
    (next c.cut_path.new.table.rows) c.cut_path.ensures.next

pub returns : goal.returns
returns g c =
    let old = c.args.table.now.rows in
    let new = c.loosen.new.table.rows in
    let first : Half = c.args.first.now in
    let rest = c.args.rest.now in
    let path = first ∷ rest in
    let out =
    taken-out old c.requires.linked first rest c.requires.different c.requires.tied.strung c.requires.tied.on_away c.requires.tied.back_away c.last_half-last.result c.last_half-last.ensures
    (next c.cut_path.new.table.rows) c.cut_path.ensures.next (next new) c.loosen.ensures.next in
    let halves = keeps-on old c.cut_path.new.table.rows new c.cut_path.ensures.halves c.loosen.ensures.halves in
    record {
      loose = out.loose;
      enters = out.enters;
      returns = out.returns;
      others = out.others;
      local = λ whole parted chain fc lc parts long law more along local.
          let away = more-away whole parted path more in
          chain-goes whole parted chain long fc lc law parts old first rest more local along (first-along (side_by old) first rest chain long along) (last-along (side_by old) first rest chain long along) new c.loosen.ensures.linked
          (λ h shown. halves.has h ∙ local.there h (more-old whole parted path more h shown)) halves.origin
          (λ h shown is. out.enters h (away h shown) is) (λ h shown is. out.returns h (away h shown) is)
          (λ h shown far near. out.others h (away h shown) far near);
      halves = halves;
      linked = c.loosen.ensures.linked;
      work =
          let n = length rest in
          let w = c.args.table.now.work in
          let more : 2 + n ≡ n + 2 = omega arith in
          two-steps 2 n w c.cut_path.ensures.work c.loosen.ensures.work ∙ ap (λ k. ticked k w) more;
    }
